-- `put_ids` meets its contract: the ids passed are written.
use Rattle.sheet.proofs.Parts.{IdsWritten}
use Rattle.sheet.proofs.bytes.put_ids.Given as goal

abbrev pub invariant-loop-id : goal.invariant-loop-id
invariant-loop-id l = IdsWritten l.initial.sheet l.at l.ids l.width l.sheet l.next l.id-index
