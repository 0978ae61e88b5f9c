-- `put_number` meets its contract: the low bytes passed stand at the end of the number's place.
use Rattle.sheet.proofs.Writes.{LowStored}
use Rattle.sheet.proofs.bytes.put_number.Given as goal

abbrev pub invariant-loop-place : goal.invariant-loop-place
invariant-loop-place l = LowStored l.initial.sheet l.at l.number l.width l.sheet l.rest l.place

abbrev pub decreases-loop-place : goal.decreases-loop-place
decreases-loop-place l = l.place
