-- `put_ids` meets its contract: storing the ids from here on makes what storing all of them does.
use Rattle.drawing.proofs.Filled.{IdsLeft}
use Rattle.drawing.proofs.filling.put_ids.Given as goal

abbrev pub invariant-loop-i : goal.invariant-loop-i
invariant-loop-i l = IdsLeft l.s l.at l.width l.count l.initial.ids l.to l.ids l.i
