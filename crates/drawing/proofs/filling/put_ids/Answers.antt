-- `put_ids` meets its contract: storing the ids from here on makes what storing all of them does.
use native.Mathlib.Omega.{arith}
use Rattle.drawing.proofs.Filled.{ids_turn}
use Rattle.drawing.proofs.filling.put_ids.Goals as goal

pub loop-i-preserved : goal.loop-i-preserved
loop-i-preserved c =
    let a = c.args in
    let l = c.loop-i in
    ids_turn a.s.now a.at a.width a.count a.ids.now a.to l.ids l.i l.invariant (omega arith) c.small_at.ensures.number
