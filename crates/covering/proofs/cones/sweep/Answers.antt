-- `sweep` meets its contract: the gates passed have their results.
use native.Mathlib.Omega.{arith}
use Rattle.covering.proofs.Sweeps.{swept_more}
use Rattle.covering.proofs.cones.sweep.Goals as goal

pub loop-i-preserved : goal.loop-i-preserved
loop-i-preserved c =
    let a = c.args in
    let pre = c.requires in
    let l = c.loop-i in
    swept_more a.fanins.now a.rows.now a.order.now a.values.now a.upto l.i pre
    (omega arith) l.invariant (rw c.node_at.ensures at c.settle_gate.ensures)
