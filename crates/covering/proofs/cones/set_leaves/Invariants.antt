-- `set_leaves` meets its contract: the leaves passed have their bits.
use Rattle.covering.specs.Cones.{LeavesSet}
use Rattle.covering.proofs.cones.set_leaves.Given as goal

abbrev pub invariant-loop-i : goal.invariant-loop-i
invariant-loop-i l = LeavesSet l.leaves l.i l.row l.initial.values l.values
