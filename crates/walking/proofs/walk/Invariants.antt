-- `walk` meets its contract: the gates from place i on had their turn.
use Prim.Native.Nat.{◌≤◌, ◌-◌}
use Rattle.walking.proofs.WalkLoops.{Walking}
use Rattle.walking.proofs.walk.Given as goal

abbrev pub invariant-loop-i : goal.invariant-loop-i
invariant-loop-i l = (l.i ≤ l.nodes - l.inputs) × Walking l.inputs l.nodes l.net.fanins.now l.net.order.now l.start l.leaves l.initial.roles l.i l.roles

abbrev pub decreases-loop-i : goal.decreases-loop-i
decreases-loop-i l = l.i
