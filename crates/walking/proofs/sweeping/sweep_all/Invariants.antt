-- `sweep_all` meets its contract: the sweeps from here on give what all sweeps give.
use Prim.Native.Nat.{◌-◌}
use Rattle.walking.proofs.SweepLoops.{SweepsLeft}
use Rattle.walking.proofs.sweeping.sweep_all.Given as goal

abbrev pub invariant-loop-placed : goal.invariant-loop-placed
invariant-loop-placed l = SweepsLeft l.numbers.inputs l.numbers.nodes l.fanins l.initial.order l.initial.marks l.order l.marks l.placed

abbrev pub decreases-loop-placed : goal.decreases-loop-placed
decreases-loop-placed l = l.gates - l.placed
