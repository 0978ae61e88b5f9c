-- `sweep` meets its contract: the turns from here on give what all turns give.
use Rattle.walking.proofs.SweepLoops.{SweepLeft}
use Rattle.walking.proofs.sweeping.sweep.Given as goal

abbrev pub invariant-loop-v : goal.invariant-loop-v
invariant-loop-v l = SweepLeft l.fn.numbers.inputs l.fn.numbers.nodes l.fanins l.initial.order l.initial.marks l.size l.order l.marks l.placed l.v
