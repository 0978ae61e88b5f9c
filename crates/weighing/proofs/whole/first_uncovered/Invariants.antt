-- `first_uncovered` meets its contract: at the gates passed roots and marks agree.
use Rattle.weighing.proofs.Wanted.{SameBelow}
use Rattle.weighing.proofs.whole.first_uncovered.Given as goal

abbrev pub invariant-loop-v : goal.invariant-loop-v
invariant-loop-v l = SameBelow l.fn.numbers.inputs l.luts l.wanted l.v
