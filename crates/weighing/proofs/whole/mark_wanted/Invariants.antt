-- `mark_wanted` meets its contract: the marks are at the outputs and at the leaves of the roots passed.
use lib.ListN.{take}
use Rattle.weighing.proofs.Wanted.{WantedUpto}
use Rattle.weighing.proofs.whole.mark_wanted.Given as goal

abbrev pub invariant-loop-v : goal.invariant-loop-v
invariant-loop-v l = WantedUpto l.inputs l.nodes l.luts l.cuts (take l.number l.outputs) l.initial.wanted l.v l.wanted
