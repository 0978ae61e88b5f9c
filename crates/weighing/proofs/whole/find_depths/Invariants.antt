-- `find_depths` meets its contract: the roots among the gates passed have their depths.
use Rattle.weighing.proofs.Deep.{DepthsUpto}
use Rattle.weighing.proofs.whole.find_depths.Given as goal

abbrev pub invariant-loop-i : goal.invariant-loop-i
invariant-loop-i l = DepthsUpto l.inputs l.nodes l.order l.luts l.cuts l.initial.depths l.i l.depths
