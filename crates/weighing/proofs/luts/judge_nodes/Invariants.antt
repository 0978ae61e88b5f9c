-- `judge_nodes` meets its contract: the LUTs at the nodes passed keep both rules.
use Rattle.weighing.proofs.Rulings.{NodesPassed}
use Rattle.weighing.proofs.luts.judge_nodes.Given as goal

abbrev pub invariant-loop-v : goal.invariant-loop-v
invariant-loop-v l = NodesPassed l.net.numbers.inputs l.net.numbers.nodes l.net.numbers.k.leaves l.net.fanins.now l.rows l.luts l.cuts l.tables l.initial.roles l.initial.values
    l.v l.roles l.values
