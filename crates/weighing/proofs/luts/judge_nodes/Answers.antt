-- `judge_nodes` meets its contract: the LUTs at the nodes passed keep both rules.
use native.Mathlib.Omega.{arith}
use Rattle.std.proofs.lemmas.Result.{err_from_is_err_and}
use Rattle.weighing.proofs.Rulings.{node_asked, nodes_stop, nodes_more, nodes_all}
use Rattle.weighing.proofs.luts.judge_nodes.Goals as goal

pub judge_node-requires : goal.judge_node-requires
judge_node-requires c = node_asked c.requires c.loop-v.invariant c.loop-v.auto.v c.loop-v-test.true

pub returns-in_err-judge_node : goal.returns-in_err-judge_node
returns-in_err-judge_node c =
    let handed = err_from_is_err_and c.from_residual.result c.from_residual.ensures.1 in
    rw (handed.1, handed.2) (nodes_stop c.requires c.loop-v.invariant (rw c.in_err-judge_node.was at c.judge_node.ensures))

pub loop-v-preserved : goal.loop-v-preserved
loop-v-preserved c = nodes_more c.requires c.loop-v.invariant (rw c.in_ok-judge_node.was at c.judge_node.ensures)

pub returns : goal.returns
returns c = nodes_all c.requires c.loop-v.invariant (omega (arith, c.loop-v-test.false))
