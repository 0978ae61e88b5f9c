-- `find_depths` meets its contract: the roots among the gates passed have their depths.
use native.Mathlib.Omega.{arith}
use Rattle.weighing.proofs.Deep.{depths_begin, depth_fits, depths_more, depths_all}
use Rattle.weighing.proofs.whole.find_depths.Goals as goal

pub overflow_sub-gates : goal.overflow_sub-gates
overflow_sub-gates c =
    let pre = c.requires in
    pre.chosen.span

pub loop-i-init : goal.loop-i-init
loop-i-init c =
    let pre = c.requires in
    depths_begin pre

pub node_at-requires : goal.node_at-requires
node_at-requires c =
    let pre = c.requires in
    omega (arith, pre.chosen.order_long, c.loop-i-test.true)

pub set_depth-requires : goal.set_depth-requires
set_depth-requires c =
    let loop-test = c.loop-i-test in
    let loop = c.loop-i in
    let pre = c.requires in
    rw c.node_at.ensures (depth_fits pre loop.i loop-test.true loop.invariant)

pub loop-i-preserved : goal.loop-i-preserved
loop-i-preserved c =
    let loop-test = c.loop-i-test in
    let loop = c.loop-i in
    let pre = c.requires in
    depths_more pre loop.i loop-test.true loop.invariant
    (rw c.node_at.ensures at c.set_depth.ensures)

pub shape_of-depths : goal.shape_of-depths
shape_of-depths c = c.loop-i.invariant.rest.size

pub returns : goal.returns
returns c =
    let pre = c.requires in
    depths_all pre (omega (arith, c.loop-i-test.false)) c.loop-i.invariant
