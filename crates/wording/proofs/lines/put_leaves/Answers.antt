-- `put_leaves` meets its contract: what is left to put is the text of the other leaves.
use mathlib.Core.Path.{refl}
use Rattle.wording.specs.paper.Text.{leaf_text}
use Rattle.wording.proofs.Listed.{each_room, each_turn, each_end}
use Rattle.wording.proofs.lines.put_leaves.Goals as goal

pub named-requires : goal.named-requires
unfolding leaf_text
named-requires c =
    each_room leaf_text c.args.leaves.now c.loop-id.invariant c.loop-id-test.true refl

pub loop-id-preserved : goal.loop-id-preserved
unfolding leaf_text
loop-id-preserved c =
    each_turn leaf_text c.args.leaves.now c.loop-id.invariant c.loop-id-test.true refl
    c.named.ensures

pub returns : goal.returns
returns c =
    each_end leaf_text c.args.leaves.now c.loop-id.invariant c.loop-id-test.false
