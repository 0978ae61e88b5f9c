-- `split` meets its contract: the nodes passed have become what they should, and the others are as at the start.
use native.Mathlib.Omega.{arith}
use Rattle.area.proofs.Splits.{split_more}
use Rattle.area.proofs.passes.split.Goals as goal

pub loop-v-preserved : goal.loop-v-preserved
loop-v-preserved c =
    split_more c.loop-v.invariant (omega (arith, c.requires.roles_long)) c.label_of.ensures c.turned.ensures
