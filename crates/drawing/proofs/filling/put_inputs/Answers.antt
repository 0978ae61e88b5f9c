-- `put_inputs` meets its contract: the inputs passed have no fanins.
use Prim.Native.Nat.{ℕ, ◌*◌}
use mathlib.Core.Path.{refl, ap, ◌∙◌}
use mathlib.Core.List.{List}
use lib.ListN.{set}
use Rattle.drawing.specs.Reading.{no_fanins}
use Rattle.drawing.proofs.Filled.{no_fanins_more}
use Rattle.drawing.proofs.filling.put_inputs.Goals as goal

pub loop-v-init : goal.loop-v-init
unfolding no_fanins
loop-v-init c = refl

pub loop-v-preserved : goal.loop-v-preserved
loop-v-preserved c =
    let l = c.loop-v in
    ap (λ (x : List ℕ). set x (7 * l.v) 0) l.invariant ∙ no_fanins_more c.args.fanins.now l.v
