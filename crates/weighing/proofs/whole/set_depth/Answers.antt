-- `set_depth` meets its contract.
use native.Mathlib.Omega.{arith}
use Prim.Native.Nat.{suc}
use native.Mathlib.Numerals.{add-one}
use mathlib.Core.Path.{refl, ap, sym, ◌∙◌}
use lib.ListN.{set}
use Rattle.weighing.proofs.Deep.{depth_asked, depth_at_lem}
use Rattle.weighing.proofs.whole.set_depth.Goals as goal

pub depth-deepest-requires : goal.depth-deepest-requires
depth-deepest-requires c =
    let pre = c.requires in
    depth_asked pre c.list_at.ensures

pub above-requires : goal.above-requires
above-requires c =
    let p = c.requires in
    omega (arith, depth_at_lem p c.list_at.ensures c.depth-deepest.ensures, p.small)

pub returns-then-luts-v-eq1 : goal.returns-then-luts-v-eq1
returns-then-luts-v-eq1 c =
    let a = c.args in
    let pre = c.requires in
    let found = depth_at_lem pre c.list_at.ensures c.depth-deepest.ensures in
    record {
      root =
          λ _.
          c.put_label.ensures
          ∙ ap (set a.depths.now a.node.id) (c.above.ensures ∙ ap suc found ∙ sym (add-one _));
      other = λ out. absurd (out c.if-luts-v-eq1.true);
    }

pub returns-else-luts-v-eq1 : goal.returns-else-luts-v-eq1
returns-else-luts-v-eq1 c = record { root = λ one. absurd (c.if-luts-v-eq1.false one); other = λ _. refl }
