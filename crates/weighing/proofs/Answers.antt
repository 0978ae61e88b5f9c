-- Each promise has one answer: two replies that it allows are equal, and so are the later contents of what is lent.
use Prim.Native.Nat.{ℕ, ◌<◌}
use native.Mathlib.Omega.{arith}
use mathlib.Core.Path.{◌≡◌, refl, ap, sym, subst, ◌∙◌}
use mathlib.Core.Bool.{true}
use mathlib.Core.List.{List}
use Rattle.storage.specs.declared.Node.{Node}
use Rattle.theory.specs.paper.Net.{Net}
use Rattle.theory.specs.paper.Walk.{Cut}
use Rattle.theory.specs.paper.Cover.{Luts}
use Rattle.std.specs.Prelude.{⊤, Result, Err}
use Rattle.weighing.specs.declared.luts.LutFault.{LutFault}
use Rattle.weighing.specs.declared.luts.LutFault.TheVariants as lut-fault
use Rattle.weighing.specs.declared.whole.WholeFault.{WholeFault}
use Rattle.weighing.specs.declared.whole.WholeFault.TheVariants as whole-fault
use Rattle.weighing.specs.PassThree.{LutKept, KeptBelow, LutsRuled, LutsAnswered}
use Rattle.weighing.specs.PassFour.{WholeRuled, WholeAnswered}

-- of two that are both lowest neither is below the other
lowest : (a b : ℕ) → (a < b → ⊥) → (b < a → ⊥) → a ≡ b
lowest a b p q = omega arith

node_of : ℕ → Node
node_of id = record { id = id }

-- Pass three

module _ {net : Net} {tables : ℕ → ℕ} {k : ℕ} {luts : Luts} {table : ℕ → ℕ} where
  same_root : {r q : ℕ} → luts.root r ≡ true → luts.root q ≡ true → KeptBelow net tables k luts table r → KeptBelow net tables k luts table q →
      (LutKept net tables k luts table r → ⊥) → (LutKept net tables k luts table q → ⊥) → r ≡ q
  same_root {r} {q} at at' below below' broken broken' = lowest r q (λ less. broken (below' r less at)) (λ less. broken' (below q less at'))

  pub luts_one : {r r' : Result ⊤ LutFault} → LutsRuled net tables k luts table r → LutsRuled net tables k luts table r' → r ≡ r'
  unfolding node_of
  luts_one (LutsRuled.kept each) (LutsRuled.kept each') = refl
  luts_one (LutsRuled.kept each) (LutsRuled.cut at below none) = absurd (none (each _ at).cut)
  luts_one (LutsRuled.kept each) (LutsRuled.function at below cut none) = absurd (none (each _ at).function)
  luts_one (LutsRuled.cut at below none) (LutsRuled.kept each) = absurd (none (each _ at).cut)
  luts_one (LutsRuled.function at below cut none) (LutsRuled.kept each) = absurd (none (each _ at).function)
  luts_one (LutsRuled.cut at below none) (LutsRuled.cut at' below' none') =
      ap (λ (x : ℕ). Err (lut-fault.Cut (node_of x))) (same_root at at' below below' (λ kept. none kept.cut) (λ kept. none' kept.cut))
  luts_one (LutsRuled.function at below cut none) (LutsRuled.function at' below' cut' none') =
      ap (λ (x : ℕ). Err (lut-fault.Function (node_of x))) (same_root at at' below below' (λ kept. none kept.function) (λ kept. none' kept.function))
  luts_one (LutsRuled.cut at below none) (LutsRuled.function at' below' cut' none') =
      let same = same_root at at' below below' (λ kept. none kept.cut) (λ kept. none' kept.function) in
      absurd (none (subst (λ (x : ℕ). Cut net k x (luts.leaves x)) (sym same) cut'))
  luts_one (LutsRuled.function at below cut none) (LutsRuled.cut at' below' none') =
      let same = same_root at at' below below' (λ kept. none kept.function) (λ kept. none' kept.cut) in
      absurd (none' (subst (λ (x : ℕ). Cut net k x (luts.leaves x)) same cut))

pub luts_answer_once : {inputs nodes k : ℕ} {fanins rows luts cuts tables roles values : List ℕ} {r r' : Result ⊤ LutFault} {roles' roles'' values' values'' : List ℕ} →
    LutsAnswered inputs nodes k fanins rows luts cuts tables roles values r roles' values' →
    LutsAnswered inputs nodes k fanins rows luts cuts tables roles values r' roles'' values'' → (r ≡ r') × (roles' ≡ roles'') × (values' ≡ values'')
luts_answer_once p q =
    (luts_one p.reply q.reply, p.roles_clear ∙ sym q.roles_clear, p.values_clear ∙ sym q.values_clear)

-- Pass four

pub whole_one : {net : Net} {outputs : List ℕ} {luts : Luts} {lab : ℕ → ℕ} {depth : ℕ} {r r' : Result ⊤ WholeFault} →
    WholeRuled net outputs luts lab depth r → WholeRuled net outputs luts lab depth r' → r ≡ r'
unfolding node_of
whole_one (WholeRuled.kept each d) (WholeRuled.kept each' d') = refl
whole_one (WholeRuled.kept each d) (WholeRuled.cover gate below none) = absurd (none (each _ gate))
whole_one (WholeRuled.kept each d) (WholeRuled.depth_broken each' none) = absurd (none d)
whole_one (WholeRuled.cover gate below none) (WholeRuled.kept each d) = absurd (none (each _ gate))
whole_one (WholeRuled.cover {g = g} gate below none) (WholeRuled.cover {g = h} gate' below' none') =
    ap (λ (x : ℕ). Err (whole-fault.Cover (node_of x))) (lowest g h (λ less. none (below' g gate less)) (λ less. none' (below h gate' less)))
whole_one (WholeRuled.cover gate below none) (WholeRuled.depth_broken each none') = absurd (none (each _ gate))
whole_one (WholeRuled.depth_broken each none) (WholeRuled.kept each' d) = absurd (none d)
whole_one (WholeRuled.depth_broken each none) (WholeRuled.cover gate below none') = absurd (none' (each _ gate))
whole_one (WholeRuled.depth_broken each none) (WholeRuled.depth_broken each' none') = refl

pub whole_answer_once : {inputs nodes : ℕ} {luts cuts outputs labels : List ℕ} {depth : ℕ} {wanted depths : List ℕ} {r r' : Result ⊤ WholeFault}
    {wanted' wanted'' depths' depths'' : List ℕ} → WholeAnswered inputs nodes luts cuts outputs labels depth wanted depths r wanted' depths' →
    WholeAnswered inputs nodes luts cuts outputs labels depth wanted depths r' wanted'' depths'' → (r ≡ r') × (wanted' ≡ wanted'') × (depths' ≡ depths'')
whole_answer_once p q =
    (whole_one p.reply q.reply, p.wanted_clear ∙ sym q.wanted_clear, p.depths_clear ∙ sym q.depths_clear)
