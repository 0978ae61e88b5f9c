-- Tests for what a case needs besides what the theory decides: that lists and tables are the same, that roots rise, that paths are given only
-- where they are due, and that every gate behind a gate with evidence is in D.
use Prim.Native.Nat.{ℕ, suc}
use mathlib.Core.Path.{◌≡◌, refl, ap}
use mathlib.Core.Bool.{Bool, true, false, not, ◌&&◌, ◌||◌, false≢true}
use mathlib.Core.List.{List, [], ◌∷◌}
use lib.Dec.{leb, ltb, eqb}
use borrow.Author.Tests.{eqb-true}
use Rattle.theory.specs.paper.Net.{Net, Gate}
use Rattle.theory.specs.paper.Lists.{greatest}
use Rattle.theory.specs.paper.Sound.{Bounded}
use Rattle.theory.specs.paper.Walk.{Behind}
use Rattle.theory.specs.paper.Evidence.{peak, Owes}
use Rattle.theory.proofs.Tests.{Decides, decides_as, decides_itself, passed, ◌and_then◌, decides_not, decides_if, decides_le, decides_lt, decides_equal, decides_below, every_below}
use Rattle.theory.proofs.DecideNet.{is_gate, decides_gate}
use Rattle.theory.proofs.DecideCut.{is_behind, decides_behind}
use Rattle.drawing.specs.paper.Fields.{Verdict}
use Rattle.std.specs.Prelude.{Ok, Err}
use Rattle.drawing.specs.paper.Table.{GateLine, Table}
use Rattle.sheet.specs.paper.Sheet.{Lut, Roots}

-- where a test and a second pass, both do
pub both : {a b : Bool} → a && b ≡ true → (a ≡ true) × (b ≡ true)
both {a} {b} = (decides_itself a and_then (λ _. decides_itself b)).holds

-- is it the same list?
unfoldable pub is_same : {A : Type 0} → (A → A → Bool) → List A → List A → Bool
is_same same [] [] = true
is_same same [] (y ∷ ys) = false
is_same same (x ∷ xs) [] = false
is_same same (x ∷ xs) (y ∷ ys) = same x y && is_same same xs ys

module _ {A : Type 0} (same : A → A → Bool) (one : (x y : A) → same x y ≡ true → x ≡ y) where
  pub same_list : (xs ys : List A) → is_same same xs ys ≡ true → xs ≡ ys
  unfolding is_same
  same_list [] [] e = refl
  same_list [] (y ∷ ys) e = absurd (false≢true e)
  same_list (x ∷ xs) [] e = absurd (false≢true e)
  same_list (x ∷ xs) (y ∷ ys) e = let (first, rest) = both e in λ i. one x y first i ∷ same_list xs ys rest i

unfoldable pub is_same_numbers : List ℕ → List ℕ → Bool
unfolding is_same
is_same_numbers = is_same eqb

pub same_numbers : (xs ys : List ℕ) → is_same_numbers xs ys ≡ true → xs ≡ ys
unfolding is_same_numbers
same_numbers = same_list eqb eqb-true

-- is it the same table?
unfoldable is_same_gate : GateLine → GateLine → Bool
unfolding is_same_numbers
is_same_gate a b = is_same_numbers a.fanins b.fanins && eqb a.table b.table

same_gate : (a b : GateLine) → is_same_gate a b ≡ true → a ≡ b
unfolding is_same_gate
same_gate a b e =
    let (fanins, table) = both e in
    λ i. record { fanins = same_numbers a.fanins b.fanins fanins i; table = eqb-true a.table b.table table i }

unfoldable pub is_same_table : Table → Table → Bool
unfolding is_same is_same_gate is_same_numbers
is_same_table a b = eqb a.k b.k && eqb a.inputs b.inputs && is_same is_same_gate a.gates b.gates && is_same_numbers a.outputs b.outputs

pub same_table : (a b : Table) → is_same_table a b ≡ true → a ≡ b
unfolding is_same_table
same_table a b e =
    let (front, outputs) = both e in
    let (numbers, gates) = both front in
    let (k, inputs) = both numbers in
    λ i. record {
      k = eqb-true a.k b.k k i;
      inputs = eqb-true a.inputs b.inputs inputs i;
      gates = same_list is_same_gate same_gate a.gates b.gates gates i;
      outputs = same_numbers a.outputs b.outputs outputs i;
    }

abbrev pub is_sound : Verdict → Bool
is_sound (Ok _) = true
is_sound (Err r) = false

pub sound_verdict : (v : Verdict) → is_sound v ≡ true → v ≡ Ok tt
sound_verdict (Ok _) e = refl
sound_verdict (Err r) e = absurd (false≢true e)

-- are the roots gates, and do they rise?
unfoldable pub are_roots : (nodes least : ℕ) → List Lut → Bool
are_roots nodes least [] = true
are_roots nodes least (lut ∷ luts) = leb least lut.root && ltb lut.root nodes && are_roots nodes (suc lut.root) luts

pub roots_rise : (nodes least : ℕ) (luts : List Lut) → are_roots nodes least luts ≡ true → Roots nodes least luts
unfolding are_roots
roots_rise nodes least [] e = Roots.none
roots_rise nodes least (lut ∷ luts) e =
    let (here, rest) = both e in
    let (low, high) = (decides_le least lut.root and_then (λ _. decides_lt lut.root nodes)).holds here in
    Roots.more low high (roots_rise nodes (suc lut.root) luts rest)

-- is evidence due?
unfoldable pub is_owing : Net → (ℕ → ℕ) → ℕ → Bool
unfolding peak greatest
is_owing net lab t = eqb (lab t) (suc (peak net lab t)) && leb 1 (peak net lab t)

pub decides_owing : (net : Net) (lab : ℕ → ℕ) (t : ℕ) → Decides (is_owing net lab t) (Owes net lab t)
unfolding is_owing
decides_owing net lab t =
    decides_as (λ k. record { above = k.0; some = k.1 }) (λ o. (o.above, o.some))
    (decides_equal (lab t) (suc (peak net lab t)) and_then (λ _. decides_le 1 (peak net lab t)))

abbrev is_none : List (List ℕ) → Bool
is_none [] = true
is_none (path ∷ paths) = false

decides_none : (paths : List (List ℕ)) → Decides (is_none paths) (paths ≡ [])
decides_none [] = record { holds = λ _. refl; passes = λ _. refl }
decides_none (path ∷ paths) = record { holds = λ e. absurd (false≢true e); passes = λ e. ap is_none e }

-- are there no paths where none are due?
unfoldable pub is_fair : Net → (ℕ → ℕ) → (ℕ → List (List ℕ)) → Bool
unfolding every_below is_gate is_owing
is_fair net lab paths = every_below net.nodes (λ t. not (is_gate net t) || (not (not (is_owing net lab t)) || is_none (paths t)))

abbrev pub Fair : Net → (ℕ → ℕ) → (ℕ → List (List ℕ)) → Type 0
Fair net lab paths = (t : ℕ) → Gate net t → (Owes net lab t → ⊥) → paths t ≡ []

pub fair : (net : Net) (lab : ℕ → ℕ) (paths : ℕ → List (List ℕ)) → is_fair net lab paths ≡ true → Fair net lab paths
unfolding is_fair
fair net lab paths =
    passed
    (decides_below net.nodes _ (λ t _. decides_if (decides_gate net t) (λ _. decides_if (decides_not (decides_owing net lab t)) (λ _. decides_none (paths t)))))
    (λ h t gate. h t gate.below gate)

-- is every gate behind a gate with evidence in D?
unfoldable pub is_deep : Net → (ℕ → ℕ) → Bool
unfolding every_below is_gate is_owing is_behind peak greatest
is_deep net lab =
    every_below net.nodes (λ t. not (is_gate net t) || (not (is_owing net lab t) ||
    every_below net.nodes (λ v. not (is_gate net v) || (not (is_behind net t v) || eqb (lab v) (peak net lab t)))))

-- every gate behind a gate with evidence has its greatest fanin label
abbrev pub Deep : Net → (ℕ → ℕ) → Type 0
Deep net lab = (t : ℕ) → Gate net t → Owes net lab t → (v : ℕ) → Gate net v → Behind net t v → lab v ≡ peak net lab t

pub deep : {net : Net} {k : ℕ} → Bounded net k → (lab : ℕ → ℕ) → is_deep net lab ≡ true → Deep net lab
unfolding is_deep
deep {net} bounded lab =
    passed
    (decides_below net.nodes _ (λ t node. decides_if (decides_gate net t) (λ _. decides_if (decides_owing net lab t) (λ _.
    decides_below net.nodes _ (λ v _. decides_if (decides_gate net v) (λ _. decides_if (decides_behind bounded node v) (λ _.
    decides_equal (lab v) (peak net lab t))))))))
    (λ h t gate owes v other. h t gate.below gate owes v other.below other)
