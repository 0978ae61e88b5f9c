-- The first rule that is broken, along LUTs whose roots rise and along gates: it is at the lowest that breaks a rule.
use Prim.Native.Nat.{ℕ, zero, suc, ◌<◌}
use native.Mathlib.Omega.{arith}
use mathlib.Core.Path.{◌≡◌, refl, subst}
use mathlib.Core.List.Memᴰ
use mathlib.Core.List.{List, ◌∷◌, ◌++◌, flat_map, Memᴰ}
use mathlib.Core.Logic.{⊎_elim}
use Rattle.sheet.specs.paper.Sheet.{Lut, Roots}
use Rattle.sheet.specs.paper.Rules.{Rule, Found, FirstBroken, from}
use Rattle.sheet.proofs.Firsts.{first_before, first_after, from_member}
use Rattle.sheet.proofs.Listed.{root_gate}

-- it is at the first of a list, or the first keeps its rules and it is later
first_step : {A : Type 0} {Kept : Rule → Type 0} (rules : A → List Rule) {x y : A} {xs : List A} {r : Rule} → Memᴰ x (y ∷ xs) →
    (Memᴰ x xs → FirstBroken Kept (rules y) Found.none) → (Memᴰ x xs → FirstBroken Kept (flat_map rules xs) (Found.broken r)) →
    FirstBroken Kept (rules x) (Found.broken r) → FirstBroken Kept (rules y ++ flat_map rules xs) (Found.broken r)
first_step {A} {Kept} rules {x} {y} {xs} {r} m passed later at =
    ⊎_elim (λ (e : x ≡ y). first_before (flat_map rules xs) (subst (λ (z : A). FirstBroken Kept (rules z) (Found.broken r)) e at))
    (λ (late : Memᴰ x xs). first_after (passed late) (later late)) (Memᴰ.cases_cons m)

pub first_lut : {Kept : Rule → Type 0} {rules : Lut → List Rule} {nodes least : ℕ} {luts : List Lut} → Roots nodes least luts → {lut : Lut} → Memᴰ lut luts →
    ((y : Lut) → Memᴰ y luts → y.root < lut.root → FirstBroken Kept (rules y) Found.none) → {r : Rule} → FirstBroken Kept (rules lut) (Found.broken r) →
    FirstBroken Kept (flat_map rules luts) (Found.broken r)
unfolding flat_map
first_lut Roots.none m before at = absurd (Memᴰ.not-nil m)
first_lut {rules = rules} (Roots.more {lut = y} low high rest) {lut} m before at =
    first_step rules m (λ late. let (above, below) = root_gate rest lut late in before y (Memᴰ.head refl) (omega arith))
    (λ late. first_lut rest late (λ z n. before z (Memᴰ.tail n)) at) at

pub first_gate : {Kept : Rule → Type 0} {rules : ℕ → List Rule} (v count : ℕ) {g : ℕ} → Memᴰ g (from v count) →
    ((h : ℕ) → Memᴰ h (from v count) → h < g → FirstBroken Kept (rules h) Found.none) → {r : Rule} → FirstBroken Kept (rules g) (Found.broken r) →
    FirstBroken Kept (flat_map rules (from v count)) (Found.broken r)
unfolding flat_map from
first_gate v zero m before at = absurd (Memᴰ.not-nil m)
first_gate {rules = rules} v (suc count) {g} m before at =
    first_step rules m (λ late. let (low, high) = from_member (suc v) count g late in before v (Memᴰ.head refl) (omega arith))
    (λ late. first_gate (suc v) count late (λ h n. before h (Memᴰ.tail n)) at) at
