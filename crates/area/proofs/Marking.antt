-- The promises leave no choice: a role that the marking of an area leaves is known by its marks.
use Prim.Native.Nat.{ℕ, suc, ◌≤◌, ◌<◌}
use native.Mathlib.Decide.{ℕ_discrete, dec_lt}
use native.Mathlib.Omega.{arith}
use mathlib.Core.Path.{◌≡◌, refl, sym, ◌∙◌}
use mathlib.Core.Logic.{◌⊎◌, inl, inr}
use mathlib.Core.List.{List}
use lib.ListN.{get_or}
use lib.Seq.{ext_get_or}
use Rattle.theory.specs.paper.Net.{Net}
use Rattle.storage.specs.Roles.{deep_bit, area_bit, end_bit}
use Rattle.storage.proofs.Clears.{beyond_entry}
use Rattle.storage.proofs.InMarks.{marks_inside}
use Rattle.storage.proofs.InRoles.{deep_at, area_at, ends_at}
use Rattle.area.specs.Area.{PeakIn, AreaMarked}

-- a role that the marking of an area leaves is known by its marks
data Kind : ℕ → Type 0 where
  away : Kind 0
  deep : Kind 4
  area : Kind 5
  end : Kind 6

kind_of : (r : ℕ) → (r ≡ 0) ⊎ (4 ≤ r) × (r ≤ 6) → Kind r
kind_of r (inl e) = rw e Kind.away
kind_of r (inr (low, high)) = by_value (ℕ_discrete r 4) (ℕ_discrete r 5)
  where
    by_value : Dec (r ≡ 4) → Dec (r ≡ 5) → Kind r
    by_value (yes e) five = rw e Kind.deep
    by_value (no four) (yes e) = rw e Kind.area
    by_value (no four) (no five) = let e : r ≡ 6 = omega arith in rw e Kind.end

kind_one : {r s : ℕ} → Kind r → Kind s → deep_bit r ≡ deep_bit s → area_bit r ≡ area_bit s → end_bit r ≡ end_bit s → r ≡ s
unfolding deep_bit area_bit end_bit
kind_one Kind.away Kind.away d a e = refl
kind_one Kind.away Kind.deep d a e = omega arith
kind_one Kind.away Kind.area d a e = omega arith
kind_one Kind.away Kind.end d a e = omega arith
kind_one Kind.deep Kind.away d a e = omega arith
kind_one Kind.deep Kind.deep d a e = refl
kind_one Kind.deep Kind.area d a e = omega arith
kind_one Kind.deep Kind.end d a e = omega arith
kind_one Kind.area Kind.away d a e = omega arith
kind_one Kind.area Kind.deep d a e = omega arith
kind_one Kind.area Kind.area d a e = refl
kind_one Kind.area Kind.end d a e = omega arith
kind_one Kind.end Kind.away d a e = omega arith
kind_one Kind.end Kind.deep d a e = omega arith
kind_one Kind.end Kind.area d a e = omega arith
kind_one Kind.end Kind.end d a e = refl

-- two outcomes of `mark_area`, and two replies of `peak`
pub area_one : {net : Net} {lab : ℕ → ℕ} {t : ℕ} {roles₀ roles roles' : List ℕ} → AreaMarked net lab t roles₀ roles →
    AreaMarked net lab t roles₀ roles' → roles ≡ roles'
area_one {net} {roles₀ = roles₀} {roles = roles} {roles' = roles'} a b =
    ext_get_or 0 roles roles' (a.rest.size ∙ sym b.rest.size) (λ v _. by_place v (dec_lt v net.nodes))
  where
    by_place : (v : ℕ) → Dec (v < net.nodes) → get_or roles v 0 ≡ get_or roles' v 0
    by_place v (yes low) =
        kind_one (kind_of (get_or roles v 0) (a.kinds v low)) (kind_of (get_or roles' v 0) (b.kinds v low))
        (sym (deep_at roles v) ∙ marks_inside a.deep_marked b.deep_marked v low ∙ deep_at roles' v)
        (sym (area_at roles v) ∙ marks_inside a.area_marked b.area_marked v low ∙ area_at roles' v)
        (sym (ends_at roles v) ∙ marks_inside a.ends_marked b.ends_marked v low ∙ ends_at roles' v)
    by_place v (no high) = beyond_entry a.rest v (omega arith) ∙ sym (beyond_entry b.rest v (omega arith))

pub peak_one : (fanins : List ℕ) (gate : ℕ) (labels : List ℕ) {p q : ℕ} → PeakIn fanins gate labels p → PeakIn fanins gate labels q → p ≡ q
peak_one fanins gate labels a b = a 0 (suc gate) (omega arith) ∙ sym (b 0 (suc gate) (omega arith))
