-- Roles by their marks: each view is of 0 and 1, a test of a role is one of the marks that it stands for, and a walk's role is known by its two.
use Prim.Native.Nat.{ℕ, zero, suc, ◌+◌, ◌*◌, ◌%◌, ◌≤◌}
use native.Mathlib.Decide.{ℕ_discrete}
use native.Mathlib.Omega.{arith}
use mathlib.Core.Path.{◌≡◌, refl, ap, ap₂, sym, ◌∙◌}
use mathlib.Core.Bool.{Bool, true, false, ◌||◌}
use mathlib.Core.Logic.{◌⊎◌, inl, inr}
use mathlib.Core.List.{List}
use lib.Dec.{eqb}
use lib.ListN.{get_or}
use borrow.Author.Tests.{ne_eqb}
use Rattle.theory.specs.paper.Values.{bit}
use Rattle.storage.specs.Marks.{Tells}
use Rattle.storage.specs.Roles.{walked_bit, met_bit, deep_bit, area_bit, end_bit, walked_in, met_in, deep_in, area_in, ends_in}
use Rattle.storage.proofs.InMarks.{tells_yes, tells_no}
use Rattle.storage.proofs.Views.{view_at}

-- Marks of 0 and 1

bit_or : (b : Bool) → (bit b ≡ 0) ⊎ (bit b ≡ 1)
bit_or true = inr refl
bit_or false = inl refl

bit_tells : (b : Bool) → Tells (bit b ≡ 1) b
bit_tells true = tells_yes refl
bit_tells false = tells_no (λ e. omega arith)

module _ (r : ℕ) where
  pub walked_or : (walked_bit r ≡ 0) ⊎ (walked_bit r ≡ 1)
  unfolding walked_bit
  walked_or = bit_or (eqb r 1 || eqb r 3)

  met_or : (met_bit r ≡ 0) ⊎ (met_bit r ≡ 1)
  unfolding met_bit
  met_or = bit_or (eqb r 2 || eqb r 3)

-- The roles of a walk

module _ {r : ℕ} where
  pub met_both : (r ≡ 2 → ⊥) → Tells (met_bit r ≡ 1) (eqb r 3)
  unfolding met_bit
  met_both apart = rw (ne_eqb r 2 apart) (bit_tells (eqb r 3))

role_of : (r : ℕ) → r ≤ 3 → r ≡ walked_bit r + 2 * met_bit r
unfolding walked_bit met_bit
role_of zero low = refl
role_of (suc zero) low = refl
role_of (suc (suc zero)) low = refl
role_of (suc (suc (suc zero))) low = refl
role_of (suc (suc (suc (suc r)))) low = absurd (omega arith)

-- a role of a walk is known by its two marks
pub role_one : {r s : ℕ} → r ≤ 3 → s ≤ 3 → walked_bit r ≡ walked_bit s → met_bit r ≡ met_bit s → r ≡ s
role_one {r} {s} r-low s-low walked met = omega (arith, role_of r r-low, role_of s s-low)

-- Views, entry by entry

module _ (roles : List ℕ) (v : ℕ) where
  pub walked_at : get_or (walked_in roles) v 0 ≡ walked_bit (get_or roles v 0)
  unfolding walked_bit
  walked_at = view_at walked_bit refl roles v

  -- the one test of a role of a walk
  pub walked_odd : get_or roles v 0 ≤ 3 → get_or (walked_in roles) v 0 ≡ get_or roles v 0 % 2
  walked_odd low = walked_at ∙ either (walked_or (get_or roles v 0))
    where
      either : (walked_bit (get_or roles v 0) ≡ 0) ⊎ (walked_bit (get_or roles v 0) ≡ 1) → walked_bit (get_or roles v 0) ≡ get_or roles v 0 % 2
      either (inl none) = omega (arith, role_of (get_or roles v 0) low)
      either (inr some) = omega (arith, role_of (get_or roles v 0) low)

  pub met_at : get_or (met_in roles) v 0 ≡ met_bit (get_or roles v 0)
  unfolding met_bit
  met_at = view_at met_bit refl roles v

  pub deep_at : get_or (deep_in roles) v 0 ≡ deep_bit (get_or roles v 0)
  unfolding deep_bit
  deep_at = view_at deep_bit refl roles v

  pub area_at : get_or (area_in roles) v 0 ≡ area_bit (get_or roles v 0)
  unfolding area_bit
  area_at = view_at area_bit refl roles v

  pub ends_at : get_or (ends_in roles) v 0 ≡ end_bit (get_or roles v 0)
  unfolding end_bit
  ends_at = view_at end_bit refl roles v

  pub walked_bit_lem : (get_or (walked_in roles) v 0 ≡ 0) ⊎ (get_or (walked_in roles) v 0 ≡ 1)
  walked_bit_lem = rw walked_at (walked_or (get_or roles v 0))

  pub met_bit_lem : (get_or (met_in roles) v 0 ≡ 0) ⊎ (get_or (met_in roles) v 0 ≡ 1)
  met_bit_lem = rw met_at (met_or (get_or roles v 0))

  -- The area and its ends

  pub end_role : get_or roles v 0 ≡ 6 → get_or (ends_in roles) v 0 ≡ 1
  unfolding end_bit
  end_role e = ends_at ∙ ap end_bit e

  -- an end that no path has taken
  pub role_of_end : get_or (ends_in roles) v 0 ≡ 1 → get_or (area_in roles) v 0 ≡ 1 → get_or roles v 0 ≡ 6
  unfolding end_bit area_bit
  role_of_end e inside = by_role (get_or roles v 0) (sym ends_at ∙ e) (sym area_at ∙ inside)
    where
      by_role : (r : ℕ) → end_bit r ≡ 1 → area_bit r ≡ 1 → r ≡ 6
      by_role r p q = by_kind (ℕ_discrete r 6) (ℕ_discrete r 8)
        where
          by_kind : Dec (r ≡ 6) → Dec (r ≡ 8) → r ≡ 6
          by_kind (yes same) _ = same
          by_kind (no apart) (yes taken) = let z : ◌≡◌ {A = ℕ} 0 1 = ap area_bit (sym taken) ∙ q in absurd (omega arith)
          by_kind (no apart) (no far) =
              let z : ◌≡◌ {A = ℕ} 0 1 = ap₂ (λ (a b : Bool). bit (a || b)) (sym (ne_eqb r 6 apart)) (sym (ne_eqb r 8 far)) ∙ p in absurd (omega arith)
