-- The first rule that is broken: there is one reply; it is that of the first part of a list where that has one, else of the second. And the gates
-- along which rules are tried: the numbers from one on.
use Prim.Native.Nat.{ℕ, zero, suc, ◌+◌, ◌-◌, ◌≤◌, ◌<◌}
use native.Mathlib.Decide.{ℕ_discrete}
use native.Mathlib.Numerals.{add-one}
use native.Mathlib.Omega.{arith}
use mathlib.Core.Path.{◌≡◌, refl, sym, ap, ◌∙◌}
use mathlib.Core.Logic.{◌⊎◌, inl, inr, ⊎_elim}
use mathlib.Core.List.Memᴰ
use mathlib.Core.List.{List, [], ◌∷◌, ◌++◌, flat_map, Memᴰ}
use Rattle.sheet.specs.paper.Rules.{Rule, Found, FirstBroken, from}

module _ {Kept : Rule → Type 0} where
  pub first_is_one : {rs : List Rule} {x y : Found} → FirstBroken Kept rs x → FirstBroken Kept rs y → x ≡ y
  first_is_one FirstBroken.kept FirstBroken.kept = refl
  first_is_one (FirstBroken.here none) (FirstBroken.here none') = refl
  first_is_one (FirstBroken.here none) (FirstBroken.later k rest) = absurd (none k)
  first_is_one (FirstBroken.later k rest) (FirstBroken.here none) = absurd (none k)
  first_is_one (FirstBroken.later k rest) (FirstBroken.later k' rest') = first_is_one rest rest'

  -- Appended lists

  pub first_before : {rs : List Rule} {r : Rule} (ss : List Rule) → FirstBroken Kept rs (Found.broken r) → FirstBroken Kept (rs ++ ss) (Found.broken r)
  first_before ss (FirstBroken.here none) = FirstBroken.here none
  first_before ss (FirstBroken.later k rest) = FirstBroken.later k (first_before ss rest)

  pub first_after : {rs ss : List Rule} {x : Found} → FirstBroken Kept rs Found.none → FirstBroken Kept ss x → FirstBroken Kept (rs ++ ss) x
  first_after FirstBroken.kept second = second
  first_after (FirstBroken.later k rest) second = FirstBroken.later k (first_after rest second)

  -- All kept

  pub none_keeps : {rs : List Rule} → FirstBroken Kept rs Found.none → (r : Rule) → Memᴰ r rs → Kept r
  none_keeps FirstBroken.kept r m = absurd (Memᴰ.not-nil m)
  none_keeps (FirstBroken.later {r = q} {rs = rs} k rest) r m =
      ⊎_elim (λ (e : r ≡ q). rw e k) (λ (late : Memᴰ r rs). none_keeps rest r late) (Memᴰ.cases_cons m)

  pub keeps_none : (rs : List Rule) → ((r : Rule) → Memᴰ r rs → Kept r) → FirstBroken Kept rs Found.none
  keeps_none [] each = FirstBroken.kept
  keeps_none (r ∷ rs) each = FirstBroken.later (each r (Memᴰ.head refl)) (keeps_none rs (λ q m. each q (Memᴰ.tail m)))

-- what is kept in one sense exactly if it is kept in another
pub first_as : {Kept Kept' : Rule → Type 0} → ((r : Rule) → Kept r → Kept' r) → ((r : Rule) → Kept' r → Kept r) → {rs : List Rule} {x : Found} →
    FirstBroken Kept rs x → FirstBroken Kept' rs x
first_as to back FirstBroken.kept = FirstBroken.kept
first_as to back (FirstBroken.here {r = r} none) = FirstBroken.here (λ k. none (back r k))
first_as to back (FirstBroken.later {r = r} k rest) = FirstBroken.later (to r k) (first_as to back rest)

pub first_none : {A : Type 0} {Kept : Rule → Type 0} {rules : A → List Rule} (xs : List A) → ((x : A) → Memᴰ x xs → FirstBroken Kept (rules x) Found.none) →
    FirstBroken Kept (flat_map rules xs) Found.none
unfolding flat_map
first_none [] each = FirstBroken.kept
first_none (x ∷ xs) each = first_after (each x (Memᴰ.head refl)) (first_none xs (λ y m. each y (Memᴰ.tail m)))

-- The numbers from one on

pub from_more : (t n : ℕ) → t < n → from t (n - t) ≡ t ∷ from (t + 1) (n - (t + 1))
unfolding from
from_more t n low =
    let count : n - t ≡ suc (n - (t + 1)) = omega arith in
    ap (from t) count ∙ ap (λ (v : ℕ). t ∷ from v (n - (t + 1))) (sym (add-one t))

pub from_none : (t n : ℕ) → n ≤ t → from t (n - t) ≡ []
unfolding from
from_none t n high = let count : n - t ≡ 0 = omega arith in ap (from t) count

pub member_from : (v count u : ℕ) → v ≤ u → u < v + count → Memᴰ u (from v count)
unfolding from
member_from v zero u low high = absurd (omega arith)
member_from v (suc count) u low high = at (member_from (suc v) count u) (ℕ_discrete u v)
  where
    at : (suc v ≤ u → u < suc v + count → Memᴰ u (from (suc v) count)) → Dec (u ≡ v) → Memᴰ u (v ∷ from (suc v) count)
    at later (yes e) = Memᴰ.head e
    at later (no other) = Memᴰ.tail (later (omega (arith, other)) (omega arith))

pub from_member : (v count u : ℕ) → Memᴰ u (from v count) → (v ≤ u) × (u < v + count)
unfolding from
from_member v zero u m = absurd (Memᴰ.not-nil m)
from_member v (suc count) u m = at (from_member (suc v) count u) (Memᴰ.cases_cons m)
  where
    at : (Memᴰ u (from (suc v) count) → (suc v ≤ u) × (u < suc v + count)) → (u ≡ v) ⊎ Memᴰ u (from (suc v) count) → (v ≤ u) × (u < v + suc count)
    at later (inl e) = (omega arith, omega arith)
    at later (inr there) = let (low, high) = later there in (omega arith, omega arith)
