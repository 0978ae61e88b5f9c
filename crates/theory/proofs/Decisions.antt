-- What can be decided by trying. Proofs that only split on a decision use `Dec`, since it carries what was found; where something is computed
-- it is a test (Tests), from which a decision follows. The two that are here in full have no test to follow from: the second part is decided
-- only where the first holds, or the property only at the list's members.
use Prim.Native.Nat.{ℕ, ◌<◌}
use mathlib.Core.Path.{◌≡◌, refl, subst}
use mathlib.Core.Logic.{⊎_elim}
use mathlib.Core.Bool.{decide}
use mathlib.Core.List.Memᴰ
use mathlib.Core.List.{List, [], ◌∷◌, Memᴰ}
use Rattle.theory.proofs.Tests.{decided, decides_decision, decides_member, decides_some_below}

pub decide_both : {A B : Type 0} → Dec A → (A → Dec B) → Dec (A × B)
decide_both {A} {B} (yes a) second = with_second (second a)
  where
    with_second : Dec B → Dec (A × B)
    with_second (yes b) = yes (a, b)
    with_second (no none) = no (λ both. none both.1)
decide_both (no none) second = no (λ both. none both.0)

-- membership of a number
pub decide_member : (v : ℕ) (l : List ℕ) → Dec (Memᴰ v l)
decide_member v l = decided (decides_member v l)

-- some member of a list has a property
pub decide_some : (P : ℕ → Type 0) (l : List ℕ) → ((v : ℕ) → Memᴰ v l → Dec (P v)) → Dec ((v : ℕ) × Memᴰ v l × P v)
decide_some P [] each = no (λ some. Memᴰ.not-nil some.1)
decide_some P (u ∷ l) each = either (each u (Memᴰ.head refl)) (decide_some P l (λ v m. each v (Memᴰ.tail m)))
  where
    either : Dec (P u) → Dec ((v : ℕ) × Memᴰ v l × P v) → Dec ((v : ℕ) × Memᴰ v (u ∷ l) × P v)
    either (yes p) rest = yes (u, Memᴰ.head refl, p)
    either (no none) (yes some) = yes (some.0, Memᴰ.tail some.1, some.2)
    either (no none) (no rest) =
        no (λ some. ⊎_elim (λ (e : some.0 ≡ u). none (subst P e some.2)) (λ m. rest (some.0, m, some.2)) (Memᴰ.cases_cons some.1))

-- some number below a bound has a property
pub decide_some_below : (P : ℕ → Type 0) (n : ℕ) → ((v : ℕ) → Dec (P v)) → Dec ((v : ℕ) × (v < n) × P v)
decide_some_below P n each = decided (decides_some_below n (λ v. decide (each v)) (λ v _. decides_decision (each v)))
