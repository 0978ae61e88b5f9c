-- A rule that holds at each entry of a table, from one test over the whole of it that antt computes.
use mathlib.Core.Path.{◌∙◌, subst, sym}
use mathlib.Core.Bool.{Bool, true, false, ◌&&◌}
use mathlib.Core.List.{List, [], ◌∷◌}
use Prim.Native.Nat.{ℕ, zero, suc, ◌+◌, ◌<◌}
use native.Mathlib.Nat.{add-zero, zero-add, add-suc, suc-add, le_of_suc-le-suc, not-suc-le-zero}
use lib.Dec.{T}
use lib.ListN.{length, get_or}

-- the test passes at each entry and its place, counted from i
abbrev pub every_from : (ℕ → ℕ → Bool) → ℕ → List ℕ → Bool
every_from test i [] = true
every_from test i (x ∷ xs) = test i x && every_from test (suc i) xs

both : (a b : Bool) → T (a && b) → T a × T b
both true b t = (tt, t)
both false b t = absurd t

from : (test : ℕ → ℕ → Bool) (xs : List ℕ) (i : ℕ) → T (every_from test i xs) → (k : ℕ) → k < length xs → T (test (i + k) (get_or xs k 0))
from test [] i t k h = absurd (not-suc-le-zero h)
from test (x ∷ xs) i t zero h =
    subst (λ (m : ℕ). T (test m x)) (sym (add-zero i)) (both (test i x) (every_from test (suc i) xs) t).0
from test (x ∷ xs) i t (suc k) h =
    subst (λ (m : ℕ). T (test m (get_or xs k 0))) (suc-add i k ∙ sym (add-suc i k))
    (from test xs (suc i) (both (test i x) (every_from test (suc i) xs) t).1 k (le_of_suc-le-suc h))

pub each_entry : (test : ℕ → ℕ → Bool) (xs : List ℕ) → T (every_from test 0 xs) → (k : ℕ) → k < length xs → T (test k (get_or xs k 0))
each_entry test xs t k h = subst (λ (m : ℕ). T (test m (get_or xs k 0))) (zero-add k) (from test xs 0 t k h)
