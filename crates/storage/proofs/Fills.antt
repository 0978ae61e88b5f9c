-- One entry more of a list's first ones is filled, whatever the entries are.
use Prim.Native.Nat.{ℕ, zero, suc, ◌+◌, ◌<◌}
use native.Mathlib.Nat.{le_of_suc-le-suc, not-suc-le-zero}
use native.Mathlib.Numerals.{add-one}
use mathlib.Core.Path.{◌≡◌, refl, ap}
use mathlib.Core.List.{List, [], ◌∷◌, ◌++◌}
use lib.ListN.{length, set, drop, replicate}

module _ {X : Type 0} (value : X) where
  one_more : (n : ℕ) (l : List X) → n < length l → set (replicate n value ++ drop n l) n value ≡ replicate (suc n) value ++ drop (suc n) l
  one_more n [] low = absurd (not-suc-le-zero low)
  one_more zero (x ∷ l) low = refl
  one_more (suc n) (x ∷ l) low = ap (λ (t : List X). value ∷ t) (one_more n l (le_of_suc-le-suc low))

  pub fill_more : (n : ℕ) (l : List X) → n < length l → set (replicate n value ++ drop n l) n value ≡ replicate (n + 1) value ++ drop (n + 1) l
  fill_more n l low = rw add-one (one_more n l low)
