-- Stores one after the other: what an entry holds after one more.
use Prim.Native.Nat.{ℕ, ◌<◌}
use native.Mathlib.Decide.{ℕ_discrete}
use mathlib.Core.Path.{◌≡◌, ap, ◌∙◌}
use mathlib.Core.Logic.{◌⊎◌, inl, inr}
use mathlib.Core.List.{List}
use lib.ListN.{length, get_or, set}
use lib.Seq.{get_or-set_same, get_or-set_other}

-- an entry is the one stored, or as before
pub stored_or_kept : (l : List ℕ) (i a v : ℕ) → i < length l → ((v ≡ i) × (get_or (set l i a) v 0 ≡ a)) ⊎ ((v ≡ i → ⊥) × (get_or (set l i a) v 0 ≡ get_or l v 0))
stored_or_kept l i a v h = by (ℕ_discrete v i)
  where
    by : Dec (v ≡ i) → ((v ≡ i) × (get_or (set l i a) v 0 ≡ a)) ⊎ ((v ≡ i → ⊥) × (get_or (set l i a) v 0 ≡ get_or l v 0))
    by (yes e) = inl (e, ap (λ (w : ℕ). get_or (set l i a) w 0) e ∙ get_or-set_same l i a 0 h)
    by (no apart) = inr (apart, get_or-set_other l i v a 0 apart)
