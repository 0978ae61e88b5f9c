-- Words on lists of node ids.
use Rattle.std.specs.Prelude.{ℕ, max, ◌<◌}
use mathlib.Core.List.{List, [], ◌∷◌, Memᴰ}

-- the list rises strictly: how a set of leaves is written ("Leaves rise strictly.")
pub data Rising : List ℕ → Type 0 where
  none : Rising []
  one : {v : ℕ} → Rising (v ∷ [])
  more : {u v : ℕ} {vs : List ℕ} → u < v → Rising (v ∷ vs) → Rising (u ∷ v ∷ vs)

-- no member stands twice in the list
pub data NoRepeats : List ℕ → Type 0 where
  none : NoRepeats []
  more : {v : ℕ} {vs : List ℕ} → (Memᴰ v vs → ⊥) → NoRepeats vs → NoRepeats (v ∷ vs)

-- the greatest number of a list; of none it is 0
unfoldable pub greatest : List ℕ → ℕ
greatest [] = 0
greatest (d ∷ ds) = max d (greatest ds)
