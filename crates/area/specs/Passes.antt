-- What each pass over the roles leaves, in terms of the arrays alone.
use Rattle.std.specs.Prelude.{ℕ, ◌≤◌, ◌<◌, ◌≡◌, ◌⊎◌, length, get_or}
use mathlib.Core.List.{List, Memᴰ}
use Rattle.storage.specs.Entries.{Beyond}
use Rattle.storage.specs.Lists.{list_at}
use Rattle.storage.specs.Roles.{met_bit}
use Rattle.storage.specs.Drawings.{Fed}

-- v is the gate itself, or no input, met on the walk back, and has label p
abbrev pub IsDeep : (inputs gate p v label met : ℕ) → Type 0
IsDeep inputs gate p v label met = (v ≡ gate) ⊎ ((inputs ≤ v) × (met ≡ 1) × (label ≡ p))

abbrev pub DeepAt : (inputs gate p : ℕ) (labels roles : List ℕ) (v : ℕ) → Type 0
DeepAt inputs gate p labels roles v = IsDeep inputs gate p v (get_or labels v 0) (met_bit (get_or roles v 0))

abbrev pub MetAt : (roles : List ℕ) (v : ℕ) → Type 0
MetAt roles v = met_bit (get_or roles v 0) ≡ 1

-- the role of a node by whether it is in D, and whether it is met: in D, in the area or away
pub data Becomes (deep met : Type 0) : ℕ → Type 0 where
  within : deep → Becomes deep met 4
  outside : (deep → ⊥) → met → Becomes deep met 5
  away : (deep → ⊥) → (met → ⊥) → Becomes deep met 0

-- the first pass

pub record SplitAsked (nodes : ℕ) (labels roles : List ℕ) : Type 0 where
  pub small : nodes ≤ 32767
  pub labels_long : nodes ≤ length labels
  pub roles_long : nodes ≤ length roles

-- each of the first `nodes` entries has become what it should, and the others are as before
pub record Split (inputs nodes gate p : ℕ) (labels roles₀ roles : List ℕ) : Type 0 where
  pub each : (v : ℕ) → v < nodes → Becomes (DeepAt inputs gate p labels roles₀ v) (MetAt roles₀ v) (get_or roles v 0)
  pub rest : Beyond nodes roles₀ roles

-- the second pass

-- v is one of the fanins, lay in the area and is an end now; or it is as before
abbrev pub FaninAt : (fanins before after : List ℕ) (v : ℕ) → Type 0
FaninAt fanins before after v = (Memᴰ v fanins × (get_or before v 0 ≡ 5) × (get_or after v 0 ≡ 6)) ⊎ (get_or after v 0 ≡ get_or before v 0)

-- the fanins of one gate that lie in the area are ends now, and nothing else is touched
pub record FaninsMarked (fanins before after : List ℕ) : Type 0 where
  pub all : (v : ℕ) → Memᴰ v fanins → get_or after v 0 ≡ 5 → ⊥
  pub each : (v : ℕ) → FaninAt fanins before after v

-- v lies in the area and is a fanin of a node of D below `bound`
pub record EndIn (bound : ℕ) (fanins roles : List ℕ) (v : ℕ) : Type 0 where
  pub inside : get_or roles v 0 ≡ 5
  pub member : ℕ
  pub below : member < bound
  pub chosen : get_or roles member 0 ≡ 4
  pub feeds : Memᴰ v (list_at fanins member)

pub record EndsAsked (nodes : ℕ) (fanins roles : List ℕ) : Type 0 where
  pub small : nodes ≤ 32767
  pub fed : (v : ℕ) → v < nodes → Fed fanins v nodes
  pub roles_long : nodes ≤ length roles

abbrev pub EndAt : (bound : ℕ) (fanins roles₀ roles : List ℕ) (v : ℕ) → Type 0
EndAt bound fanins roles₀ roles v =
    (EndIn bound fanins roles₀ v × (get_or roles v 0 ≡ 6)) ⊎ ((EndIn bound fanins roles₀ v → ⊥) × (get_or roles v 0 ≡ get_or roles₀ v 0))

-- the ends by the nodes of D below `bound` are ends now, and nothing else is touched
pub record EndsMarked (bound : ℕ) (fanins roles₀ roles : List ℕ) : Type 0 where
  pub size : length roles ≡ length roles₀
  pub each : (v : ℕ) → EndAt bound fanins roles₀ roles v
