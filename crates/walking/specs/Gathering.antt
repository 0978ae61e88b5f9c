-- A list of gates that grows in an array with marks beside it: what the functions inside this crate pass on to each other.
use Rattle.std.specs.Prelude.{ℕ, ◌+◌, ◌-◌, ◌≤◌, ◌<◌, ◌≡◌, cond, ◌||◌, ◌⊎◌, length, get_or, set, take, ltb}
use mathlib.Core.List.{List, [], ◌∷◌, ◌++◌, Memᴰ}
use Rattle.storage.specs.Drawings.{Drawn}
use Rattle.storage.specs.Entries.{Beyond}
use Rattle.storage.specs.Marks.{Marks}
use Rattle.theory.specs.paper.Lists.{NoRepeats}
use Rattle.theory.specs.Members.{is_member}

abbrev pub AllMarked : (us marks : List ℕ) → Type 0
AllMarked us marks = (u : ℕ) → Memᴰ u us → get_or marks u 0 ≡ 1

-- An unmarked node finds room in the list and in the marks.
pub record AddRoom (list marks : List ℕ) (size v : ℕ) : Type 0 where
  pub list_room : (get_or marks v 0 ≡ 1 → ⊥) → size < length list
  pub marks_room : v < length marks

-- Node v is put behind the others and marked, unless it is marked, or one of the nodes `us` is not.
pub data Added (us : List ℕ) (v : ℕ) (list marks : List ℕ) (size : ℕ) (list' marks' : List ℕ) (size' : ℕ) : Type 0 where
  marked : get_or marks v 0 ≡ 1 → list' ≡ list → marks' ≡ marks → size' ≡ size → Added us v list marks size list' marks' size'
  waits : (AllMarked us marks → ⊥) → list' ≡ list → marks' ≡ marks → size' ≡ size → Added us v list marks size list' marks' size'
  added : (get_or marks v 0 ≡ 1 → ⊥) → AllMarked us marks → list' ≡ set list size v → marks' ≡ set marks v 1 → size' ≡ size + 1 →
      Added us v list marks size list' marks' size'

-- an input, or listed
abbrev pub Settled : (inputs : ℕ) → List ℕ → ℕ → Type 0
Settled inputs l v = (v < inputs) ⊎ Memᴰ v l

-- The first `size` entries of `list` are gates, none twice, and the marks are at the inputs and at the gates listed.
pub record Listing (inputs nodes : ℕ) (fanins list marks : List ℕ) (size : ℕ) : Type 0 where
  pub drawn : Drawn inputs nodes 6 fanins
  pub small : nodes ≤ 32767
  pub list_long : nodes ≤ inputs + length list
  pub marks_long : nodes ≤ length marks
  pub few : inputs + size ≤ nodes
  pub gates : (v : ℕ) → Memᴰ v (take size list) → (inputs ≤ v) × (v < nodes)
  pub once : NoRepeats (take size list)
  pub settled : Marks nodes (Settled inputs (take size list)) marks

-- beyond the gates' entries and the nodes' marks all is as before
pub record Kept (inputs nodes : ℕ) (list marks list' marks' : List ℕ) : Type 0 where
  pub list_rest : Beyond (nodes - inputs) list list'
  pub marks_rest : Beyond nodes marks marks'

-- The list is now `l`.
pub record Listed (inputs nodes : ℕ) (fanins list marks list' marks' : List ℕ) (size' : ℕ) (l : List ℕ) : Type 0 where
  pub listing : Listing inputs nodes fanins list' marks' size'
  pub entries : take size' list' ≡ l
  pub kept : Kept inputs nodes list marks list' marks'

-- a node's turn in the search back: listed, unless it is an input or listed
unfoldable pub noted : (inputs : ℕ) → List ℕ → ℕ → List ℕ
noted inputs l v = cond (ltb v inputs || is_member v l) l (l ++ (v ∷ []))

unfoldable pub noted_all : (inputs : ℕ) → List ℕ → List ℕ → List ℕ
noted_all inputs l [] = l
noted_all inputs l (u ∷ us) = noted_all inputs (noted inputs l u) us
