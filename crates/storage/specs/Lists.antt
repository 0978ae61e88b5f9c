-- Lists of ids in an array, seven places a node: how many, then the ids.
use Rattle.std.specs.Prelude.{ℕ, ◌+◌, ◌*◌, ◌≤◌, ◌<◌, ◌≡◌, List, length, get_or, take, drop}

-- how many ids node v's list has
abbrev pub size_at : List ℕ → ℕ → ℕ
size_at lists v = get_or lists (7 * v) 0

abbrev pub entry_at : List ℕ → ℕ → ℕ → ℕ
entry_at lists v i = get_or lists (7 * v + 1 + i) 0

-- node v's list
abbrev pub list_at : List ℕ → ℕ → List ℕ
list_at lists v = take (size_at lists v) (drop (7 * v + 1) lists)

-- There is room for the nodes' lists, and none has more than six ids.
pub record ListsIn (nodes : ℕ) (lists : List ℕ) : Type 0 where
  pub long : 7 * nodes ≤ length lists
  pub six : (v : ℕ) → v < nodes → size_at lists v ≤ 6

-- where v stands in a list
pub record Place (v : ℕ) (l : List ℕ) : Type 0 where
  pub at : ℕ
  pub inside : at < length l
  pub entry : get_or l at 0 ≡ v
