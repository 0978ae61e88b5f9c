-- Marks of nodes, and tests that tell whether something holds.
use Rattle.std.specs.Prelude.{ℕ, ◌<◌, ◌≡◌, Bool, true, false, ◌⊎◌, List, map, get_or}

-- A bool that tells whether P holds.
pub record Tells (P : Type 0) (r : Bool) : Type 0 where
  pub yes : r ≡ true → P
  pub no : r ≡ false → P → ⊥

-- The first `nodes` entries are 1 at the nodes that have the property, and 0 at the others.
pub record Marks (nodes : ℕ) (P : ℕ → Type 0) (marks : List ℕ) : Type 0 where
  pub bit : (v : ℕ) → v < nodes → (get_or marks v 0 ≡ 0) ⊎ (get_or marks v 0 ≡ 1)
  pub holds : (v : ℕ) → v < nodes → get_or marks v 0 ≡ 1 → P v
  pub marked : (v : ℕ) → v < nodes → P v → get_or marks v 0 ≡ 1

-- Roles are marks of several kinds in one entry a node; a view of them is the marks of one kind.
abbrev pub view : (ℕ → ℕ) → List ℕ → List ℕ
view f roles = map f roles
