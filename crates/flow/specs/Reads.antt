-- What the reader of a path promises.
use Rattle.std.specs.Prelude.{ℕ, ◌*◌, ◌≤◌, ◌<◌, ◌≡◌, Option, None, Some, List, [], length, get_or}
use Rattle.std.proofs.lemmas.List.Edits.{sets}
use Rattle.storage.specs.declared.Node.{Node}
use Rattle.flow.specs.Paths.{starts_in, paths_in}

-- Links that have room for the drawing's nodes.
pub record ReadAsked (inputs nodes : ℕ) (links : List ℕ) : Type 0 where
  pub span : inputs ≤ nodes
  pub small : nodes ≤ 32767
  pub links_long : 5 * nodes ≤ length links

-- the i-th of the inputs at which paths start, if there are so many
pub data StartRead (inputs nodes : ℕ) (links : List ℕ) (i : ℕ) (r : Option Node) : Type 0 where
  starts : (v : Node) → r ≡ Some v → i < length (starts_in inputs nodes links) → get_or (starts_in inputs nodes links) i 0 ≡ v.id →
      StartRead inputs nodes links i r
  missing : r ≡ None → length (starts_in inputs nodes links) ≤ i → StartRead inputs nodes links i r

-- The ids stand at the front of the third column, which the paths leave free, and r is their number; all else is as before.
pub record Listed (ids : List ℕ) (nodes : ℕ) (links : List ℕ) (r : ℕ) (links' : List ℕ) : Type 0 where
  pub count : r ≡ length ids
  pub written : links' ≡ sets links (2 * nodes) ids

-- The i-th path was read; beyond the last path nothing is.
abbrev pub PathRead : (inputs nodes : ℕ) (links : List ℕ) (i r : ℕ) (links' : List ℕ) → Type 0
PathRead inputs nodes links i r links' = Listed (get_or (paths_in inputs nodes links) i []) nodes links r links'
