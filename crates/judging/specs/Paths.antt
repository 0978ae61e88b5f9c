-- Evidence checked node by node, with a mark at each node that a path may still take: the tests, and what the functions that make them ask and
-- leave.
use Rattle.std.specs.Prelude.{ℕ, ◌+◌, ◌*◌, ◌≤◌, ◌<◌, ◌≡◌, Bool, true, false, ◌&&◌, List, [], ◌∷◌, length, get_or, set, ltb, eqb}
use Rattle.theory.specs.Members.{is_member}
use Rattle.theory.specs.paper.Evidence.{joined}
use Rattle.storage.specs.Entries.{Beyond}
use Rattle.storage.specs.Lists.{list_at}
use Rattle.storage.specs.Roles.{area_bit, end_bit, area_in, ends_in}
use Rattle.storage.specs.Drawings.{Fed}
use Rattle.drawing.specs.paper.Bytes.{ids_at}
use Rattle.sheet.specs.paper.Shape.{paths_at, paths_use, some_empty}
use Rattle.sheet.specs.Shape.{Below}

abbrev pub is_marked : List ℕ → ℕ → Bool
is_marked marks v = eqb (get_or marks v 0) 1

-- a node that a path has taken is free no more
unfoldable pub after_path : (free : List ℕ) → List ℕ → List ℕ
after_path free [] = free
after_path free (v ∷ vs) = after_path (set free v 0) vs

module _ (fanins ends : List ℕ) where
  -- from u the path "goes from fanin to gate", each node free, and "its last node" is an end
  unfoldable pub goes_on : (free : List ℕ) → ℕ → List ℕ → Bool
  goes_on free u [] = is_marked ends u
  goes_on free u (v ∷ vs) = (is_member u (list_at fanins v) && is_marked free v) && goes_on (set free v 0) v vs

  module _ (inputs : ℕ) where
    -- "Each starts at an input"
    unfoldable pub is_path : (free : List ℕ) → List ℕ → Bool
    is_path free [] = false
    is_path free (v ∷ vs) = (ltb v inputs && is_marked free v) && goes_on (set free v 0) v vs

    unfoldable pub are_paths : (free : List ℕ) → List (List ℕ) → Bool
    are_paths free [] = true
    are_paths free (path ∷ paths) = is_path free path && are_paths (after_path free path) paths

-- v has got a role by which it is free no more, and an end if it was one.
pub record Taken (roles : List ℕ) (v : ℕ) (roles' : List ℕ) : Type 0 where
  pub role : ℕ
  pub stored : roles' ≡ set roles v role
  pub unfree : area_bit role ≡ 0
  pub end_still : end_bit role ≡ end_bit (get_or roles v 0)

-- A drawing's fanins, and roles of its nodes.
pub record PathRoom (nodes : ℕ) (fanins roles : List ℕ) : Type 0 where
  pub small : nodes ≤ 32767
  pub fed : (v : ℕ) → v < nodes → Fed fanins v nodes
  pub roles_long : nodes ≤ length roles

-- Ids stand in the bytes from a place on, and are nodes.
pub record IdsStand (nodes : ℕ) (s : List ℕ) (at width size : ℕ) : Type 0 where
  pub narrow : width ≤ 8
  pub inside : at + size * width ≤ length s
  pub below : Below nodes (ids_at s at width size)

-- The path goes on from node u with ids that stand in the bytes.
pub record GoesAsked (fanins : List ℕ) (u : ℕ) (s : List ℕ) (at width size : ℕ) (roles : List ℕ) : Type 0 where
  pub nodes : ℕ
  pub room : PathRoom nodes fanins roles
  pub stand : IdsStand nodes s at width size
  pub node : u < nodes

-- The reply is the test's; where it passes, the nodes are taken; ends stay ends, and no role is touched but the nodes'.
pub record PathTold (test : Bool) (ids roles : List ℕ) (r : Bool) (roles' : List ℕ) : Type 0 where
  pub reply : r ≡ test
  pub taken : r ≡ true → area_in roles' ≡ after_path (area_in roles) ids
  pub ends_still : ends_in roles' ≡ ends_in roles
  pub beyond : (n : ℕ) → Below n ids → Beyond n roles roles'

pub record PathAsked (fanins s : List ℕ) (at width size : ℕ) (roles : List ℕ) : Type 0 where
  pub nodes : ℕ
  pub room : PathRoom nodes fanins roles
  pub stand : IdsStand nodes s at width size
  pub some : 1 ≤ size

-- Paths stand in the bytes from a place on to the end of their line, none of them empty, and their ids are nodes.
pub record PathsStand (nodes : ℕ) (s : List ℕ) (at width q : ℕ) : Type 0 where
  pub narrow : width ≤ 8
  pub end : ℕ
  pub inside : end ≤ length s
  pub used : paths_use s at width q end ≡ true
  pub filled : some_empty (paths_at s at width q) ≡ false
  pub below : Below nodes (joined (paths_at s at width q))

pub record PathsAsked (fanins s : List ℕ) (at width q : ℕ) (roles : List ℕ) : Type 0 where
  pub nodes : ℕ
  pub room : PathRoom nodes fanins roles
  pub stand : PathsStand nodes s at width q

pub record PathsTold (test : Bool) (ids roles : List ℕ) (r : Bool) (roles' : List ℕ) : Type 0 where
  pub reply : r ≡ test
  pub beyond : (n : ℕ) → Below n ids → Beyond n roles roles'
