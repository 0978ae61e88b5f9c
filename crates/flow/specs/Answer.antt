-- The promise of the flow: K + 1 paths that are evidence, or the mapper's cut.
use Rattle.std.specs.Prelude.{ℕ, ◌*◌, ◌≤◌, ◌≡◌, Option, None, Some, List, length, replicate}
use Rattle.std.proofs.lemmas.List.Edits.{sets}
use Rattle.theory.specs.paper.Net.{Gate}
use Rattle.theory.specs.paper.Evidence.{Evidence, LeastCut}
use Rattle.theory.specs.Lines.{NeverFalls}
use Rattle.storage.specs.declared.CutSize.{CutSize}
use Rattle.storage.specs.Drawings.{net_in, Arranged}
use Rattle.storage.specs.Entries.{cleared, Beyond}
use Rattle.storage.specs.Marks.{Marks}
use Rattle.storage.specs.Roles.{area_in, ends_in}
use Rattle.area.specs.Area.{InArea, IsEnd}
use Rattle.flow.specs.Links.{ins_in, outs_in, parent_in}
use Rattle.flow.specs.Paths.{paths_in, LinksIn}

-- The roles are those of the gate t by the labels `lab`, which never fall along fanins behind t.
pub record AreaOf (inputs nodes : ℕ) (fanins roles : List ℕ) (lab : ℕ → ℕ) (t : ℕ) : Type 0 where
  pub gate : Gate (net_in inputs nodes fanins) t
  pub never_falls : NeverFalls (net_in inputs nodes fanins) lab t
  pub area_marks : Marks nodes (InArea (net_in inputs nodes fanins) lab t) (area_in roles)
  pub end_marks : Marks nodes (IsEnd (net_in inputs nodes fanins) lab t) (ends_in roles)

-- A drawing with its order and the roles of a gate, room for the links, and for six leaves.
pub record FlowAsked (inputs nodes k : ℕ) (fanins order roles links cut : List ℕ) : Type 0 where
  pub drawing : Arranged inputs nodes k fanins order
  pub lab : ℕ → ℕ
  pub t : ℕ
  pub marks : AreaOf inputs nodes fanins roles lab t
  pub roles_long : nodes ≤ length roles
  pub links_long : 5 * nodes ≤ length links
  pub cut_long : 6 ≤ length cut

-- Paths stand in the links: the search's columns are cleared, and what lies behind the columns is as before.
pub record FlowLeft (nodes : ℕ) (links links' : List ℕ) : Type 0 where
  pub ins : ins_in nodes links' ≡ replicate nodes 0
  pub outs : outs_in nodes links' ≡ replicate nodes 0
  pub parent : parent_in nodes links' ≡ replicate nodes 0
  pub rest : Beyond (5 * nodes) links links'

-- *None*: evidence stands in the links, and nothing else does. *Some*: the mapper's cut stands in the first entries of `cut`, and the links are cleared. All else
-- that was lent is as before.
pub data FlowAnswer (inputs nodes k : ℕ) (fanins roles links cut : List ℕ) (r : Option CutSize) (links' cut' : List ℕ) : Type 0 where
  paths : r ≡ None →
      ((lab : ℕ → ℕ) (t : ℕ) → AreaOf inputs nodes fanins roles lab t → Evidence (net_in inputs nodes fanins) k lab t (paths_in inputs nodes links')) →
      LinksIn (net_in inputs nodes fanins) nodes links' → FlowLeft nodes links links' → cut' ≡ cut →
      FlowAnswer inputs nodes k fanins roles links cut r links' cut'
  cut : (size : CutSize) (list : List ℕ) → r ≡ Some size → length list ≡ size.leaves →
      ((lab : ℕ → ℕ) (t : ℕ) → AreaOf inputs nodes fanins roles lab t → LeastCut (net_in inputs nodes fanins) k lab t list) →
      links' ≡ cleared (5 * nodes) links → cut' ≡ sets cut 0 list → FlowAnswer inputs nodes k fanins roles links cut r links' cut'
