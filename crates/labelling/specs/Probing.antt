-- A gate's probe: behind the gate and outside D, does a cut lie, or do K + 1 paths run? And what it leaves of what it is lent.
use Rattle.std.specs.Prelude.{ℕ, ◌*◌, ◌≤◌, ◌≡◌, Option, None, Some, List, length}
use Rattle.std.proofs.lemmas.List.Edits.{sets}
use Rattle.storage.specs.Drawings.{net_in, Arranged}
use Rattle.storage.specs.declared.CutSize.{CutSize}
use Rattle.storage.specs.Entries.{Beyond}
use Rattle.theory.specs.paper.Net.{Gate}
use Rattle.theory.specs.paper.Evidence.{peak, Evidence, LeastCut}
use Rattle.theory.specs.Lines.{NeverFalls}
use Rattle.area.specs.Area.{label_in}
use Rattle.flow.specs.Answer.{FlowLeft}
use Rattle.flow.specs.Paths.{paths_in, LinksIn}

-- A gate t with its p, where the labels behind it never fall along fanins; and room for six leaves.
pub record ProbeAsked (inputs nodes k : ℕ) (fanins order : List ℕ) (t p : ℕ) (labels roles links cut : List ℕ) : Type 0 where
  pub drawing : Arranged inputs nodes k fanins order
  pub gate : Gate (net_in inputs nodes fanins) t
  pub peak_known : p ≡ peak (net_in inputs nodes fanins) (label_in labels) t
  pub never_falls : NeverFalls (net_in inputs nodes fanins) (label_in labels) t
  pub labels_long : nodes ≤ length labels
  pub roles_long : nodes ≤ length roles
  pub links_long : 5 * nodes ≤ length links
  pub cut_long : 6 ≤ length cut

-- *None*: evidence stands in the links, and nothing else does. *Some*: the least cut outside D stands in the first entries.
pub data Shown (inputs nodes k : ℕ) (fanins : List ℕ) (t : ℕ) (labels links₀ cut₀ : List ℕ) (r : Option CutSize)
    (links cut : List ℕ) : Type 0 where
  paths : r ≡ None → Evidence (net_in inputs nodes fanins) k (label_in labels) t (paths_in inputs nodes links) →
      LinksIn (net_in inputs nodes fanins) nodes links → FlowLeft nodes links₀ links → cut ≡ cut₀ →
      Shown inputs nodes k fanins t labels links₀ cut₀ r links cut
  least : (size : CutSize) (list : List ℕ) → r ≡ Some size → length list ≡ size.leaves →
      LeastCut (net_in inputs nodes fanins) k (label_in labels) t list → cut ≡ sets cut₀ 0 list →
      Shown inputs nodes k fanins t labels links₀ cut₀ r links cut

-- What is shown, and that no more of the roles and links was used than the drawing's nodes have.
pub record GateProbed (inputs nodes k : ℕ) (fanins : List ℕ) (t : ℕ) (labels roles₀ links₀ cut₀ : List ℕ) (r : Option CutSize)
    (roles links cut : List ℕ) : Type 0 where
  pub shown : Shown inputs nodes k fanins t labels links₀ cut₀ r links cut
  pub roles_used : Beyond nodes roles₀ roles
  pub links_used : Beyond (5 * nodes) links₀ links
