-- What finding a gate's evidence asks and leaves.
use Rattle.std.specs.Prelude.{ℕ, ◌*◌, ◌≤◌, ◌<◌, ◌≡◌, List, length}
use Rattle.storage.specs.Drawings.{net_in, Arranged}
use Rattle.storage.specs.Entries.{cleared}
use Rattle.theory.specs.paper.Net.{Net, Gate}
use Rattle.theory.specs.paper.Cover.{Label}
use Rattle.theory.specs.paper.Evidence.{Evidence, Owes}
use Rattle.area.specs.Area.{label_in}
use Rattle.flow.specs.Paths.{paths_in, LinksIn}
use Rattle.flow.specs.Answer.{FlowLeft}

-- the label of v, whatever the outputs are
abbrev pub TrueLabel : Net → (k v label : ℕ) → Type 0
TrueLabel net k v label = (outputs : List ℕ) → Label net k outputs v label

-- A gate that owes evidence, by the true labels.
pub record EvidenceAsked (inputs nodes k : ℕ) (fanins order labels : List ℕ) (t : ℕ) (roles links : List ℕ) : Type 0 where
  pub drawing : Arranged inputs nodes k fanins order
  pub labels_long : nodes ≤ length labels
  pub labelled : (v : ℕ) → v < nodes → TrueLabel (net_in inputs nodes fanins) k v (label_in labels v)
  pub gate : Gate (net_in inputs nodes fanins) t
  pub owes : Owes (net_in inputs nodes fanins) (label_in labels) t
  pub roles_long : nodes ≤ length roles
  pub links_long : 5 * nodes ≤ length links

-- Evidence stands in the links and nothing else does, and the roles are left at 0.
pub record EvidenceFound (inputs nodes k : ℕ) (fanins labels : List ℕ) (t : ℕ)
    (roles₀ links₀ roles links' : List ℕ) : Type 0 where
  pub evidence : Evidence (net_in inputs nodes fanins) k (label_in labels) t (paths_in inputs nodes links')
  pub links : LinksIn (net_in inputs nodes fanins) nodes links'
  pub left : FlowLeft nodes links₀ links'
  pub roles_clear : roles ≡ cleared nodes roles₀
