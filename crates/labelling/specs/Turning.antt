-- A gate's turn along the order, and the turns of all gates.
use Rattle.std.specs.Prelude.{ℕ, suc, ◌*◌, ◌-◌, ◌≤◌, ◌<◌, List, length, take}
use Rattle.storage.specs.Drawings.{net_in, Arranged}
use Rattle.storage.specs.Entries.{Beyond}
use Rattle.theory.specs.paper.Net.{Net, Gate}
use Rattle.theory.specs.paper.Evidence.{peak}
use Rattle.theory.specs.Lines.{NeverFalls}
use Rattle.area.specs.Area.{label_in}
use Rattle.labelling.specs.Labelling.{Told}
use Rattle.labelling.specs.Storing.{Stored, Room, Labelling}

-- A gate t where the labels behind it never fall along fanins, and p + 1 fits.
pub record TurnAsked (inputs nodes k : ℕ) (fanins order : List ℕ) (t : ℕ) (labels cuts roles links : List ℕ) : Type 0 where
  pub drawing : Arranged inputs nodes k fanins order
  pub gate : Gate (net_in inputs nodes fanins) t
  pub never_falls : NeverFalls (net_in inputs nodes fanins) (label_in labels) t
  pub fits : suc (peak (net_in inputs nodes fanins) (label_in labels) t) < 65536
  pub room : Room nodes labels cuts
  pub roles_long : nodes ≤ length roles
  pub links_long : 5 * nodes ≤ length links

-- What is found at the gate (`Told`) stands in the arrays.
pub record Settled (net : Net) (k t : ℕ) (labels cuts labels' cuts' : List ℕ) : Type 0 where
  pub label : ℕ
  pub cut : List ℕ
  pub told : Told net k (label_in labels) t label cut
  pub stored : Stored t label cut labels cuts labels' cuts'

pub record TurnTaken (inputs nodes k : ℕ) (fanins : List ℕ) (t : ℕ)
    (labels cuts roles links labels' cuts' roles' links' : List ℕ) : Type 0 where
  pub settled : Settled (net_in inputs nodes fanins) k t labels cuts labels' cuts'
  pub roles_used : Beyond nodes roles roles'
  pub links_used : Beyond (5 * nodes) links links'

-- Before the first gate's turn, whatever the arrays held when labelling began.
pub record AlongAsked (inputs nodes k : ℕ) (fanins order labels cuts roles links : List ℕ) : Type 0 where
  pub drawing : Arranged inputs nodes k fanins order
  pub labels₀ : List ℕ
  pub cuts₀ : List ℕ
  pub begun : Labelling (net_in inputs nodes fanins) k (take (nodes - inputs) order) 0 labels₀ cuts₀ labels cuts
  pub roles_long : nodes ≤ length roles
  pub links_long : 5 * nodes ≤ length links

-- After the first i gates' turns, whatever the arrays held when labelling began.
pub record Along (inputs nodes k : ℕ) (fanins order : List ℕ) (i : ℕ)
    (labels cuts roles links labels' cuts' roles' links' : List ℕ) : Type 0 where
  pub labelling : (labels₀ cuts₀ : List ℕ) →
      Labelling (net_in inputs nodes fanins) k (take (nodes - inputs) order) 0 labels₀ cuts₀ labels cuts →
      Labelling (net_in inputs nodes fanins) k (take (nodes - inputs) order) i labels₀ cuts₀ labels' cuts'
  pub roles_used : Beyond nodes roles roles'
  pub links_used : Beyond (5 * nodes) links links'
