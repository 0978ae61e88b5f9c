-- What labelling a drawing asks and leaves.
use Rattle.std.specs.Prelude.{ℕ, ◌*◌, ◌≤◌, ◌≡◌, List, length}
use Rattle.storage.specs.Drawings.{net_in, Arranged}
use Rattle.storage.specs.Entries.{cleared}
use Rattle.labelling.specs.Storing.{Room, LabellingMade}

pub record LabelAsked (inputs nodes k : ℕ) (fanins order labels cuts roles links : List ℕ) : Type 0 where
  pub drawing : Arranged inputs nodes k fanins order
  pub room : Room nodes labels cuts
  pub roles_long : nodes ≤ length roles
  pub links_long : 5 * nodes ≤ length links

-- Every gate has its label and the mapper's cut, and all scratch is left at 0.
pub record LabelsMade (inputs nodes k : ℕ) (fanins labels₀ cuts₀ roles₀ links₀ labels cuts roles links : List ℕ) : Type 0 where
  pub made : LabellingMade (net_in inputs nodes fanins) k labels₀ cuts₀ labels cuts
  pub roles_clear : roles ≡ cleared nodes roles₀
  pub links_clear : links ≡ cleared (5 * nodes) links₀
