-- What passes three and four find in arrays: the LUTs of the sheet.
use Rattle.std.specs.Prelude.{ℕ, ◌≤◌, ◌≡◌, true, List}
use Rattle.storage.specs.Lists.{ListsIn}
use Rattle.covering.specs.Covers.{is_root, MarksFit}

-- LUTs in arrays: marks at the roots, which are gates, and a list of leaves a node.
pub record LutsLaid (inputs nodes : ℕ) (luts cuts : List ℕ) : Type 0 where
  pub marks : MarksFit luts nodes
  pub gates : (r : ℕ) → is_root nodes luts r ≡ true → inputs ≤ r
  pub lists : ListsIn nodes cuts
