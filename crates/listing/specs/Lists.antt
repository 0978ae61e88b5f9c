-- A table that was taken, in arrays, and its listing.
use Rattle.std.specs.Prelude.{ℕ, ◌+◌, ◌≤◌, ◌≡◌, List, length, take}
use Rattle.storage.specs.declared.Numbers.{Numbers}
use Rattle.storage.specs.Drawings.{net_in, tables_in}
use Rattle.drawing.specs.paper.Limits.{most_outputs}
use Rattle.drawing.specs.paper.Table.{Table}
use Rattle.sheet.specs.paper.Sheet.{Sheet}
use Rattle.wording.specs.paper.Text.{listing_of}
use Rattle.wording.specs.paper.Puts.{Wrote}
use Rattle.keeping.specs.paper.Mappers.{SettledSheet}
use Rattle.keeping.specs.paper.Printed.{mapping_of}
use Rattle.settling.specs.Arrays.{TakenAsked}
use Rattle.listing.specs.paper.Lists.{text_room}

-- A table that was taken, in arrays, and room for its listing.
pub record ListAsked (n : Numbers) (fanins rows order outputs text : List ℕ) : Type 0 where
  pub taken : TakenAsked n fanins rows order outputs
  pub few : n.roots ≤ most_outputs
  pub room : text_room ≤ length text

-- A table with these numbers and these outputs.
pub record HasNumbers (n : Numbers) (outputs : List ℕ) (table : Table) : Type 0 where
  pub k : table.k ≡ n.k.leaves
  pub inputs : table.inputs ≡ n.inputs
  pub gates : n.inputs + length table.gates ≡ n.nodes
  pub outputs_are : table.outputs ≡ outputs

-- The listing of a settled sheet of the drawing in the arrays.
pub record TakenListed (n : Numbers) (fanins rows outputs before : List ℕ) (r : ℕ) (after : List ℕ) : Type 0 where
  pub sheet : Sheet
  pub settled : SettledSheet (net_in n.inputs n.nodes fanins) (tables_in rows) n.k.leaves (take n.roots outputs) sheet
  pub text : (table : Table) → HasNumbers n (take n.roots outputs) table → Wrote before (listing_of (mapping_of table sheet)) r after
