-- A sheet in arrays: a line's label and cut a node, where its field stands, and the LUT of each root.
use Rattle.std.specs.Prelude.{ℕ, ◌*◌, ◌≤◌, ◌<◌, ◌≡◌, List, length, get_or, Ok}
use Rattle.theory.specs.paper.Values.{bit}
use Rattle.storage.specs.Lists.{size_at, list_at}
use Rattle.drawing.specs.paper.Limits.{most_k}
use Rattle.sheet.specs.paper.Sheet.{Line, Lut}
use Rattle.sheet.specs.paper.Shape.{Due, line_at, line_ruling}
use Rattle.sheet.specs.paper.Rules.{line_of_node, is_listed, leaves_listed, table_listed}

-- Every node has its line's label and leaves, an input 0 and none.
pub record HoldsLines (inputs nodes : ℕ) (lines : List Line) (labels cuts : List ℕ) : Type 0 where
  pub labels_long : nodes ≤ length labels
  pub cuts_long : 7 * nodes ≤ length cuts
  pub label : (v : ℕ) → v < nodes → get_or labels v 0 ≡ (line_of_node inputs lines v).label
  pub cut : (v : ℕ) → v < nodes → list_at cuts v ≡ (line_of_node inputs lines v).leaves
  pub six : (v : ℕ) → v < nodes → size_at cuts v ≤ most_k

-- `places` has where each gate's field stands in the sheet's bytes; the field is sound, and its line is the gate's.
pub record HoldsPlaces (due : Due) (s : List ℕ) (lines : List Line) (places : List ℕ) : Type 0 where
  pub long : due.nodes ≤ length places
  pub line : (v : ℕ) → due.inputs ≤ v → v < due.nodes → line_at due s (get_or places v 0) ≡ line_of_node due.inputs lines v
  pub sound : (v : ℕ) → due.inputs ≤ v → v < due.nodes → line_ruling due s (get_or places v 0) ≡ Ok tt

-- Every root is marked, and has its LUT's leaves and table.
pub record HoldsLuts (nodes : ℕ) (luts : List Lut) (roots cuts tables : List ℕ) : Type 0 where
  pub roots_long : nodes ≤ length roots
  pub cuts_long : 7 * nodes ≤ length cuts
  pub tables_long : nodes ≤ length tables
  pub root : (v : ℕ) → v < nodes → get_or roots v 0 ≡ bit (is_listed luts v)
  pub cut : (v : ℕ) → v < nodes → list_at cuts v ≡ leaves_listed luts v
  pub six : (v : ℕ) → v < nodes → size_at cuts v ≤ most_k
  pub table : (v : ℕ) → v < nodes → get_or tables v 0 ≡ table_listed luts v
