-- A table and a sheet in arrays: a list of leaves, a mark and a table for each node.
use Rattle.std.specs.Prelude.{ℕ, ◌≤◌, ◌<◌, Bool, length, get_or, take, eqb}
use mathlib.Core.List.{List, map, Memᴰ}
use Rattle.storage.specs.declared.Numbers.{Numbers}
use Rattle.storage.specs.Lists.{list_at}
use Rattle.storage.specs.Drawings.{Arranged}
use Rattle.drawing.specs.paper.Limits.{most_nodes}
use Rattle.flow.specs.Numbers.{those}
use Rattle.sheet.specs.paper.Sheet.{Line, Lut, Sheet, lut_of}

abbrev pub is_marked : List ℕ → ℕ → Bool
is_marked luts v = eqb (get_or luts v 0) 1

-- the LUT with root v
abbrev pub lut_in : (cuts tables : List ℕ) → ℕ → Lut
lut_in cuts tables v = lut_of v (list_at cuts v) (get_or tables v 0)

-- "for each LUT, roots rising": the LUTs of the marked nodes below n
unfoldable pub luts_below : (cuts luts tables : List ℕ) → ℕ → List Lut
luts_below cuts luts tables n = map (lut_in cuts tables) (those (is_marked luts) n)

-- the sheet of a depth, lines and the LUTs in the arrays
abbrev pub sheet_in : (depth : ℕ) (lines : List Line) (cuts luts tables : List ℕ) (nodes : ℕ) → Sheet
sheet_in depth lines cuts luts tables nodes = record { depth = depth; lines = lines; luts = luts_below cuts luts tables nodes }

-- A table that was taken: arrays in the paper's numbers.
pub record TakenAsked (n : Numbers) (fanins rows order outputs : List ℕ) : Type 0 where
  pub drawing : Arranged n.inputs n.nodes n.k.leaves fanins order
  pub some : 1 ≤ n.inputs
  pub nodes_most : n.nodes ≤ most_nodes
  pub rows_long : n.nodes ≤ length rows
  pub outputs_long : n.roots ≤ length outputs
  pub output_nodes : (v : ℕ) → Memᴰ v (take n.roots outputs) → v < n.nodes
