-- What the lister prints of a table and its sheet.
use Rattle.std.specs.Prelude.{ℕ, ◌≡◌, true, ◌⊎◌, map, length}
use Rattle.theory.specs.paper.Net.{Input}
use Rattle.theory.specs.paper.Cover.{Depth, Depths}
use Rattle.drawing.specs.paper.Table.{Table, net_of}
use Rattle.sheet.specs.paper.Sheet as sheet
use Rattle.sheet.specs.paper.Rules.{labels_of, is_listed, luts_of}
use Rattle.wording.specs.paper.Text as text

-- What is printed as a depth is a label, and `DepthsListed` says what that is.
abbrev pub listed_lut : (ℕ → ℕ) → sheet.Lut → text.Lut
listed_lut labels lut = record { root = lut.root; depth = labels lut.root; leaves = lut.leaves; table = lut.table }

abbrev pub listed_output : (ℕ → ℕ) → ℕ → text.Output
listed_output labels v = record { node = v; depth = labels v }

abbrev pub mapping_of : Table → sheet.Sheet → text.Mapping
mapping_of table s =
    record {
      k = table.k;
      inputs = table.inputs;
      gates = length table.gates;
      luts = map (listed_lut (labels_of table.inputs s.lines)) s.luts;
      depth = s.depth;
      outputs = map (listed_output (labels_of table.inputs s.lines)) table.outputs;
    }

-- "depths are LUT depths": a label that is printed is the depth of its node in the cover that the LUTs are, and the first line has the cover's
pub record DepthsListed (table : Table) (s : sheet.Sheet) : Type 0 where
  pub each : (v : ℕ) → Input (net_of table) v ⊎ (is_listed s.luts v ≡ true) →
      Depth (net_of table) (luts_of s.luts) v (labels_of table.inputs s.lines v)
  pub whole : Depths (net_of table) (luts_of s.luts) table.outputs s.depth
