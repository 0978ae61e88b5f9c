-- Two sheets that differ in their evidence at most.
use Rattle.std.specs.Prelude.{ℕ, ◌≡◌, length}
use Rattle.sheet.specs.paper.Sheet.{Line, Sheet}
use Rattle.sheet.specs.paper.Rules.{line_of_node}

-- two lines that differ in their paths at most
pub record SameLine (a b : Line) : Type 0 where
  pub label_same : a.label ≡ b.label
  pub leaves_same : a.leaves ≡ b.leaves

pub record SameButEvidence (inputs : ℕ) (a b : Sheet) : Type 0 where
  pub depth_same : a.depth ≡ b.depth
  pub count_same : length a.lines ≡ length b.lines
  pub lines_same : (v : ℕ) → SameLine (line_of_node inputs a.lines v) (line_of_node inputs b.lines v)
  pub luts_same : a.luts ≡ b.luts
