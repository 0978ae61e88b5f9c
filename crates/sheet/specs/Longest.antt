-- What an acceptable sheet has that bounds its length.
use Rattle.std.specs.Prelude.{ℕ, ◌+◌, ◌*◌, ◌-◌, ◌≤◌, ◌<◌, ◌≡◌, List, [], length, get_or}
use Rattle.theory.specs.paper.Net.{Net, Input}
use Rattle.theory.specs.paper.Walk.{Cut, Loop}
use Rattle.theory.specs.paper.Sound.{Bounded}
use Rattle.theory.specs.paper.Evidence.{peak, Evidence}
use Rattle.drawing.specs.paper.Limits.{frame_size, rows_size}
use Rattle.sheet.specs.paper.Limits.{version_size, count_size}
use Rattle.sheet.specs.paper.Sheet.{Sheet, no_line, Lut, lut_of}

abbrev pub no_lut : Lut
no_lut = lut_of 0 [] 0

-- "Evidence that a label is p + 1, for p at least 1", or no paths
pub data Backed (net : Net) (k : ℕ) (lab : ℕ → ℕ) (t : ℕ) : List (List ℕ) → Type 0 where
  bare : Backed net k lab t []
  proven : {paths : List (List ℕ)} → 1 ≤ peak net lab t → Evidence net k lab t paths → Backed net k lab t paths

-- A drawing in the paper's numbers: K-bounded, at least one input, no loop.
pub record Drawing (net : Net) (k : ℕ) : Type 0 where
  pub bounded : Bounded net k
  pub some : 1 ≤ net.inputs
  pub no_loop : (g : ℕ) → Loop net g → ⊥

-- What rules 24, 25 and 27 leave of a sheet, as far as its length goes: a line for each gate, its leaves a cut of the gate, paths only where
-- evidence is due and then true; no more LUTs than gates, the leaves of each a cut of its root. `lab` are the labels, 0 at inputs.
pub record Kept (net : Net) (k : ℕ) (lab : ℕ → ℕ) (sheet : Sheet) : Type 0 where
  pub inputs : (v : ℕ) → Input net v → lab v ≡ 0
  pub gates : net.inputs + length sheet.lines ≡ net.nodes
  pub cuts : (i : ℕ) → i < length sheet.lines → Cut net k (net.inputs + i) (get_or sheet.lines i no_line).leaves
  pub backed : (i : ℕ) → i < length sheet.lines → Backed net k lab (net.inputs + i) (get_or sheet.lines i no_line).paths
  pub few : length sheet.luts ≤ length sheet.lines
  pub lut_cuts : (i : ℕ) → i < length sheet.luts →
      Cut net k (get_or sheet.luts i no_lut).root (get_or sheet.luts i no_lut).leaves

-- The most bytes of a line and of a LUT at n nodes, and of a sheet with g gates; a number that the width counts for is `width` bytes.
abbrev pub line_most : (width k n : ℕ) → ℕ
line_most width k n = frame_size + count_size + count_size + width + k * width + (k + n - 1) * width

abbrev pub lut_most : (width k : ℕ) → ℕ
lut_most width k = frame_size + count_size + rows_size + width + k * width

abbrev pub sheet_most : (width k n g : ℕ) → ℕ
sheet_most width k n g = frame_size + version_size + width + width + g * line_most width k n + g * lut_most width k
