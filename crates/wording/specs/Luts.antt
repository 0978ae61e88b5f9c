-- What arrays hold of the LUT with a root, and its line.
use Rattle.std.specs.Prelude.{ℕ, List}
use Rattle.wording.specs.declared.lines.Luts.{Luts}
use Rattle.wording.specs.Arrays.{LutHeld, lut_text}

abbrev pub HeldAt : Luts → ℕ → Type 0
HeldAt luts = LutHeld luts.labels.now luts.cuts.now luts.tables.now

abbrev pub line_at : Luts → ℕ → List ℕ
line_at luts = lut_text luts.labels.now luts.cuts.now luts.tables.now
