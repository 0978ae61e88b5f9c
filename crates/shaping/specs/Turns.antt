-- What the loops that load a sheet ask and leave, field by field.
use Rattle.std.specs.Prelude.{ℕ, ◌+◌, ◌-◌, ◌^◌, ◌≤◌, ◌<◌, ◌≡◌, cond, List, length, eqb, Ok}
use Rattle.drawing.specs.paper.Bytes.{number_at, value_at}
use Rattle.sheet.specs.paper.Sheet.{Lut}
use Rattle.sheet.specs.paper.Shape.{Due, end_at, leaves_end, line_cut, luts_from, reading}
use Rattle.shaping.specs.Loading.{start_of, LineArrays, LinesFilled, listed_at}

-- The line at `at` can be stored: it lies within the bytes, and its place fits.
pub record LineReady (due : Due) (s : List ℕ) (at : ℕ) : Type 0 where
  pub whole : leaves_end due s (line_cut due s at) ≤ length s
  pub short : length s < 2 ^ 32

-- All nodes' lines loaded, and where they end.
pub record LinesLoaded (due : Due) (s : List ℕ) (before : LineArrays) (r : ℕ) (after : LineArrays) : Type 0 where
  pub end : r ≡ start_of s (end_at s 0) (due.nodes - due.inputs)
  pub filled : LinesFilled due.inputs s (reading due s).sheet.lines before 0 due.nodes after

-- the root of the LUT at `at`, and n where none is left
abbrev pub next_root : Due → List ℕ → (at left : ℕ) → ℕ
next_root due s at left = cond (eqb left 0) due.nodes (number_at s (value_at at) due.form.width)

-- where a LUT is left, its root lies within the bytes
pub record NextReady (due : Due) (s : List ℕ) (at left : ℕ) : Type 0 where
  pub nodes : due.nodes ≤ 32767
  pub inside : 0 < left → value_at at + due.form.width ≤ length s

-- `left` LUTs from `at` on are sound, with roots from v on; for the nodes from v on they say what all LUTs say.
pub record LutsLeft (due : Due) (s : List ℕ) (luts : List Lut) (v left at : ℕ) : Type 0 where
  pub least : ℕ
  pub low : 0 < left → v ≤ number_at s (value_at at) due.form.width
  pub sound : (luts_from due s left least at).ruling ≡ Ok tt
  pub same : (u : ℕ) → v ≤ u → listed_at luts u ≡ listed_at (luts_from due s left least at).read u
