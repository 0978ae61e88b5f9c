-- Sheets in shape, and what a fault's number and place are to code.
use Rattle.std.specs.Prelude.{ℕ, ◌+◌, ◌*◌, ◌-◌, ◌^◌, ◌<◌, ◌≡◌, false, length}
use mathlib.Core.List.{List, [], ◌∷◌, Memᴰ}
use Rattle.drawing.specs.paper.Limits.{length_size, version, rows_size}
use Rattle.sheet.specs.declared.Form.{Form}
use Rattle.sheet.specs.declared.Fault.{Fault}
use Rattle.sheet.specs.paper.Limits.{version_size, count_size}
use Rattle.sheet.specs.paper.Sheet.{Line, Lut, Sheet}
use Rattle.sheet.specs.paper.Encoding.{line_value}
use Rattle.sheet.specs.paper.Shape.{said, Due, head_range, line_range, lut_range}

abbrev pub number : Fault → ℕ
number f = (said f).0

abbrev pub place : Fault → ℕ
place f = (said f).1

abbrev pub due_from : (form : Form) (most k inputs nodes : ℕ) → Due
due_from form most k inputs nodes = record { form = form; most = most; k = k; inputs = inputs; nodes = nodes }

-- all numbers of a list are below m
abbrev pub Below : ℕ → List ℕ → Type 0
Below m vs = (v : ℕ) → Memᴰ v vs → v < m

-- A sheet in shape: the range rules have nothing to say of it, and its numbers fit their bytes.
pub record LineShaped (due : Due) (line : Line) : Type 0 where
  pub in_range : line_range due line ≡ false
  pub label : line.label < 256 ^ due.form.width
  pub few : length line.leaves < 256
  pub leaves : Below (256 ^ due.form.width) line.leaves
  pub some : length line.paths < 256
  pub lengths : (path : List ℕ) → Memᴰ path line.paths → length path < 256 ^ due.form.width
  pub ids : (path : List ℕ) → Memᴰ path line.paths → Below (256 ^ due.form.width) path
  pub whole : length (line_value due.form line) < 256 ^ length_size

pub record LutShaped (due : Due) (least : ℕ) (lut : Lut) : Type 0 where
  pub in_range : lut_range due least lut ≡ false
  pub root : lut.root < 256 ^ due.form.width
  pub few : length lut.leaves < 256
  pub leaves : Below (256 ^ due.form.width) lut.leaves
  pub table : lut.table < 256 ^ rows_size
  pub whole : count_size + rows_size + due.form.width + length lut.leaves * due.form.width < 256 ^ length_size

pub data LinesShaped (due : Due) : List Line → Type 0 where
  none : LinesShaped due []
  more : {line : Line} {lines : List Line} → LineShaped due line → LinesShaped due lines → LinesShaped due (line ∷ lines)

pub data LutsShaped (due : Due) : ℕ → List Lut → Type 0 where
  none : {least : ℕ} → LutsShaped due least []
  more : {least : ℕ} {lut : Lut} {luts : List Lut} → LutShaped due least lut → LutsShaped due (lut.root + 1) luts →
      LutsShaped due least (lut ∷ luts)

pub record Shaped (due : Due) (sheet : Sheet) : Type 0 where
  pub gates : length sheet.lines ≡ due.nodes - due.inputs
  pub in_range : head_range due version sheet.depth (length sheet.luts) ≡ false
  pub depth : sheet.depth < 256 ^ due.form.width
  pub count : length sheet.luts < 256 ^ due.form.width
  pub narrow : version_size + due.form.width + due.form.width < 256 ^ length_size
  pub lines : LinesShaped due sheet.lines
  pub luts : LutsShaped due due.inputs sheet.luts
