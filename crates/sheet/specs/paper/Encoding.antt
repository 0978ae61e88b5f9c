-- The bytes of a mapping sheet.
use Rattle.std.specs.Prelude.{ℕ, zero, suc, ◌/◌, ◌%◌, ◌^◌, length}
use mathlib.Core.List.{List, [], ◌∷◌, ◌++◌, flat_map}
use Rattle.drawing.specs.paper.Limits.{version, length_size, rows_size}
use Rattle.sheet.specs.declared.Form.{Form}
use Rattle.sheet.specs.paper.Sheet.{Line, Lut, Sheet}

-- "high byte first": a number in `width` bytes
unfoldable pub digits : (width number : ℕ) → List ℕ
digits zero number = []
digits (suc width) number = number / 256 ^ width % 256 ∷ digits width number

abbrev pub byte : ℕ → List ℕ
byte = digits 1

-- ids one after the other, each in `width` bytes
abbrev pub id_bytes : (width : ℕ) → List ℕ → List ℕ
id_bytes width = flat_map (digits width)

-- "Each field is a one-byte tag, a two-byte length (high byte first) and the value."
abbrev pub field : ℕ → List ℕ → List ℕ
field tag value = (tag ∷ digits length_size (length value)) ++ value

-- "c, c leaves"
abbrev pub leaves_bytes : (width : ℕ) → List ℕ → List ℕ
leaves_bytes width leaves = byte (length leaves) ++ id_bytes width leaves

-- "q paths, each a length byte and its ids"
abbrev pub path_bytes : (width : ℕ) → List ℕ → List ℕ
path_bytes width path = digits width (length path) ++ id_bytes width path

-- A sheet's form is its three tags, "Tag 16, head", "Tag 17, for each gate" and "Tag 18, for each LUT", and the width of its ids, which is the width of depths,
-- labels, LUT counts and path lengths too.
abbrev pub narrow : Form
narrow = record { width = 1; head = 16; line = 17; lut = 18 }

module _ (form : Form) where
  -- "Tag 16, head, 3 bytes: version 1, depth, LUT count."
  abbrev pub head_value : (depth luts : ℕ) → List ℕ
  head_value depth luts = byte version ++ digits form.width depth ++ digits form.width luts

  -- "Tag 17, for each gate in id order: label, c, c leaves, q, then q paths"
  abbrev pub line_front : (label : ℕ) (leaves : List ℕ) (q : ℕ) → List ℕ
  line_front label leaves q = digits form.width label ++ leaves_bytes form.width leaves ++ byte q

  abbrev pub line_value : Line → List ℕ
  line_value line =
      line_front line.label line.leaves (length line.paths) ++ flat_map (path_bytes form.width) line.paths

  -- "Tag 18, for each LUT, roots rising: root, c, c leaves, 8 bytes of function table."
  abbrev pub lut_value : Lut → List ℕ
  lut_value lut = digits form.width lut.root ++ leaves_bytes form.width lut.leaves ++ digits rows_size lut.table

  abbrev pub head_field : (depth luts : ℕ) → List ℕ
  head_field depth luts = field form.head (head_value depth luts)

  abbrev pub line_field : Line → List ℕ
  line_field line = field form.line (line_value line)

  abbrev pub lut_field : Lut → List ℕ
  lut_field lut = field form.lut (lut_value lut)

  unfoldable pub encode : Sheet → List ℕ
  encode sheet =
      head_field sheet.depth (length sheet.luts) ++ flat_map line_field sheet.lines ++ flat_map lut_field sheet.luts
