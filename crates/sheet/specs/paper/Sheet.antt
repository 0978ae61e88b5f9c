-- A mapping sheet as a value.
use Rattle.std.specs.Prelude.{ℕ, suc, ◌≤◌, ◌<◌, List, [], ◌∷◌}

-- What the sheet says of a gate: its label, the leaves of its cut, and the evidence, one list of ids for each path.
pub record Line : Type 0 where
  pub label : ℕ
  pub leaves : List ℕ
  pub paths : List (List ℕ)

-- a LUT: its root, its leaves, and the function table as a number
pub record Lut : Type 0 where
  pub root : ℕ
  pub leaves : List ℕ
  pub table : ℕ

abbrev pub line_of : (label : ℕ) (leaves : List ℕ) (paths : List (List ℕ)) → Line
line_of label leaves paths = record { label = label; leaves = leaves; paths = paths }

abbrev pub lut_of : (root : ℕ) (leaves : List ℕ) (table : ℕ) → Lut
lut_of root leaves table = record { root = root; leaves = leaves; table = table }

abbrev pub no_line : Line
no_line = line_of 0 [] []

-- The cover's depth, a line for each gate in id order, and the LUTs, roots rising.
pub record Sheet : Type 0 where
  pub depth : ℕ
  pub lines : List Line
  pub luts : List Lut

-- "for each LUT, roots rising": the roots are gates, and rise, as rule 24 asks. No root is below `least`, which is I for a whole list.
pub data Roots (nodes : ℕ) : (least : ℕ) → List Lut → Type 0 where
  none : {least : ℕ} → Roots nodes least []
  more : {least : ℕ} {lut : Lut} {luts : List Lut} → least ≤ lut.root → lut.root < nodes → Roots nodes (suc lut.root) luts →
      Roots nodes least (lut ∷ luts)
