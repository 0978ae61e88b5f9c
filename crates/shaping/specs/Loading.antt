-- A sheet of sound shape in arrays: what each array holds, node by node.
use Rattle.std.specs.Prelude.{ℕ, zero, suc, ◌+◌, ◌*◌, ◌-◌, ◌/◌, ◌%◌, ◌^◌, ◌≤◌, ◌<◌, ◌≡◌, Bool, true, false, cond, List, [], ◌∷◌, length, get_or, set, ltb, Ok}
use Rattle.theory.specs.paper.Values.{bit}
use Rattle.drawing.specs.Bytes.{Narrow}
use Rattle.drawing.specs.paper.Limits.{most_k}
use Rattle.sheet.specs.paper.Sheet.{Line, Lut}
use Rattle.sheet.specs.paper.Shape.{Due, end_at, reading}
use Rattle.sheet.specs.paper.Rules.{line_of_node, is_listed, leaves_listed, table_listed}

-- Entries `low` to `high` of an array are those of f, and the others as before.
pub record Filled (before : List ℕ) (low high : ℕ) (f : ℕ → ℕ) (after : List ℕ) : Type 0 where
  pub as_long : length after ≡ length before
  pub filled : (i : ℕ) → low ≤ i → i < high → get_or after i 0 ≡ f i
  pub below : (i : ℕ) → i < low → get_or after i 0 ≡ get_or before i 0
  pub beyond : (i : ℕ) → high ≤ i → get_or after i 0 ≡ get_or before i 0

-- seven places to a node: how many leaves, then the leaves, then zeros
abbrev pub counted : List ℕ → List ℕ
counted leaves = length leaves ∷ leaves

abbrev pub sevens : (ℕ → List ℕ) → ℕ → ℕ
sevens leaves i = get_or (counted (leaves (i / 7))) (i % 7) 0

-- where the i-th field from `at` on starts
unfoldable pub start_of : List ℕ → (at i : ℕ) → ℕ
start_of s at zero = at
start_of s at (suc i) = start_of s (end_at s at) i

-- where a gate's line starts, and 0 for an input
unfoldable pub place_of : (inputs : ℕ) → List ℕ → ℕ → ℕ
place_of inputs s v = cond (ltb v inputs) 0 (start_of s (end_at s 0) (v - inputs))

-- The arrays for the lines: a label, a cut and the place of its field a node.
pub record LineArrays : Type 0 where
  pub labels : List ℕ
  pub cuts : List ℕ
  pub places : List ℕ

abbrev pub line_arrays : (labels cuts places : List ℕ) → LineArrays
line_arrays labels cuts places = record { labels = labels; cuts = cuts; places = places }

pub record LineRoom (nodes : ℕ) (a : LineArrays) : Type 0 where
  pub labels : nodes ≤ length a.labels
  pub cuts : 7 * nodes ≤ length a.cuts
  pub places : nodes ≤ length a.places

-- node v's line stored, and the place of its field
pub record LinePut (line : Line) (place v : ℕ) (before after : LineArrays) : Type 0 where
  pub labels : after.labels ≡ set before.labels v line.label
  pub cuts : Filled before.cuts (7 * v) (7 * v + 7) (λ i. get_or (counted line.leaves) (i - 7 * v) 0) after.cuts
  pub places : after.places ≡ set before.places v place

-- the lines of the nodes from `low` to `high`, and the rest as before
pub record LinesFilled (inputs : ℕ) (s : List ℕ) (lines : List Line) (before : LineArrays) (low high : ℕ) (after : LineArrays) : Type 0 where
  pub labels : Filled before.labels low high (λ v. (line_of_node inputs lines v).label) after.labels
  pub cuts : Filled before.cuts (7 * low) (7 * high) (sevens (λ v. (line_of_node inputs lines v).leaves)) after.cuts
  pub places : Filled before.places low high (place_of inputs s) after.places

-- What is listed for a node: whether it is a root, and its LUT's leaves and table.
pub record Listed : Type 0 where
  pub root : Bool
  pub leaves : List ℕ
  pub table : ℕ

abbrev pub none_listed : Listed
none_listed = record { root = false; leaves = []; table = 0 }

abbrev pub lut_listed : Lut → Listed
lut_listed lut = record { root = true; leaves = lut.leaves; table = lut.table }

abbrev pub listed_at : List Lut → ℕ → Listed
listed_at luts v = record { root = is_listed luts v; leaves = leaves_listed luts v; table = table_listed luts v }

-- The arrays for the LUTs: a mark, a cut and a table a node.
pub record LutArrays : Type 0 where
  pub luts : List ℕ
  pub cuts : List ℕ
  pub tables : List ℕ

abbrev pub lut_arrays : (luts cuts tables : List ℕ) → LutArrays
lut_arrays luts cuts tables = record { luts = luts; cuts = cuts; tables = tables }

pub record LutRoom (nodes : ℕ) (a : LutArrays) : Type 0 where
  pub luts : nodes ≤ length a.luts
  pub cuts : 7 * nodes ≤ length a.cuts
  pub tables : nodes ≤ length a.tables

-- node v's mark, leaves and table stored
pub record LutPut (listed : Listed) (v : ℕ) (before after : LutArrays) : Type 0 where
  pub luts : after.luts ≡ set before.luts v (bit listed.root)
  pub cuts : Filled before.cuts (7 * v) (7 * v + 7) (λ i. get_or (counted listed.leaves) (i - 7 * v) 0) after.cuts
  pub tables : after.tables ≡ set before.tables v listed.table

-- what is listed for the nodes below `upto`, and the rest as before
pub record LutsFilled (all : List Lut) (before : LutArrays) (upto : ℕ) (after : LutArrays) : Type 0 where
  pub luts : Filled before.luts 0 upto (λ v. bit (is_listed all v)) after.luts
  pub cuts : Filled before.cuts 0 (7 * upto) (sevens (leaves_listed all)) after.cuts
  pub tables : Filled before.tables 0 upto (table_listed all) after.tables

-- What loading asks: the numbers are in bounds, and a sheet of sound shape.
pub record Loadable (due : Due) (s : List ℕ) : Type 0 where
  pub narrow : Narrow due.form.width
  pub few : due.k ≤ most_k
  pub gates : due.inputs ≤ due.nodes
  pub nodes : due.nodes ≤ 32767
  pub short : length s < 2 ^ 32
  pub sound : (reading due s).ruling ≡ Ok tt

-- The sheet loaded: its lines, its LUTs, and the head's depth as the answer.
pub record Loaded (due : Due) (s : List ℕ) (a : LineArrays) (b : LutArrays) (r : ℕ) (a' : LineArrays) (b' : LutArrays) : Type 0 where
  pub lines : LinesFilled due.inputs s (reading due s).sheet.lines a 0 due.nodes a'
  pub luts : LutsFilled (reading due s).sheet.luts b due.nodes b'
  pub depth : r ≡ (reading due s).sheet.depth
