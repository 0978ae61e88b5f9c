-- Rules 25 to 30: what a sheet whose shape is sound has to keep, each at its gate or LUT, in the order in which they are tried.
use Rattle.std.specs.Prelude.{ℕ, zero, suc, ◌-◌, ◌≡◌, Bool, true, false, cond, ◌||◌, get_or, ltb, eqb}
use mathlib.Core.List.{List, [], ◌∷◌, ◌++◌, map, flat_map}
use Rattle.theory.specs.paper.Net.{Net}
use Rattle.theory.specs.paper.Lists.{greatest}
use Rattle.theory.specs.paper.Walk.{Cut}
use Rattle.theory.specs.paper.Cover.{Luts, Wanted, Depths}
use Rattle.theory.specs.paper.Evidence.{Peaked, Evidence, Owes}
use Rattle.theory.specs.paper.Lookup.{ConeTable}
use Rattle.sheet.specs.paper.Sheet.{Line, Lut, Sheet, no_line}

-- "From pass two on, labels, p and D are those of the sheet": 0 at an input, else the label in the gate's line
unfoldable pub line_of_node : (inputs : ℕ) → List Line → ℕ → Line
line_of_node inputs lines v = cond (ltb v inputs) no_line (get_or lines (v - inputs) no_line)

abbrev pub labels_of : (inputs : ℕ) → List Line → ℕ → ℕ
labels_of inputs lines v = (line_of_node inputs lines v).label

-- the LUTs listed, as a set of LUTs
unfoldable pub is_listed : List Lut → ℕ → Bool
is_listed [] v = false
is_listed (lut ∷ luts) v = eqb lut.root v || is_listed luts v

unfoldable pub leaves_listed : List Lut → ℕ → List ℕ
leaves_listed [] v = []
leaves_listed (lut ∷ luts) v = cond (eqb lut.root v) lut.leaves (leaves_listed luts v)

unfoldable pub table_listed : List Lut → ℕ → ℕ
table_listed [] v = 0
table_listed (lut ∷ luts) v = cond (eqb lut.root v) lut.table (table_listed luts v)

abbrev pub luts_of : List Lut → Luts
luts_of luts = record { root = is_listed luts; leaves = leaves_listed luts }

-- What a sheet has to keep, rule by rule under the paper's number, with the gate or LUT at which each is tried.
pub data Rule : Type 0 where
  -- 25: the leaves are a cut of the gate, or of the LUT's root
  cut : (gate : ℕ) (leaves : List ℕ) → Rule
  -- 26: the gate's label is 1 + the greatest leaf label, and p or p + 1
  label : (gate : ℕ) → Rule
  -- 27: the gate has true evidence where it is due, and else no paths
  paths : (gate : ℕ) → Rule
  -- 29: the LUT's table is its cone's
  function : Lut → Rule
  -- 28: the gate is a root exactly if it is an output or a leaf of a listed LUT
  cover : (gate : ℕ) → Rule
  -- 30: the head's depth is the cover's and the greatest output label
  depth : Rule

-- 26, kept: the label is "1 + the greatest leaf label", and p or p + 1
pub record LabelKept (net : Net) (lab : ℕ → ℕ) (leaves : List ℕ) (t : ℕ) : Type 0 where
  pub shown : lab t ≡ suc (greatest (map lab leaves))
  pub near : Peaked net lab t (lab t)

-- 27, kept: evidence where it is due, and true; none where it is not
pub record PathsKept (net : Net) (k : ℕ) (lab : ℕ → ℕ) (t : ℕ) (paths : List (List ℕ)) : Type 0 where
  pub due : Owes net lab t → Evidence net k lab t paths
  pub not_due : (Owes net lab t → ⊥) → paths ≡ []

-- 28, kept at a gate: it is a root if it is "an output or a leaf of any listed LUT", and only then
pub record CoverKept (outputs : List ℕ) (luts : Luts) (g : ℕ) : Type 0 where
  pub wanted : Wanted outputs luts g → luts.root g ≡ true
  pub root : luts.root g ≡ true → Wanted outputs luts g

-- 30, kept: "head's depth, the cover's depth and the greatest output label" are all equal
pub record DepthKept (net : Net) (lab : ℕ → ℕ) (outputs : List ℕ) (luts : Luts) (depth : ℕ) : Type 0 where
  pub reached : Depths net luts outputs depth
  pub labelled : greatest (map lab outputs) ≡ depth

-- v, v + 1 and so on, `count` numbers
unfoldable pub from : (v count : ℕ) → List ℕ
from v zero = []
from v (suc count) = v ∷ from (suc v) count

module _ (net : Net) (tables : ℕ → ℕ) (k : ℕ) (outputs : List ℕ) (sheet : Sheet) where
  unfoldable pub Keeps : Rule → Type 0
  Keeps (Rule.cut gate leaves) = Cut net k gate leaves
  Keeps (Rule.label gate) =
      LabelKept net (labels_of net.inputs sheet.lines) (line_of_node net.inputs sheet.lines gate).leaves gate
  Keeps (Rule.paths gate) =
      PathsKept net k (labels_of net.inputs sheet.lines) gate (line_of_node net.inputs sheet.lines gate).paths
  Keeps (Rule.function lut) = ConeTable net tables lut.leaves lut.root lut.table
  Keeps (Rule.cover gate) = CoverKept outputs (luts_of sheet.luts) gate
  Keeps Rule.depth = DepthKept net (labels_of net.inputs sheet.lines) outputs (luts_of sheet.luts) sheet.depth

-- "Pass two tries 25, 26, 27 on each gate"
abbrev pub gate_rules : (inputs : ℕ) → List Line → ℕ → List Rule
gate_rules inputs lines t = Rule.cut t (line_of_node inputs lines t).leaves ∷ Rule.label t ∷ Rule.paths t ∷ []

-- "pass three 25, 29 on each LUT"
abbrev pub lut_rules : Lut → List Rule
lut_rules lut = Rule.cut lut.root lut.leaves ∷ Rule.function lut ∷ []

-- "gates rising, LUTs rising, whole": the gates, the LUTs as they are listed, then "28, then 30"
abbrev pub gates : Net → List ℕ
gates net = from net.inputs (net.nodes - net.inputs)

abbrev pub rules_of : Net → Sheet → List Rule
rules_of net sheet =
    flat_map (gate_rules net.inputs sheet.lines) (gates net)
    ++ flat_map lut_rules sheet.luts
    ++ map Rule.cover (gates net)
    ++ (Rule.depth ∷ [])

-- the first rule of a list that is not kept, or none
pub data Found : Type 0 where
  none : Found
  broken : Rule → Found

pub data FirstBroken (Kept : Rule → Type 0) : List Rule → Found → Type 0 where
  kept : FirstBroken Kept [] Found.none
  here : {r : Rule} {rs : List Rule} → (Kept r → ⊥) → FirstBroken Kept (r ∷ rs) (Found.broken r)
  later : {r : Rule} {rs : List Rule} {x : Found} → Kept r → FirstBroken Kept rs x → FirstBroken Kept (r ∷ rs) x
