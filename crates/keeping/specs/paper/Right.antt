-- What is right of a sheet, in the words of the theory alone.
use Rattle.std.specs.Prelude.{ℕ, ◌≤◌, ◌<◌, ◌≡◌, Bool}
use mathlib.Core.List.{List, Memᴰ}
use Rattle.theory.specs.paper.Net.{Net, Input}
use Rattle.theory.specs.paper.Values.{Values}
use Rattle.theory.specs.paper.Cover.{Luts, Cover, Depths, Label}
use Rattle.theory.specs.paper.Lookup.{ObeysLuts}
use Rattle.sheet.specs.paper.Sheet.{Sheet}
use Rattle.sheet.specs.paper.Rules.{Rule, Keeps, rules_of, labels_of, luts_of, table_listed}

-- 25 to 30 are kept at every gate and every LUT
abbrev pub KeepsRules : (net : Net) (tables : ℕ → ℕ) (k : ℕ) (outputs : List ℕ) (sheet : Sheet) → Type 0
KeepsRules net tables k outputs sheet = (r : Rule) → Memᴰ r (rules_of net sheet) → Keeps net tables k outputs sheet r

-- "the sheet's LUTs compute every output as the gates do": whatever values obey the LUTs and agree with the gates' values at the inputs agree
-- at every output, and each setting of the inputs has such values.
pub record Computes (net : Net) (tables : ℕ → ℕ) (outputs : List ℕ) (luts : Luts) (lut-tables : ℕ → ℕ) : Type 0 where
  pub agree : (setting x y : ℕ → Bool) → Values net tables setting x → ((v : ℕ) → Input net v → y v ≡ setting v) → ObeysLuts luts lut-tables y →
      (v : ℕ) → Memᴰ v outputs → y v ≡ x v
  pub gates_valued : (setting : ℕ → Bool) → (x : ℕ → Bool) × Values net tables setting x
  pub luts_valued : (setting : ℕ → Bool) → (y : ℕ → Bool) × (((v : ℕ) → Input net v → y v ≡ setting v) × ObeysLuts luts lut-tables y)

-- The sheet's labels are the labels, its LUTs are a cover, they compute every output as the gates do, the sheet's depth is the cover's,
-- "and no K-LUT cover of that drawing has a smaller depth".
pub record Right (net : Net) (tables : ℕ → ℕ) (k : ℕ) (outputs : List ℕ) (sheet : Sheet) : Type 0 where
  pub labels : (v : ℕ) → v < net.nodes → Label net k outputs v (labels_of net.inputs sheet.lines v)
  pub cover : Cover net k outputs (luts_of sheet.luts)
  pub computes : Computes net tables outputs (luts_of sheet.luts) (table_listed sheet.luts)
  pub depth : Depths net (luts_of sheet.luts) outputs sheet.depth
  pub least : (luts : Luts) (d : ℕ) → Cover net k outputs luts → Depths net luts outputs d → sheet.depth ≤ d
