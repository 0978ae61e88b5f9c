-- The mapper's sheet: all of it is settled by the drawing, but for the evidence.
use Rattle.std.specs.Prelude.{ℕ, ◌+◌, ◌≡◌, true, List, map, length}
use Rattle.theory.specs.paper.Net.{Net, Gate}
use Rattle.theory.specs.paper.Lists.{greatest}
use Rattle.theory.specs.paper.Cover.{Label}
use Rattle.theory.specs.paper.Evidence.{MappersCut}
use Rattle.theory.specs.paper.Lookup.{ConeTable}
use Rattle.covering.specs.paper.Needed.{Needed}
use Rattle.sheet.specs.paper.Sheet.{Line, Sheet, Roots}
use Rattle.sheet.specs.paper.Rules.{line_of_node, labels_of, is_listed, leaves_listed, table_listed, PathsKept}

-- the cuts of the lines as a net of their own, with leaves for fanins
abbrev pub chosen_by : Net → List Line → Net
chosen_by net lines = record { inputs = net.inputs; nodes = net.nodes; fanins = λ v. (line_of_node net.inputs lines v).leaves }

-- The sheet, whatever is asked of a gate's paths by the labels.
pub record SheetWith (Asked : (ℕ → ℕ) → ℕ → List (List ℕ) → Type 0) (net : Net) (tables : ℕ → ℕ) (k : ℕ) (outputs : List ℕ) (sheet : Sheet) : Type 0 where
  -- "for each gate in id order": its label, the mapper's cut, and evidence where it is due
  pub gates : net.inputs + length sheet.lines ≡ net.nodes
  pub labels : (t : ℕ) → Gate net t → (any : List ℕ) → Label net k any t (labels_of net.inputs sheet.lines t)
  pub cuts : (t : ℕ) → Gate net t → MappersCut net k (labels_of net.inputs sheet.lines) t (line_of_node net.inputs sheet.lines t).leaves
  pub evidence : (t : ℕ) → Gate net t →
      Asked (labels_of net.inputs sheet.lines) t (line_of_node net.inputs sheet.lines t).paths
  -- "Its LUTs are the output gates, then their gate leaves, and so back to the inputs; a gate needed twice stands once."
  pub roots : Roots net.nodes net.inputs sheet.luts
  pub needed : (v : ℕ) → is_listed sheet.luts v ≡ true → Needed (chosen_by net sheet.lines) outputs v
  pub all : (v : ℕ) → Needed (chosen_by net sheet.lines) outputs v → is_listed sheet.luts v ≡ true
  pub leaves : (v : ℕ) → is_listed sheet.luts v ≡ true → leaves_listed sheet.luts v ≡ (line_of_node net.inputs sheet.lines v).leaves
  pub functions : (v : ℕ) → is_listed sheet.luts v ≡ true → ConeTable net tables (leaves_listed sheet.luts v) v (table_listed sheet.luts v)
  -- "the cover's depth is the greatest over outputs"
  pub depth : sheet.depth ≡ greatest (map (labels_of net.inputs sheet.lines) outputs)

-- rule 27 is asked of the paths
abbrev pub MappersSheet : (net : Net) (tables : ℕ → ℕ) (k : ℕ) (outputs : List ℕ) → Sheet → Type 0
MappersSheet net tables k outputs = SheetWith (PathsKept net k) net tables k outputs

-- the mapper's sheet but for its evidence: nothing is asked of the paths
abbrev pub SettledSheet : (net : Net) (tables : ℕ → ℕ) (k : ℕ) (outputs : List ℕ) → Sheet → Type 0
SettledSheet net tables k outputs = SheetWith (λ lab t paths. Unit {0}) net tables k outputs
