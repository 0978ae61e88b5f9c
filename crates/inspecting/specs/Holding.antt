-- A sheet of sound shape in arrays, and what passes two to four say of it.
use Rattle.std.specs.Prelude.{ℕ, ◌≤◌, ◌<◌, ◌≡◌, length, get_or, take, Ok, Err}
use native.Mathlib.Omega.{arith}
use mathlib.Core.List.{List, [], ◌∷◌, ◌++◌, map, flat_map, Memᴰ}
use Rattle.theory.specs.paper.Net.{Net}
use Rattle.storage.specs.declared.Numbers.{Numbers}
use Rattle.storage.specs.Drawings.{net_in, tables_in, Arranged}
use Rattle.drawing.specs.paper.Limits.{most_nodes}
use Rattle.sheet.specs.declared.Fault.{Fault}
use Rattle.sheet.specs.paper.Limits.{most_depth}
use Rattle.sheet.specs.paper.Sheet.{Sheet, Roots}
use Rattle.sheet.specs.paper.Encoding.{narrow}
use Rattle.sheet.specs.paper.Shape.{Due, reading}
use Rattle.sheet.specs.Shape.{due_from}
use Rattle.sheet.specs.paper.Rules.{Rule, Found, FirstBroken, Keeps, labels_of, lut_rules, gates, rules_of}
use Rattle.sheet.specs.Arrays.{HoldsLuts}
use Rattle.shaping.specs.declared.terms.Terms.{Terms}
use Rattle.taking.specs.declared.TakeError.{TakeError}
use Rattle.taking.specs.declared.TakeError.TheVariants as taking
use Rattle.judging.specs.declared.Broken.{Broken}
use Rattle.judging.specs.declared.Broken.TheVariants as broken
use Rattle.weighing.specs.declared.luts.LutFault.{LutFault}
use Rattle.weighing.specs.declared.luts.LutFault.TheVariants as lut-fault
use Rattle.weighing.specs.declared.whole.WholeFault.{WholeFault}
use Rattle.weighing.specs.declared.whole.WholeFault.TheVariants as whole-fault
use Rattle.inspecting.specs.declared.InspectError.{InspectError}
use Rattle.inspecting.specs.declared.InspectError.TheVariants.{Refused, LoopAt, Shape, Cut, Label, Paths, Cover, Function, Depth}
use Rattle.inspecting.specs.paper.Inspecting.{Inspection, reply_of}

-- why a table is not taken, as the inspector says it; arrays that are too short are never lent
abbrev pub take_error : TakeError → InspectError
take_error (taking.Refused x) = Refused x
take_error (taking.LoopAt g) = LoopAt g
take_error taking.TooShort = Depth

-- and what passes two, three and four find broken
abbrev pub gate_error : Broken → InspectError
gate_error (broken.Cut g) = Cut g
gate_error (broken.Label g) = Label g
gate_error (broken.Paths g) = Paths g

abbrev pub lut_error : LutFault → InspectError
lut_error (lut-fault.Cut g) = Cut g
lut_error (lut-fault.Function g) = Function g

abbrev pub whole_error : WholeFault → InspectError
whole_error (whole-fault.Cover g) = Cover g
whole_error whole-fault.Depth = Depth

-- what a sheet is read for, as `due_in` says it of a table's bytes
abbrev pub due_for : (k inputs nodes : ℕ) → Due
due_for k inputs nodes = due_from narrow most_depth k inputs nodes

-- what a sheet for a table with these numbers is read by; `due_of` of it is `due_for`
abbrev pub terms_for : (n : Numbers) → n.inputs ≤ n.nodes → Terms
terms_for n inputs_in =
    record {
      form = narrow;
      most = record { depth = most_depth };
      numbers = n;
      narrow = record { some = omega arith; few = omega arith };
      inputs_in = inputs_in;
    }

-- A table taken: a drawing with its order, its tables and its outputs in arrays.
pub record TableLaid (k inputs nodes number : ℕ) (fanins rows outputs order : List ℕ) : Type 0 where
  pub drawing : Arranged inputs nodes k fanins order
  pub most : nodes ≤ most_nodes
  pub rows_long : nodes ≤ length rows
  pub outputs_long : number ≤ length outputs
  pub output_nodes : (v : ℕ) → Memᴰ v (take number outputs) → v < nodes

-- The arrays hold the sheet's labels and LUTs, and `head` its depth.
pub record SheetHeld (inputs nodes : ℕ) (labels roots cuts tables : List ℕ) (head : ℕ) (sheet : Sheet) : Type 0 where
  pub label : (v : ℕ) → v < nodes → get_or labels v 0 ≡ labels_of inputs sheet.lines v
  pub luts : HoldsLuts nodes sheet.luts roots cuts tables
  pub rise : Roots nodes inputs sheet.luts
  pub depth : head ≡ sheet.depth

-- "pass three 25, 29 on each LUT; pass four 28, then 30"
abbrev pub last_rules : Net → Sheet → List Rule
last_rules net sheet = flat_map lut_rules sheet.luts ++ (map Rule.cover (gates net) ++ (Rule.depth ∷ []))

-- A table and a sheet in arrays, and room for what the passes mark.
pub record LastAsked (k inputs nodes number : ℕ) (fanins rows outputs order labels roots cuts tables : List ℕ) (head : ℕ) (roles : List ℕ) :
    Type 0 where
  pub laid : TableLaid k inputs nodes number fanins rows outputs order
  pub labels_long : nodes ≤ length labels
  pub sheet : Sheet
  pub held : SheetHeld inputs nodes labels roots cuts tables head sheet
  pub roles_long : nodes ≤ length roles

-- The reply names the first of the rules that is not kept, or accepts.
pub record Replies (Kept : Rule → Type 0) (rules : List Rule) (depth : ℕ) (r : Inspection) : Type 0 where
  pub found : Found
  pub first : FirstBroken Kept rules found
  pub reply : r ≡ reply_of depth found

-- It is right for whatever sheet the arrays hold.
pub record LastRuled (k inputs nodes : ℕ) (fanins rows outputs labels roots cuts tables : List ℕ) (head : ℕ) (r : Inspection) : Type 0 where
  pub right : (sheet : Sheet) → SheetHeld inputs nodes labels roots cuts tables head sheet →
      Replies (Keeps (net_in inputs nodes fanins) (tables_in rows) k outputs sheet) (last_rules (net_in inputs nodes fanins) sheet) head r

-- A table taken, and a sheet of sound shape in bytes.
pub record RulesAsked (k inputs nodes number : ℕ) (fanins rows outputs order t : List ℕ) : Type 0 where
  pub laid : TableLaid k inputs nodes number fanins rows outputs order
  pub sound : (reading (due_for k inputs nodes) t).ruling ≡ Ok tt

-- What is said of a sheet's bytes, for the drawing that the arrays hold: pass one, then the first rule broken.
pub data SheetRuled (k inputs nodes : ℕ) (fanins rows outputs t : List ℕ) : Inspection → Type 0 where
  faulty : {f : Fault} → (reading (due_for k inputs nodes) t).ruling ≡ Err f → SheetRuled k inputs nodes fanins rows outputs t (Err (Shape f))
  ruled : {r : Inspection} → (reading (due_for k inputs nodes) t).ruling ≡ Ok tt →
      Replies (Keeps (net_in inputs nodes fanins) (tables_in rows) k outputs (reading (due_for k inputs nodes) t).sheet)
      (rules_of (net_in inputs nodes fanins) (reading (due_for k inputs nodes) t).sheet) (reading (due_for k inputs nodes) t).sheet.depth r →
      SheetRuled k inputs nodes fanins rows outputs t r
