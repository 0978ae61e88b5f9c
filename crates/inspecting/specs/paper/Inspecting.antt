-- What the inspector says of a gate table's bytes and a sheet's: "first replies 1 to 7 for a bad gate table. Then four passes: shape, gates
-- rising, LUTs rising, whole."
use Rattle.std.specs.Prelude.{ℕ, ◌≡◌, Result, Ok, Err}
use mathlib.Core.List.{List, Memᴰ}
use Rattle.theory.specs.paper.Walk.{LowestLoop}
use Rattle.storage.specs.declared.Label as storage
use Rattle.storage.specs.declared.Node.{Node}
use Rattle.drawing.specs.declared.Refusal.{Refusal}
use Rattle.drawing.specs.paper.Refusals as table
use Rattle.drawing.specs.paper.Fields.{head_k}
use Rattle.drawing.specs.paper.Table.{tables_of}
use Rattle.drawing.specs.paper.Reading.{found, table_of, nodes_of, sources_of, roots_of}
use Rattle.walking.specs.paper.Loops.{loop_number}
use Rattle.taking.specs.paper.Taken.{drawn, ReadsWhole, IsTaken}
use Rattle.sheet.specs.declared.Fault.{Fault}
use Rattle.sheet.specs.paper.Limits.{most_depth}
use Rattle.sheet.specs.paper.Sheet.{Sheet}
use Rattle.sheet.specs.paper.Encoding.{narrow}
use Rattle.sheet.specs.paper.Shape as shape
use Rattle.sheet.specs.paper.Shape.{Due, reading}
use Rattle.sheet.specs.paper.Rules.{Rule, Found, FirstBroken, Keeps, rules_of}
use Rattle.inspecting.specs.declared.InspectError.{InspectError}
use Rattle.inspecting.specs.declared.InspectError.TheVariants.{Refused, LoopAt, Shape, Cut, Label, Paths, Cover, Function, Depth}

-- the depth of a sheet that is accepted, or why it is refused
abbrev pub Inspection : Type 0
Inspection = Result storage.Label InspectError

-- the paper's number of a reply, and its place: "gate id for 25 to 29 (lowest for 28); 0 for 30"; "Acceptance returns the depth", and then the number
-- is 0
abbrev pub said : Inspection → ℕ × ℕ
said (Ok depth) = (0, depth.depth)
said (Err (Refused x)) = table.said x
said (Err (LoopAt gate)) = (loop_number, gate.id)
said (Err (Shape f)) = shape.said f
said (Err (Cut gate)) = (25, gate.id)
said (Err (Label gate)) = (26, gate.id)
said (Err (Paths gate)) = (27, gate.id)
said (Err (Cover gate)) = (28, gate.id)
said (Err (Function gate)) = (29, gate.id)
said (Err Depth) = (30, 0)

abbrev pub number : Inspection → ℕ
number r = (said r).0

abbrev pub place : Inspection → ℕ
place r = (said r).1

-- the reply that names a rule, or accepts
abbrev pub reply_of : (depth : ℕ) → Found → Inspection
reply_of depth Found.none = Ok (record { depth = depth })
reply_of depth (Found.broken (Rule.cut gate leaves)) = Err (Cut (record { id = gate }))
reply_of depth (Found.broken (Rule.label gate)) = Err (Label (record { id = gate }))
reply_of depth (Found.broken (Rule.paths gate)) = Err (Paths (record { id = gate }))
reply_of depth (Found.broken (Rule.function lut)) = Err (Function (record { id = lut.root }))
reply_of depth (Found.broken (Rule.cover gate)) = Err (Cover (record { id = gate }))
reply_of depth (Found.broken Rule.depth) = Err Depth

-- what a sheet is read for: ids of one byte, labels and depth up to the greatest, and the table's K, I and n
abbrev pub due_in : List ℕ → Due
due_in s = record { form = narrow; most = most_depth; k = head_k s; inputs = sources_of s; nodes = nodes_of s }

module _ (s t : List ℕ) where
  -- the sheet that the bytes stand for, and the rules that it has to keep
  abbrev pub sheet_in : Sheet
  sheet_in = (reading (due_in s) t).sheet

  abbrev pub KeepsIn : Rule → Type 0
  KeepsIn = Keeps (drawn s) (tables_of (table_of s)) (head_k s) (roots_of s) sheet_in

  abbrev pub rules_in : List Rule
  rules_in = rules_of (drawn s) sheet_in

  -- The one reply: the table's refusal, else the first fault of the sheet's shape, else the first rule that is not kept, else acceptance.
  pub data Inspects : Inspection → Type 0 where
    -- 1 to 6, and 7
    refused : {x : Refusal} → (found s).verdict ≡ Err x → Inspects (Err (Refused x))
    loop : {g : Node} → ReadsWhole s → LowestLoop (drawn s) g.id → Inspects (Err (LoopAt g))
    -- 21 to 24, and 31
    faulty : {f : Fault} → IsTaken s → (reading (due_in s) t).ruling ≡ Err f → Inspects (Err (Shape f))
    -- 25 to 30
    ruled : {x : Found} → IsTaken s → (reading (due_in s) t).ruling ≡ Ok tt → FirstBroken KeepsIn rules_in x → Inspects (reply_of sheet_in.depth x)

  -- A sheet of sound shape that keeps all the rules.
  pub record KeepsAll : Type 0 where
    pub taken : IsTaken s
    pub sound : (reading (due_in s) t).ruling ≡ Ok tt
    pub each : (rule : Rule) → Memᴰ rule rules_in → KeepsIn rule
