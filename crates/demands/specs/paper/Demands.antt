-- The three demands of the minutes, over the promises of `map` (`Maps`) and `inspect` (`Inspects`) and the words of document 01. That a reply is
-- given at all, and the run ends, is the kit's part: both functions are proved to end with a reply that their promise allows, for all bytes.
use Rattle.std.specs.Prelude.{ℕ, ◌≤◌, ◌<◌, ◌≡◌, ◌↔◌, List, length, take, drop, Ok, Err, Result}
use Rattle.theory.specs.paper.Net.{Gate}
use Rattle.theory.specs.paper.Walk.{Loop, LowestLoop}
use Rattle.theory.specs.paper.Cover.{Label}
use Rattle.drawing.specs.declared.Refusal.{Refusal}
use Rattle.drawing.specs.paper.Refusals as table
use Rattle.drawing.specs.paper.Fields.{head_k}
use Rattle.drawing.specs.paper.Table.{tables_of}
use Rattle.drawing.specs.paper.Reading.{found, table_of, sources_of, roots_of}
use Rattle.walking.specs.paper.Loops.{loop_number}
use Rattle.taking.specs.paper.Taken.{drawn, ReadsWhole, IsTaken}
use Rattle.sheet.specs.declared.Fault.{Fault}
use Rattle.sheet.specs.paper.Limits.{sheet_room, longest_sheet}
use Rattle.sheet.specs.paper.Sheet.{Sheet}
use Rattle.sheet.specs.paper.Encoding.{narrow, encode}
use Rattle.sheet.specs.paper.Shape as shape
use Rattle.sheet.specs.paper.Shape.{reading}
use Rattle.sheet.specs.paper.Rules.{Rule, Found, FirstBroken, labels_of}
use Rattle.keeping.specs.paper.Right.{Right}
use Rattle.keeping.specs.paper.Same.{SameButEvidence}
use Rattle.mapping.specs.declared.MapError.{MapError}
use Rattle.taking.specs.paper.Says.{room_number}
use Rattle.mapping.specs.paper.Maps.{Maps, said, number, place}
use Rattle.inspecting.specs.paper.Inspecting.{Inspection, Inspects, KeepsAll, KeepsIn, rules_in, due_in, sheet_in, reply_of}
use Rattle.inspecting.specs.paper.Inspecting as inspection

abbrev pub SomeLoop : List ℕ → Type 0
SomeLoop s = (g : ℕ) × (Gate (drawn s) g × Loop (drawn s) g)

-- these bytes read as this sheet, for the table
abbrev pub ReadsAs : (s t : List ℕ) → Sheet → Type 0
ReadsAs s t sheet = reading (due_in s) t ≡ record { sheet = sheet; ruling = Ok tt }

-- What two replies of the mapper to one table and one buffer have in common: number and place, and the buffer, where it refuses; else the sheet
-- but for its evidence.
pub data SameReply (s : List ℕ) (r q : Result ℕ MapError) (after after' : List ℕ) : Type 0 where
  refusal : r ≡ q → after ≡ after' → SameReply s r q after after'
  sheets : (a b : Sheet) → number r ≡ 0 → number q ≡ 0 → SameButEvidence (sources_of s) a b → ReadsAs s (take (place r) after) a →
      ReadsAs s (take (place q) after') b → SameReply s r q after after'

-- DEMAND 1. "Every byte string given as a gate table or a sheet gets one reply and the run ends. A table that reads whole and has a loop is
-- refused for the loop, and no other table is; the reply names the lowest gate on a loop. Other refusals are those of the paper's list, each
-- exactly when its rule says. A refused call writes nothing into the sheet buffer."
-- The list: a table and a buffer are refused with this number and place: 1 to 6 for the first fault of the reading; 7 for a loop, at its lowest gate; 8 for a buffer
-- that is too short, at 49,152.
pub data MapperRefuses (s before : List ℕ) : ℕ × ℕ → Type 0 where
  faulty : {x : Refusal} → (found s).verdict ≡ Err x → MapperRefuses s before (table.said x)
  loop : {g : ℕ} → ReadsWhole s → LowestLoop (drawn s) g → MapperRefuses s before (loop_number, g)
  room : IsTaken s → length before < sheet_room → MapperRefuses s before (room_number, sheet_room)

pub record MapperReplies (s before : List ℕ) (r : Result ℕ MapError) (after : List ℕ) : Type 0 where
  -- "one reply"
  pub one : (q : Result ℕ MapError) (after' : List ℕ) → Maps s before q after' → SameReply s r q after after'
  -- "each exactly when its rule says", with its place
  pub refused : (x : ℕ × ℕ) → MapperRefuses s before x ↔ ((said r ≡ x) × (x.0 ≡ 0 → ⊥))
  -- "refused for the loop, and no other table is"
  pub loop : (number r ≡ loop_number) ↔ (ReadsWhole s × SomeLoop s)
  pub mapped : (number r ≡ 0) ↔ (IsTaken s × (sheet_room ≤ length before))
  -- "A refused call writes nothing into the sheet buffer"; and a sheet nothing behind its length
  pub untouched : (number r ≡ 0 → ⊥) → after ≡ before
  pub rest : number r ≡ 0 → drop (place r) after ≡ drop (place r) before

abbrev pub Demand1 : Type 0
Demand1 = (s before : List ℕ) (r : Result ℕ MapError) (after : List ℕ) → Maps s before r after → MapperReplies s before r after

-- The same of a sheet. A table and a sheet are refused with this number and place: 1 to 7 as the mapper does; for a table taken, 21 to 24 and 31 for the first fault of the
-- sheet's shape; for a sheet of sound shape, 25 to 30 for the first rule that is not kept, with the number and place of the reply that names it.
pub data InspectorRefuses (s t : List ℕ) : ℕ × ℕ → Type 0 where
  faulty : {x : Refusal} → (found s).verdict ≡ Err x → InspectorRefuses s t (table.said x)
  loop : {g : ℕ} → ReadsWhole s → LowestLoop (drawn s) g → InspectorRefuses s t (loop_number, g)
  misshapen : {f : Fault} → IsTaken s → (reading (due_in s) t).ruling ≡ Err f → InspectorRefuses s t (shape.said f)
  broken : {rule : Rule} → IsTaken s → (reading (due_in s) t).ruling ≡ Ok tt → FirstBroken (KeepsIn s t) (rules_in s t) (Found.broken rule) →
      InspectorRefuses s t (inspection.said (reply_of (sheet_in s t).depth (Found.broken rule)))

pub record InspectorReplies (s t : List ℕ) (r : Inspection) : Type 0 where
  pub one : (q : Inspection) → Inspects s t q → r ≡ q
  pub refused : (x : ℕ × ℕ) → InspectorRefuses s t x ↔ ((inspection.said r ≡ x) × (x.0 ≡ 0 → ⊥))
  pub loop : (inspection.number r ≡ loop_number) ↔ (ReadsWhole s × SomeLoop s)
  pub accepted : (inspection.number r ≡ 0) ↔ KeepsAll s t

abbrev pub Demand1Inspector : Type 0
Demand1Inspector = (s t : List ℕ) (r : Inspection) → Inspects s t r → InspectorReplies s t r

-- DEMAND 2. "For each table taken, every gate's label is the least depth that the gate can have in a K-LUT cover, and the LUTs written give each
-- output the value the gates give it, for all settings of the inputs."
pub record SheetWritten (s after : List ℕ) (size : ℕ) : Type 0 where
  pub sheet : Sheet
  pub length_is : size ≡ length (encode narrow sheet)
  pub inside : size ≤ length after
  pub bytes : take size after ≡ encode narrow sheet
  pub read : ReadsAs s (take size after) sheet
  pub labels : (t : ℕ) → Gate (drawn s) t → (outputs : List ℕ) → Label (drawn s) (head_k s) outputs t (labels_of (sources_of s) sheet.lines t)
  pub right : Right (drawn s) (tables_of (table_of s)) (head_k s) (roots_of s) sheet

abbrev pub Demand2 : Type 0
Demand2 = (s before : List ℕ) (r : Result ℕ MapError) (after : List ℕ) → Maps s before r after → number r ≡ 0 → SheetWritten s after (place r)

-- DEMAND 3. "For any table taken and any sheet, whoever drew it up: if the inspector accepts, the sheet's LUTs compute every output as the gates
-- do, and no K-LUT cover of that drawing has a smaller depth."
abbrev pub Demand3Right : Type 0
Demand3Right = (s t : List ℕ) (depth : ℕ) → Inspects s t (Ok (record { depth = depth })) →
    Right (drawn s) (tables_of (table_of s)) (head_k s) (roots_of s) (sheet_in s t) × (depth ≡ (sheet_in s t).depth)

-- "It accepts every sheet that keeps the printed rules"
abbrev pub Demand3Accepts : Type 0
Demand3Accepts = (s t : List ℕ) (r : Inspection) → KeepsAll s t → Inspects s t r → r ≡ Ok (record { depth = (sheet_in s t).depth })

-- "and the mapper's own sheet is one, for each table taken with a sheet buffer of 49,152 bytes or more."
abbrev pub Demand3Mapper : Type 0
Demand3Mapper = (s before : List ℕ) (r : Result ℕ MapError) (after : List ℕ) → Maps s before r after → number r ≡ 0 → KeepsAll s (take (place r) after)

-- "no acceptable sheet is longer than 43,554", whatever bytes the inspector is given.
abbrev pub Demand3Length : Type 0
Demand3Length = (s t : List ℕ) (depth : ℕ) → Inspects s t (Ok (record { depth = depth })) → length t ≤ longest_sheet
