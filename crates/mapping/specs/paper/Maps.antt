-- What the mapper promises: refusals 1 to 8 of the paper, each with the buffer as before; else the mapper's sheet.
use Rattle.std.specs.Prelude.{ℕ, ◌≤◌, ◌<◌, ◌≡◌, List, ◌++◌, length, drop, Result, Ok, Err}
use Rattle.storage.specs.declared.Node.{Node}
use Rattle.theory.specs.paper.Walk.{LowestLoop}
use Rattle.drawing.specs.declared.Refusal.{Refusal}
use Rattle.drawing.specs.paper.Refusals as table
use Rattle.drawing.specs.paper.Fields.{head_k}
use Rattle.drawing.specs.paper.Table.{tables_of}
use Rattle.drawing.specs.paper.Reading.{found, table_of, roots_of}
use Rattle.walking.specs.paper.Loops.{loop_number}
use Rattle.taking.specs.paper.Taken.{drawn, ReadsWhole, IsTaken}
use Rattle.taking.specs.paper.Says.{room_number}
use Rattle.sheet.specs.paper.Limits.{sheet_room}
use Rattle.sheet.specs.paper.Sheet.{Sheet}
use Rattle.sheet.specs.paper.Encoding.{narrow, encode}
use Rattle.keeping.specs.paper.Mappers.{MappersSheet}
use Rattle.mapping.specs.declared.MapError.{MapError}
use Rattle.mapping.specs.declared.MapError.TheVariants.{Refused, LoopAt, Room}

-- "Every refusal returns its number and place"; "Success returns the sheet's length", and then the number is 0
abbrev pub said : Result ℕ MapError → ℕ × ℕ
said (Ok size) = (0, size)
said (Err (Refused x)) = table.said x
said (Err (LoopAt g)) = (loop_number, g.id)
said (Err Room) = (room_number, sheet_room)

abbrev pub number : Result ℕ MapError → ℕ
number r = (said r).0

abbrev pub place : Result ℕ MapError → ℕ
place r = (said r).1

-- a sheet that the mapper may make of a table's bytes
abbrev pub MapsTo : List ℕ → Sheet → Type 0
MapsTo s sheet = MappersSheet (drawn s) (tables_of (table_of s)) (head_k s) (roots_of s) sheet

-- "Fields go left to right and the first fault is the reply. Loop follows a whole reading; Room comes last. .. Every refusal returns its number and
-- place, and the sheet buffer is as before. Success returns the sheet's length; buffer bytes from there on are as before."
pub data Maps (s before : List ℕ) (r : Result ℕ MapError) (after : List ℕ) : Type 0 where
  -- 1 to 6: the table's first fault
  refused : {x : Refusal} → (found s).verdict ≡ Err x → r ≡ Err (Refused x) → after ≡ before → Maps s before r after
  -- 7: "some gate reaches itself along fanins", at the "lowest such gate"
  loop : {g : Node} → ReadsWhole s → LowestLoop (drawn s) g.id → r ≡ Err (LoopAt g) → after ≡ before → Maps s before r after
  -- 8: "sheet buffer shorter than 49,152"
  room : IsTaken s → length before < sheet_room → r ≡ Err Room → after ≡ before → Maps s before r after
  mapped : (sheet : Sheet) → IsTaken s → sheet_room ≤ length before → MapsTo s sheet → r ≡ Ok (length (encode narrow sheet)) →
      after ≡ encode narrow sheet ++ drop (length (encode narrow sheet)) before → Maps s before r after
