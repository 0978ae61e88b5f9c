-- What is said of a table's bytes, whatever arrays they are read into: replies 1 to 7, or the table is taken.
use Rattle.std.specs.Prelude.{ℕ, ◌≡◌, List, Result, Ok, Err}
use Rattle.theory.specs.paper.Walk.{LowestLoop}
use Rattle.storage.specs.declared.Node.{Node}
use Rattle.storage.specs.declared.Numbers.{Numbers}
use Rattle.drawing.specs.declared.Refusal.{Refusal}
use Rattle.drawing.specs.paper.Refusals as table
use Rattle.drawing.specs.paper.Reading.{found, numbers_of}
use Rattle.walking.specs.paper.Loops as loops
use Rattle.taking.specs.declared.TakeError.{TakeError}
use Rattle.taking.specs.declared.TakeError.TheVariants.{Refused, LoopAt, TooShort}
use Rattle.taking.specs.paper.Taken.{drawn, ReadsWhole, IsTaken}

-- "8 Room": the number of a buffer that is too short, whoever is lent it
abbrev pub room_number : ℕ
room_number = 8

-- a table taken, with its numbers; or why it is not
abbrev pub Taking : Type 0
Taking = Result Numbers TakeError

-- number and place of a refusal, 0 and 0 where there is none; arrays that are too short are no matter of the paper
abbrev pub said : Taking → ℕ × ℕ
said (Ok n) = (0, 0)
said (Err (Refused x)) = table.said x
said (Err (LoopAt g)) = loops.said (Err g)
said (Err TooShort) = (0, 0)

abbrev pub number : Taking → ℕ
number r = (said r).0

abbrev pub place : Taking → ℕ
place r = (said r).1

-- The first fault is the reply; "Loop follows a whole reading"; else the table is taken.
pub data Says (s : List ℕ) : Taking → Type 0 where
  refused : {x : Refusal} → (found s).verdict ≡ Err x → Says s (Err (Refused x))
  loop : {g : Node} → ReadsWhole s → LowestLoop (drawn s) g.id → Says s (Err (LoopAt g))
  taken : IsTaken s → Says s (Ok (numbers_of s))
