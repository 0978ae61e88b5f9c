-- The reply to a table's bytes with the loop rule: "Loop follows a whole reading", and what the lent arrays hold afterwards.
use Rattle.std.specs.Prelude.{◌≡◌, Bool, true, false, ◌&&◌, List, ℕ, length, leb, ⊤, Result, Ok, Err}
use Rattle.storage.specs.declared.Node.{Node}
use Rattle.storage.specs.declared.Numbers.{Numbers}
use Rattle.drawing.specs.declared.ReadError.{ReadError}
use Rattle.drawing.specs.declared.ReadError.TheVariants as read
use Rattle.drawing.specs.paper.Limits.{most_nodes}
use Rattle.drawing.specs.paper.Table.{net_of}
use Rattle.drawing.specs.paper.Reading.{table_of}
use Rattle.drawing.specs.Reading.{Reading, Arrays, reading, filled}
use Rattle.walking.specs.Promises.{OrderMade}
use Rattle.taking.specs.declared.TakeError.{TakeError}
use Rattle.taking.specs.declared.TakeError.TheVariants.{Refused, LoopAt, TooShort}
use Rattle.taking.specs.paper.Says.{Taking}

-- room for the order of the largest table
abbrev pub roomy : (order marks : List ℕ) → Bool
roomy order marks = leb most_nodes (length order) && leb most_nodes (length marks)

-- a whole table is taken, or refused for its loop
abbrev pub after_order : Numbers → Result ⊤ Node → Taking
after_order n (Ok _) = Ok n
after_order n (Err g) = Err (LoopAt g)

-- a table that is not read is not taken
abbrev pub error_of : ReadError → TakeError
error_of (read.Refused r) = Refused r
error_of read.TooShort = TooShort

-- What is promised for each reply of the reading: the order is made only for a whole table.
pub data After (s order₀ marks₀ : List ℕ) (r : Taking) (order marks : List ℕ) : Reading → Type 0 where
  short : r ≡ Err TooShort → order ≡ order₀ → marks ≡ marks₀ → After s order₀ marks₀ r order marks (Err read.TooShort)
  refused : {x : _} → r ≡ Err (Refused x) → order ≡ order₀ → marks ≡ marks₀ → After s order₀ marks₀ r order marks (Err (read.Refused x))
  ordered : {n : Numbers} → (o : Result ⊤ Node) → r ≡ after_order n o → OrderMade (net_of (table_of s)) order₀ marks₀ o order marks →
      After s order₀ marks₀ r order marks (Ok n)

-- What `take_table` promises: arrays too short for an order are left as they were; else they are as the reading leaves them, and ordered.
pub data Takes (before : Arrays) (order₀ marks₀ s : List ℕ) (r : Taking) (after : Arrays) (order marks : List ℕ) : Type 0 where
  short : roomy order₀ marks₀ ≡ false → r ≡ Err TooShort → after ≡ before → order ≡ order₀ → marks ≡ marks₀ →
      Takes before order₀ marks₀ s r after order marks
  long : roomy order₀ marks₀ ≡ true → after ≡ filled before s → After s order₀ marks₀ r order marks (reading before s) →
      Takes before order₀ marks₀ s r after order marks
