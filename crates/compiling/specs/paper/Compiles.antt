-- What `compile` promises: refusals 41 to 43, 7 and 8 in this order, each with the buffer as before; else the gate table of the equations.
use Rattle.std.specs.Prelude.{ℕ, ◌≤◌, ◌<◌, ◌≡◌, List, ◌++◌, length, drop, Result, Ok, Err}
use Rattle.theory.specs.paper.Walk.{LowestLoop, NoLoop}
use Rattle.storage.specs.declared.Node.{Node}
use Rattle.drawing.specs.paper.Table.{net_of}
use Rattle.walking.specs.paper.Loops.{loop_number}
use Rattle.taking.specs.paper.Says.{room_number}
use Rattle.grammar.specs.paper.Text.{most_text}
use Rattle.grammar.specs.paper.Grammar.{System, WellFormed}
use Rattle.grammar.specs.paper.Longest.{Longest}
use Rattle.grammar.specs.paper.Names.{WellNamed, FirstMisnamed}
use Rattle.grammar.specs.paper.Gates.{table_for, InNumbers}
use Rattle.tabling.specs.paper.Encoding.{encode}
use Rattle.compiling.specs.declared.CompileError.{CompileError}
use Rattle.compiling.specs.declared.CompileError.TheVariants.{Text, Name, Numbers, LoopAt, Room}

-- "8 at 4,096 for a table buffer below that"
abbrev pub table_room : ℕ
table_room = 4096

-- number and place of a refusal; on success the number is 0 and the place the table's length
abbrev pub said : Result ℕ CompileError → ℕ × ℕ
said (Ok size) = (0, size)
said (Err (Text at)) = (41, at)
said (Err (Name at)) = (42, at)
said (Err Numbers) = (43, 0)
said (Err (LoopAt g)) = (loop_number, g.id)
said (Err Room) = (room_number, table_room)

abbrev pub number : Result ℕ CompileError → ℕ
number r = (said r).0

abbrev pub place : Result ℕ CompileError → ℕ
place r = (said r).1

-- a text that is short enough and in the grammar
pub record Typed (s : List ℕ) (sys : System) : Type 0 where
  pub short : length s ≤ most_text
  pub well_formed : WellFormed s sys

-- and whose names and numbers are right: it has a gate table
pub record Drawable (s : List ℕ) (k : ℕ) (sys : System) : Type 0 where
  pub typed : Typed s sys
  pub named : WellNamed s sys
  pub numbers : InNumbers k sys

-- "Refusals, in order: 41 .., 42 .., 43 .., 7; 8 at 4,096 .. A refusal writes no gate table."
pub data Compiles (s : List ℕ) (k : ℕ) (before : List ℕ) (r : Result ℕ CompileError) (after : List ℕ) : Type 0 where
  -- 41: "text too long, at 8,192"
  long : most_text < length s → r ≡ Err (Text most_text) → after ≡ before → Compiles s k before r after
  -- 41: "else not in the grammar or nested too deep, at the end of its longest beginning that some well-formed text of any length shares"
  ungrammatical : {p : ℕ} → length s ≤ most_text → ((sys : System) → WellFormed s sys → ⊥) → Longest s p → r ≡ Err (Text p) → after ≡ before →
      Compiles s k before r after
  -- 42: "name used but nowhere defined, or defined again (inputs included), at the first byte of the earliest such place"
  misnamed : {sys : System} {p : ℕ} → Typed s sys → FirstMisnamed s sys p → r ≡ Err (Name p) → after ≡ before → Compiles s k before r after
  -- 43: "K, inputs, nodes or outputs outside 01's numbers, at 0"
  outside : {sys : System} → Typed s sys → WellNamed s sys → (InNumbers k sys → ⊥) → r ≡ Err Numbers → after ≡ before → Compiles s k before r after
  -- 7: at the lowest gate on a loop
  loop : {sys : System} {g : Node} → Drawable s k sys → LowestLoop (net_of (table_for s k sys)) g.id → r ≡ Err (LoopAt g) → after ≡ before →
      Compiles s k before r after
  -- 8: "at 4,096 for a table buffer below that"
  room : {sys : System} → Drawable s k sys → NoLoop (net_of (table_for s k sys)) → length before < table_room → r ≡ Err Room → after ≡ before →
      Compiles s k before r after
  compiled : {sys : System} → Drawable s k sys → NoLoop (net_of (table_for s k sys)) → table_room ≤ length before →
      r ≡ Ok (length (encode (table_for s k sys))) →
      after ≡ encode (table_for s k sys) ++ drop (length (encode (table_for s k sys))) before →
      Compiles s k before r after
