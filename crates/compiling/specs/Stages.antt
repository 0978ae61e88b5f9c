-- What `compile`'s stages ask and promise. A text that was read is known by what its arrays hold.
use Rattle.std.specs.Prelude.{ℕ, ◌+◌, ◌*◌, ◌≤◌, ◌<◌, ◌≡◌, Bool, ◌&&◌, List, ◌++◌, length, drop, leb, Result, Ok, Err}
use Rattle.drawing.specs.paper.Limits.{least_k, most_k, most_inputs, most_nodes, most_outputs}
use Rattle.drawing.specs.paper.Forms.{narrow_table}
use Rattle.theory.specs.paper.Walk.{LowestLoop, NoLoop}
use Rattle.storage.specs.declared.Node.{Node}
use Rattle.drawing.specs.paper.Table.{Table, net_of}
use Rattle.taking.specs.declared.TakeError.{TakeError}
use Rattle.taking.specs.declared.TakeError.TheVariants as taking
use Rattle.taking.specs.paper.Says.{Taking}
use Rattle.sheet.specs.Writing.{Room, Written}
use Rattle.tabling.specs.paper.Encoding.{gate_field, encode}
use Rattle.tabling.specs.Within.{Within}
use Rattle.tabling.specs.Fields.{outputs_done}
use Rattle.tabling.specs.Judged.{Judged}
use Rattle.grammar.specs.paper.Text.{most_text}
use Rattle.grammar.specs.paper.Grammar.{System}
use Rattle.grammar.specs.paper.Names.{WellNamed}
use Rattle.grammar.specs.paper.Gates.{table_for, InNumbers}
use Rattle.scanning.specs.declared.Counts.{Counts}
use Rattle.scanning.specs.Scanning.{counts_of}
use Rattle.naming.specs.Stored.{Stored, node_named}
use Rattle.naming.specs.Lines.{three_in, line_of}
use Rattle.compiling.specs.declared.CompileError.{CompileError}
use Rattle.compiling.specs.declared.CompileError.TheVariants.{LoopAt, Room as RoomShort}
use Rattle.compiling.specs.paper.Compiles.{Typed, table_room}

-- "K, inputs, nodes or outputs" inside "01's numbers", by the counts
unfoldable pub numbers_right : (k : ℕ) → Counts → Bool
numbers_right k c =
    leb least_k k && (leb k most_k && (leb c.inputs most_inputs && (leb (c.inputs + c.gates) most_nodes && leb c.outputs most_outputs)))

-- A text in the grammar, as its reader leaves it.
pub record Scanned (s gates names : List ℕ) (c : Counts) : Type 0 where
  pub says : System
  pub typed : Typed s says
  pub counts : c ≡ counts_of says
  pub stored : Stored s says c.gates c.definitions c.outputs gates names
  pub gates_long : 3 * c.gates ≤ length gates
  pub names_long : 2 * (c.definitions + c.outputs) ≤ length names

-- its names are right
pub record NamesRight (s gates names : List ℕ) (c : Counts) : Type 0 where
  pub scanned : Scanned s gates names c
  pub named : WellNamed s scanned.says

-- and so are its numbers
pub record Ready (s : List ℕ) (k : ℕ) (gates names : List ℕ) (c : Counts) : Type 0 where
  pub right : NamesRight s gates names c
  pub numbers : InNumbers k right.scanned.says

-- its gate table
abbrev pub ready_table : {s gates names : List ℕ} {k : ℕ} {c : Counts} → Ready s k gates names c → Table
ready_table {s} {k = k} ready = table_for s k ready.right.scanned.says

-- One gate from the arrays.
pub record GateAsked (s gates : List ℕ) (gate : ℕ) (names : List ℕ) (definitions inputs : ℕ) (table : List ℕ) (at : ℕ) : Type 0 where
  pub gates_long : 3 * (gate + 1) ≤ length gates
  pub left_low : inputs + (three_in gates gate).left ≤ most_text + 32767
  pub right_low : inputs + (three_in gates gate).right ≤ most_text + 32767
  pub room : Room table at (gate_field narrow_table (line_of (node_named s names definitions) inputs (three_in gates gate)))

abbrev pub GateWritten : (s gates : List ℕ) (gate : ℕ) (names : List ℕ) (definitions inputs : ℕ) (table : List ℕ) (at : ℕ) (after : List ℕ) (next : ℕ) → Type 0
GateWritten s gates gate names definitions inputs table at after next =
    Written table at (gate_field narrow_table (line_of (node_named s names definitions) inputs (three_in gates gate))) after next

-- The head and all gates were written; all of the table was.
abbrev pub GatesWritten : (s : List ℕ) (k : ℕ) (gates names : List ℕ) (c : Counts) (before after : List ℕ) (next : ℕ) → Type 0
GatesWritten s k gates names c before after next =
    (ready : Ready s k gates names c) → Written before 0 (outputs_done (ready_table ready) 0) after next

abbrev pub TableWritten : (s : List ℕ) (k : ℕ) (gates names : List ℕ) (c : Counts) (before after : List ℕ) (next : ℕ) → Type 0
TableWritten s k gates names c before after next = (ready : Ready s k gates names c) → Written before 0 (encode (ready_table ready)) after next

-- Behind the head and all gates, in a buffer that had room for the whole table, the outputs are due.
pub record OutputsAsked (s names : List ℕ) (c : Counts) (middle : List ℕ) (start : ℕ) : Type 0 where
  pub k : ℕ
  pub gates : List ℕ
  pub ready : Ready s k gates names c
  pub before : List ℕ
  pub room : table_room ≤ length before
  pub written : Written before 0 (outputs_done (ready_table ready) 0) middle start

abbrev pub OutputsWritten : (s names : List ℕ) (c : Counts) (middle : List ℕ) (start : ℕ) (after : List ℕ) (next : ℕ) → Type 0
OutputsWritten s names c middle start after next =
    (asked : OutputsAsked s names c middle start) → Written asked.before 0 (encode (ready_table asked.ready)) after next

-- The bytes of a gate table within document 01's numbers.
pub record TableHere (bytes : List ℕ) : Type 0 where
  pub table : Table
  pub within : Within table
  pub is : bytes ≡ encode table
  pub fits : length bytes ≤ table_room

abbrev pub JudgedBytes : (bytes : List ℕ) → Taking → Type 0
JudgedBytes bytes r = (table : Table) → Within table → bytes ≡ encode table → Judged table r

-- a table that is not taken is not stored; one that was written here is never refused, nor an array too short for it
abbrev pub error_of : TakeError → CompileError
error_of (taking.Refused x) = RoomShort
error_of (taking.LoopAt g) = LoopAt g
error_of taking.TooShort = RoomShort

-- 7, then 8; else the bytes stand at the front of the buffer
pub data Kept (table : Table) (bytes before : List ℕ) (r : Result ℕ CompileError) (after : List ℕ) : Type 0 where
  loop : {g : Node} → LowestLoop (net_of table) g.id → r ≡ Err (LoopAt g) → after ≡ before → Kept table bytes before r after
  room : NoLoop (net_of table) → length before < table_room → r ≡ Err RoomShort → after ≡ before → Kept table bytes before r after
  stored : NoLoop (net_of table) → table_room ≤ length before → r ≡ Ok (length bytes) → after ≡ bytes ++ drop (length bytes) before →
      Kept table bytes before r after

abbrev pub Stores : (bytes before : List ℕ) (r : Result ℕ CompileError) (after : List ℕ) → Type 0
Stores bytes before r after = (table : Table) → Within table → bytes ≡ encode table → Kept table bytes before r after
