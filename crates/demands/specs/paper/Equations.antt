-- The demands on typed equations, over the promise of `compile` (`Compiles`), those of `map` and `inspect`, and the words of grammar and theory: "prove that the
-- text is accepted exactly by the written grammar, and that the gate table gives each output its equation's value". What is compiled is a table that `map`
-- takes, so the three demands hold of typed equations.
use Rattle.std.specs.Prelude.{ℕ, ◌≤◌, ◌<◌, ◌≡◌, ◌↔◌, ◌⊎◌, Bool, List, length, get_or, take, drop, Result, Ok}
use Rattle.theory.specs.paper.Walk.{LowestLoop}
use Rattle.theory.specs.paper.Lookup.{ObeysLuts}
use Rattle.drawing.specs.paper.Table.{net_of, tables_of}
use Rattle.drawing.specs.paper.Reading.{table_of}
use Rattle.walking.specs.paper.Loops.{loop_number}
use Rattle.taking.specs.paper.Taken.{IsTaken}
use Rattle.taking.specs.paper.Says.{room_number}
use Rattle.sheet.specs.paper.Limits.{sheet_room}
use Rattle.sheet.specs.paper.Sheet.{Sheet}
use Rattle.sheet.specs.paper.Rules.{luts_of, table_listed}
use Rattle.grammar.specs.paper.Text.{most_text, word_at}
use Rattle.grammar.specs.paper.Grammar.{System, WellFormed}
use Rattle.grammar.specs.paper.Longest.{Longest}
use Rattle.grammar.specs.paper.Names.{WellNamed, FirstMisnamed}
use Rattle.grammar.specs.paper.Gates.{table_for, InNumbers}
use Rattle.grammar.specs.paper.Meaning.{Solves}
use Rattle.grammar.specs.paper.Faithful.{Faithful}
use Rattle.grammar.specs.paper.Circles.{Circular}
use Rattle.compiling.specs.declared.CompileError.{CompileError}
use Rattle.compiling.specs.paper.Compiles.{Compiles, Typed, Drawable, table_room, said, number, place}
use Rattle.keeping.specs.paper.Right.{Right}
use Rattle.mapping.specs.declared.MapError.{MapError}
use Rattle.mapping.specs.paper.Maps as mapping
use Rattle.mapping.specs.paper.Maps.{Maps}
use Rattle.inspecting.specs.paper.Inspecting.{Inspects, sheet_in}

-- "Refusals, in order: 41 text too long, at 8,192, else not in the grammar or nested too deep, at the end of its longest beginning that some well-formed text
-- of any length shares; 42 name used but nowhere defined, or defined again (inputs included), at the first byte of the earliest such place; 43 K, inputs,
-- nodes or outputs outside 01's numbers, at 0; 7; 8 at 4,096 for a table buffer below that." A text, a K and a buffer are refused with this number and place.
-- Each asks that no earlier one is due, so that one is at most.
pub data CompilerRefuses (s : List ℕ) (k : ℕ) (before : List ℕ) : ℕ × ℕ → Type 0 where
  long : most_text < length s → CompilerRefuses s k before (41, most_text)
  ungrammatical : {p : ℕ} → length s ≤ most_text → ((sys : System) → WellFormed s sys → ⊥) → Longest s p → CompilerRefuses s k before (41, p)
  misnamed : {sys : System} {p : ℕ} → Typed s sys → FirstMisnamed s sys p → CompilerRefuses s k before (42, p)
  outside : {sys : System} → Typed s sys → WellNamed s sys → (InNumbers k sys → ⊥) → CompilerRefuses s k before (43, 0)
  loop : {sys : System} {g : ℕ} → Drawable s k sys → LowestLoop (net_of (table_for s k sys)) g → CompilerRefuses s k before (loop_number, g)
  room : {sys : System} → Drawable s k sys → (Circular s sys → ⊥) → length before < table_room → CompilerRefuses s k before (room_number, table_room)

pub record CompilerReplies (s : List ℕ) (k : ℕ) (before : List ℕ) (r : Result ℕ CompileError) (after : List ℕ) : Type 0 where
  -- one reply, and one buffer
  pub one : (q : Result ℕ CompileError) (after' : List ℕ) → Compiles s k before q after' → (r ≡ q) × (after ≡ after')
  -- each refusal exactly when it is due, with its place
  pub refused : (x : ℕ × ℕ) → CompilerRefuses s k before x ↔ ((said r ≡ x) × (x.0 ≡ 0 → ⊥))
  -- "the text is accepted exactly by the written grammar": refused for its text exactly if it has more than 8,192 bytes or is not in the grammar
  pub text : (number r ≡ 41) ↔ ((most_text < length s) ⊎ ((sys : System) → WellFormed s sys → ⊥))
  -- refused for a loop exactly if some name depends on itself
  pub circle : (number r ≡ loop_number) ↔ ((sys : System) × Drawable s k sys × Circular s sys)
  pub compiled : (number r ≡ 0) ↔ ((sys : System) × Drawable s k sys × (Circular s sys → ⊥) × (table_room ≤ length before))
  -- "A refusal writes no gate table"; and a table nothing behind its length
  pub untouched : (number r ≡ 0 → ⊥) → after ≡ before
  pub rest : number r ≡ 0 → drop (place r) after ≡ drop (place r) before

-- What a sheet is good for that was drawn up for a text's gate table: all that demands 2 and 3 say, with the user's K; and its LUTs give each output its equation's
-- value. Whatever values obey the LUTs and have the setting at the inputs, and whatever values of the names solve the equations for that setting, the j-th output
-- has the value of the j-th name behind `out`.
pub record Serves (s : List ℕ) (k : ℕ) (sys : System) (sheet : Sheet) : Type 0 where
  pub right : Right (net_of (table_for s k sys)) (tables_of (table_for s k sys)) k (table_for s k sys).outputs sheet
  pub answers : (setting x : ℕ → Bool) (value : List ℕ → Bool) → ((i : ℕ) → i < length sys.inputs → x i ≡ setting i) →
      ObeysLuts (luts_of sheet.luts) (table_listed sheet.luts) x → Solves s sys setting value →
      (j : ℕ) → j < length sys.outputs → x (get_or (table_for s k sys).outputs j 0) ≡ value (word_at s (get_or sys.outputs j 0))

-- The bytes of a text's gate table, with K.
pub record TableWritten (s : List ℕ) (k : ℕ) (bytes : List ℕ) : Type 0 where
  -- the one system that the text is
  pub says : System
  pub drawable : Drawable s k says
  pub alone : (sys : System) → WellFormed s sys → sys ≡ says
  -- `map` takes them, and they read as the system's table, in which "each operator becomes one gate"
  pub taken : IsTaken bytes
  pub table : table_of bytes ≡ table_for s k says
  -- "the gate table gives each output its equation's value": each setting has one solution, and the gates have its values at the outputs
  pub faithful : Faithful s says (table_for s k says)
  -- so do the LUTs that `map` writes, into a buffer that is long enough
  pub mapped : (before : List ℕ) (q : Result ℕ MapError) (after : List ℕ) → Maps bytes before q after → sheet_room ≤ length before →
      (mapping.number q ≡ 0) × Serves s k says (sheet_in bytes (take (mapping.place q) after))
  -- and those of every sheet that `inspect` accepts for them
  pub inspected : (sheet : List ℕ) (depth : ℕ) → Inspects bytes sheet (Ok (record { depth = depth })) → Serves s k says (sheet_in bytes sheet)

pub record EquationsAnswered (s : List ℕ) (k : ℕ) (before : List ℕ) (r : Result ℕ CompileError) (after : List ℕ) : Type 0 where
  pub replies : CompilerReplies s k before r after
  -- compiled, the place is the table's length, and the table stands at the buffer's front
  pub inside : number r ≡ 0 → place r ≤ length after
  pub written : number r ≡ 0 → TableWritten s k (take (place r) after)

abbrev pub DemandEquations : Type 0
DemandEquations = (s : List ℕ) (k : ℕ) (before : List ℕ) (r : Result ℕ CompileError) (after : List ℕ) → Compiles s k before r after → EquationsAnswered s k before r after
