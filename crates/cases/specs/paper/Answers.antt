-- What request 1 says of a text of equations and the user's K, and what it is that this is so.
use Rattle.std.specs.Prelude.{ℕ, ◌≤◌, ◌≡◌, List, length}
use Prim.Native.String.{String}
use Rattle.theory.specs.paper.Net.{Net}
use Rattle.theory.specs.paper.Walk.{LowestLoop, NoLoop}
use Rattle.drawing.specs.paper.Table.{Table, net_of}
use Rattle.tabling.specs.paper.Encoding.{encode}
use Rattle.wording.specs.paper.Text.{bytes}
use Rattle.grammar.specs.paper.Text.{most_text}
use Rattle.grammar.specs.paper.Grammar.{System, WellFormed}
use Rattle.grammar.specs.paper.Longest.{Longest}
use Rattle.grammar.specs.paper.Names.{WellNamed, FirstMisnamed}
use Rattle.grammar.specs.paper.Gates.{table_for, InNumbers}
use Rattle.cases.specs.paper.Cases.{Outcome, Case}

pub data Answer : Type 0 where
  -- 41 "not in the grammar or nested too deep", at a place
  ungrammatical : (place : ℕ) → Answer
  -- 42 "name used but nowhere defined, or defined again (inputs included)", at a place
  misnamed : (place : ℕ) → Answer
  -- 43 "K, inputs, nodes or outputs outside 01's numbers"
  outside : Answer
  -- 7 at a gate
  loops : (gate : ℕ) → Answer
  -- none of these, and the gate table
  becomes : Table → Answer
  -- a drawing of document 01: its gate table in its bytes, and 7 if it has a loop
  draws : Case → Answer

pub record Typed : Type 0 where
  pub text : String
  pub k : ℕ
  pub answer : Answer

pub record Ungrammatical (s : List ℕ) (p : ℕ) : Type 0 where
  pub never : (sys : System) → WellFormed s sys → ⊥
  pub longest : Longest s p

-- The refusals come in order: what is misnamed is in the grammar; what is outside the numbers has its names in order too.
pub record Misnames (s : List ℕ) (p : ℕ) : Type 0 where
  pub says : System
  pub well_formed : WellFormed s says
  pub first : FirstMisnamed s says p

pub record Exceeds (s : List ℕ) (k : ℕ) : Type 0 where
  pub says : System
  pub well_formed : WellFormed s says
  pub well_named : WellNamed s says
  pub exceeds : InNumbers k says → ⊥

-- The text gets past 43, and this is its gate table.
pub record Gives (s : List ℕ) (k : ℕ) (t : Table) : Type 0 where
  pub says : System
  pub well_formed : WellFormed s says
  pub well_named : WellNamed s says
  pub numbers : InNumbers k says
  pub table : table_for s k says ≡ t

-- The net is refused at a gate, or is not.
abbrev pub Ends : Net → Outcome → Type 0
Ends net (Outcome.maps sheet size) = NoLoop net
Ends net (Outcome.loops lowest) = LowestLoop net lowest

pub record Draws (s : List ℕ) (k : ℕ) (c : Case) : Type 0 where
  pub gives : Gives s k c.table
  pub bytes : encode c.table ≡ c.bytes
  pub ends : Ends (net_of c.table) c.outcome

abbrev pub Answers : (s : List ℕ) (k : ℕ) → Answer → Type 0
Answers s k (Answer.ungrammatical p) = Ungrammatical s p
Answers s k (Answer.misnamed p) = Misnames s p
Answers s k Answer.outside = Exceeds s k
Answers s k (Answer.loops gate) = (t : Table) × Gives s k t × LowestLoop (net_of t) gate
Answers s k (Answer.becomes t) = Gives s k t × NoLoop (net_of t)
Answers s k (Answer.draws c) = Draws s k c

-- The text is not too long, and what is said of it is so.
pub record Answered (t : Typed) : Type 0 where
  pub short : length (bytes t.text) ≤ most_text
  pub answers : Answers (bytes t.text) t.k t.answer
