-- What reading equations promises. Where a reader stops, the machine halts.
use Rattle.std.specs.Prelude.{ℕ, ◌+◌, ◌-◌, ◌*◌, ◌≤◌, ◌<◌, ◌≡◌, false, List, [], ◌∷◌, length, get_or, Result, Ok, Err}
use Rattle.std.proofs.lemmas.List.Edits.{sets}
use Rattle.grammar.specs.paper.Text.{byte_at, semicolon, equals, is_blank, is_word_byte, word_out, most_text, most_brackets}
use Rattle.grammar.specs.paper.Grammar.{between, Tree, Equation, Blanks, Name, Sign, Expression, Equates, Equations}
use Rattle.grammar.specs.paper.Gates.{equation_size, all_size, equation_nodes, pass_table}
use Rattle.grammar.specs.Machine.{State, Runs, Halts}
use Rattle.grammar.specs.Stored.{triple, equation_triples, all_triples, definition_pairs}
use Rattle.spelling.specs.declared.Stopped.{Stopped}
use Rattle.spelling.specs.Spelling.{Skipped}
use Rattle.scanning.specs.declared.expressions.Piece.{Piece}
use Rattle.scanning.specs.declared.lefts.Left.{Left}
use Rattle.scanning.specs.declared.lefts.Left.TheVariants as left
use Rattle.scanning.specs.declared.equations.Moved.{Moved}
use Rattle.scanning.specs.declared.equations.Turn.{Turn}
use Rattle.scanning.specs.declared.equations.Turn.TheVariants as turn
use Rattle.scanning.specs.declared.equations.Stage.{Stage}

module _ (s : List ℕ) where
  -- no blank stands there
  pub record Begins (at : ℕ) : Type 0 where
    pub within : at ≤ length s
    pub solid : is_blank (byte_at s at) ≡ false

  -- `=`, with blanks around it
  pub record EqualsHere (end start : ℕ) : Type 0 where
    pub sign : ℕ
    pub blanks : Blanks s end sign
    pub equals_sign : Sign s equals sign start
    pub within : start ≤ length s
    pub solid : is_blank (byte_at s start) ≡ false

  pub record NoEquals (end p : ℕ) : Type 0 where
    pub blanks : Blanks s end p
    pub solid : is_blank (byte_at s p) ≡ false
    pub other : byte_at s p ≡ equals → ⊥

  abbrev pub EqualsRead : (end : ℕ) → Result ℕ Stopped → Type 0
  EqualsRead end (Ok start) = EqualsHere end start
  EqualsRead end (Err stopped) = NoEquals end stopped.place

  -- a name and `=`: an expression is due
  pub record LeftSide (at start : ℕ) : Type 0 where
    pub name_end : ℕ
    pub named : Name s at name_end
    pub here : EqualsHere name_end start
    pub far : at + 2 ≤ start
    pub run : Runs s State.between_lines at (State.wants 0) start

  -- the word `out`
  pub record OutHere (at p : ℕ) : Type 0 where
    pub size : p ≡ at + 3
    pub keyword : between s at (at + 3) ≡ word_out
    pub ends : is_word_byte (byte_at s p) ≡ false
    pub within : p ≤ length s
    pub run : Runs s State.between_lines at (State.left word_out) p

  abbrev pub LeftRead : (at : ℕ) → Result Left Stopped → Type 0
  LeftRead at (Ok (left.Equation start)) = LeftSide at start
  LeftRead at (Ok (left.Out p)) = OutHere at p
  LeftRead at (Err stopped) = Halts s State.between_lines at stopped.place

-- the gates' array is 0 from gate number `made` on
abbrev pub Empty : (gates : List ℕ) (made : ℕ) → Type 0
Empty gates made = (i : ℕ) → 3 * made ≤ i → get_or gates i 0 ≡ 0

-- What is asked where an expression is due.
pub record RightAsked (s : List ℕ) (at : ℕ) (gates : List ℕ) (made : ℕ) : Type 0 where
  pub short : length s ≤ most_text
  pub begins : Begins s at
  pub few : made + 2 ≤ at
  pub room : 3 * most_text ≤ length gates
  pub empty : Empty gates made

-- What is asked behind an expression.
pub record EndAsked (s : List ℕ) (piece : Piece) (gates : List ℕ) (made : ℕ) : Type 0 where
  pub within : piece.next ≤ length s
  pub few : made < most_text
  pub room : 3 * most_text ≤ length gates

-- the gates of an equation with this expression, where those of the expression are stored
pub record Passed (piece : Piece) (made : ℕ) (gates₀ gates : List ℕ) (count : ℕ) : Type 0 where
  pub bare : piece.made ≡ made → (gates ≡ sets gates₀ (3 * made) (triple pass_table piece.operand piece.operand)) × (count ≡ made + 1)
  pub whole : (piece.made ≡ made → ⊥) → (gates ≡ gates₀) × (count ≡ piece.made)

pub record EndHere (s : List ℕ) (piece : Piece) (made : ℕ) (gates₀ gates : List ℕ) (moved : Moved) : Type 0 where
  pub here : byte_at s piece.next ≡ semicolon
  pub skipped : Skipped s (piece.next + 1) moved.next
  pub passed : Passed piece made gates₀ gates moved.made

pub record NoEnd (s : List ℕ) (piece : Piece) (gates₀ gates : List ℕ) (p : ℕ) : Type 0 where
  pub place : p ≡ piece.next
  pub other : byte_at s p ≡ semicolon → ⊥
  pub kept : gates ≡ gates₀

abbrev pub EndRead : (s : List ℕ) (piece : Piece) (made : ℕ) (gates₀ gates : List ℕ) → Result Moved Stopped → Type 0
EndRead s piece made gates₀ gates (Ok moved) = EndHere s piece made gates₀ gates moved
EndRead s piece made gates₀ gates (Err stopped) = NoEnd s piece gates₀ gates stopped.place

-- an expression and `;`: the gates of its equation are stored
pub record RightSide (s : List ℕ) (at made : ℕ) (gates₀ gates : List ℕ) (next count : ℕ) : Type 0 where
  pub tree : Tree
  pub stop : ℕ
  pub expression : Expression s most_brackets at stop tree
  pub end : Sign s semicolon stop next
  pub stored : gates ≡ sets gates₀ (3 * made) (equation_triples made tree)
  pub counted : count ≡ made + equation_size tree
  pub slow : count + at ≤ made + next + 1
  pub begins : Begins s next
  pub forward : at < next
  pub run : Runs s (State.wants 0) at State.between_lines next

-- Where a reader stops, so does the machine; what is kept is nobody's concern.
pub record RightStopped (s : List ℕ) (at : ℕ) (gates₀ gates : List ℕ) (p : ℕ) : Type 0 where
  pub halts : Halts s (State.wants 0) at p
  pub size : length gates ≡ length gates₀

abbrev pub RightRead : (s : List ℕ) (at made : ℕ) (gates₀ gates : List ℕ) → Result Moved Stopped → Type 0
RightRead s at made gates₀ gates (Ok moved) = RightSide s at made gates₀ gates moved.next moved.made
RightRead s at made gates₀ gates (Err stopped) = RightStopped s at gates₀ gates stopped.place

-- What is asked between two equations.
pub record TurnAsked (s : List ℕ) (at : ℕ) (gates : List ℕ) (made : ℕ) (names : List ℕ) (listed inputs : ℕ) : Type 0 where
  pub short : length s ≤ most_text
  pub begins : Begins s at
  pub gates_few : made ≤ at
  pub names_few : 2 * listed ≤ at
  pub inputs_few : inputs ≤ listed
  pub gates_room : 3 * most_text ≤ length gates
  pub names_room : most_text ≤ length names
  pub empty : Empty gates made

-- one equation, with its gates and its name
pub record EquationHere (s : List ℕ) (at : ℕ) (gates₀ : List ℕ) (made : ℕ) (names₀ : List ℕ) (listed inputs : ℕ) (gates names : List ℕ) (next count : ℕ) : Type 0 where
  pub tree : Tree
  pub equates : Equates s at next tree
  pub gates_stored : gates ≡ sets gates₀ (3 * made) (equation_triples made tree)
  pub names_stored : names ≡ sets names₀ (2 * listed) (at ∷ (inputs + made + equation_size tree - 1) ∷ [])
  pub counted : count ≡ made + equation_size tree
  pub begins : Begins s next
  pub gates_few : count ≤ next
  pub names_few : 2 * (listed + 1) ≤ next
  pub forward : at < next
  pub run : Runs s State.between_lines at State.between_lines next

pub record OutRead (s : List ℕ) (at : ℕ) (gates₀ names₀ gates names : List ℕ) (p : ℕ) : Type 0 where
  pub here : OutHere s at p
  pub gates_kept : gates ≡ gates₀
  pub names_kept : names ≡ names₀

pub record LinesStopped (s : List ℕ) (at : ℕ) (gates₀ names₀ gates names : List ℕ) (p : ℕ) : Type 0 where
  pub halts : Halts s State.between_lines at p
  pub gates_size : length gates ≡ length gates₀
  pub names_size : length names ≡ length names₀

abbrev pub TurnRead : (s : List ℕ) (at : ℕ) (gates₀ : List ℕ) (made : ℕ) (names₀ : List ℕ) (listed inputs : ℕ) (gates names : List ℕ) → Result Turn Stopped → Type 0
TurnRead s at gates₀ made names₀ listed inputs gates names (Ok (turn.Equation moved)) =
    EquationHere s at gates₀ made names₀ listed inputs gates names moved.next moved.made
TurnRead s at gates₀ made names₀ listed inputs gates names (Ok (turn.Out p)) = OutRead s at gates₀ names₀ gates names p
TurnRead s at gates₀ made names₀ listed inputs gates names (Err stopped) = LinesStopped s at gates₀ names₀ gates names stopped.place

pub record EquationsAsked (s : List ℕ) (at : ℕ) (gates names : List ℕ) (inputs : ℕ) : Type 0 where
  pub short : length s ≤ most_text
  pub begins : Begins s at
  pub names_few : 2 * inputs ≤ at
  pub gates_room : 3 * most_text ≤ length gates
  pub names_room : most_text ≤ length names
  pub empty : Empty gates 0

-- the equations from `at` up to `next`, with their gates and names
pub record Sofar (s : List ℕ) (at : ℕ) (gates₀ names₀ : List ℕ) (inputs : ℕ) (gates names : List ℕ) (next made listed : ℕ) : Type 0 where
  pub equations : List Equation
  pub equating : Equations s at next equations
  pub gates_stored : gates ≡ sets gates₀ 0 (all_triples 0 equations)
  pub names_stored : names ≡ sets names₀ (2 * inputs) (definition_pairs (equation_nodes inputs equations))
  pub made_is : made ≡ all_size equations
  pub listed_is : listed ≡ inputs + length equations
  pub begins : Begins s next
  pub gates_few : made ≤ next
  pub names_few : 2 * listed ≤ next
  pub empty : Empty gates made
  pub run : Runs s State.between_lines at State.between_lines next

pub record EquationsOut (s : List ℕ) (at : ℕ) (gates₀ names₀ : List ℕ) (inputs : ℕ) (gates names : List ℕ) (p made listed : ℕ) : Type 0 where
  pub last : ℕ
  pub sofar : Sofar s at gates₀ names₀ inputs gates names last made listed
  pub out : OutHere s last p

abbrev pub EquationsRead : (s : List ℕ) (at : ℕ) (gates₀ names₀ : List ℕ) (inputs : ℕ) (gates names : List ℕ) → Result Stage Stopped → Type 0
EquationsRead s at gates₀ names₀ inputs gates names (Ok stage) =
    EquationsOut s at gates₀ names₀ inputs gates names stage.next stage.made stage.listed
EquationsRead s at gates₀ names₀ inputs gates names (Err stopped) = LinesStopped s at gates₀ names₀ gates names stopped.place
