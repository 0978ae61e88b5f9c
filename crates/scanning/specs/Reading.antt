-- What the readers of an expression's parts ask and promise. What they store speaks of the tree that was read, and where they stop of a run of the
-- machine up to there.
use Rattle.std.specs.Prelude.{ℕ, zero, suc, ◌+◌, ◌-◌, ◌*◌, ◌≤◌, ◌<◌, ◌≡◌, false, List, ◌++◌, length, take, replicate, Result, Ok, Err}
use Rattle.std.proofs.lemmas.List.Edits.{sets}
use Rattle.grammar.specs.paper.Text.{byte_at, bang, star, plus, closing, is_blank, most_text, most_brackets}
use Rattle.grammar.specs.paper.Grammar.{Tree, Factor, Term, Expression, MoreFactors, MoreTerms}
use Rattle.grammar.specs.paper.Gates.{size_of}
use Rattle.grammar.specs.Machine.{State, move, behind_operand, Runs, Halts}
use Rattle.grammar.specs.Stored.{operand_of, triple, triples}
use Rattle.spelling.specs.declared.Stopped.{Stopped}
use Rattle.spelling.specs.Spelling.{Skipped, Named, Unnamed}
use Rattle.scanning.specs.declared.expressions.Piece.{Piece}
use Rattle.scanning.specs.declared.operands.Bangs.{Bangs}

-- how many brackets are open where n more may be opened
abbrev pub opened : ℕ → ℕ
opened n = most_brackets - n

-- What a reader is asked: no more gates than bytes before it, and room for a gate a byte.
pub record Asked (s : List ℕ) (n at : ℕ) (gates : List ℕ) (made : ℕ) : Type 0 where
  pub nested : n ≤ most_brackets
  pub text : length s ≤ most_text
  pub within : at ≤ length s
  pub starts : is_blank (byte_at s at) ≡ false
  pub few : made ≤ at
  pub room : 3 * most_text ≤ length gates

-- The gates of e were stored behind the first `made`, all else is as before, and the piece tells e's operand and how many gates there are now.
pub record Holds (before : List ℕ) (made : ℕ) (e : Tree) (after : List ℕ) (r : Piece) : Type 0 where
  pub stored : after ≡ sets before (3 * made) (triples made e)
  pub operand : r.operand ≡ operand_of made e
  pub count : r.made ≡ made + size_of e

-- From i, where an operand is due, the bytes lead to a state at j in which the next byte does what it does behind an operand.
pub record Behind (s : List ℕ) (d i j : ℕ) : Type 0 where
  pub state : State
  pub run : Runs s (State.wants d) i state j
  pub next_move : move state (byte_at s j) ≡ behind_operand d (byte_at s j)
  pub undone : state ≡ State.done → ⊥

-- What was read where n brackets may be open: D tells what stands up to the next place, and which tree it is. Each gate has a byte of its own.
pub record Got (s : List ℕ) (D : ℕ → Tree → Type 0) (n at : ℕ) (before : List ℕ) (made : ℕ) (after : List ℕ) (r : Piece) : Type 0 where
  pub tree : Tree
  pub derived : D r.next tree
  pub holds : Holds before made tree after r
  pub slow : r.made + at ≤ made + r.next
  pub moved : at < r.next
  pub within : r.next ≤ length s
  pub ends : is_blank (byte_at s r.next) ≡ false
  pub behind : Behind s (opened n) at r.next

-- The bytes lead to p and no further. The gates before are kept; those behind are anything.
pub record Stops (s : List ℕ) (n at : ℕ) (before : List ℕ) (made : ℕ) (after : List ℕ) (p : ℕ) : Type 0 where
  pub halts : Halts s (State.wants (opened n)) at p
  pub within : p ≤ length s
  pub front : take (3 * made) after ≡ take (3 * made) before

abbrev pub Answer : (s : List ℕ) (D : ℕ → Tree → Type 0) (n at : ℕ) (before : List ℕ) (made : ℕ) (after : List ℕ) → Result Piece Stopped → Type 0
Answer s D n at before made after (Ok r) = Got s D n at before made after r
Answer s D n at before made after (Err stopped) = Stops s n at before made after stopped.place

-- a term with no `*` behind it, an expression with no `*` or `+` behind it
pub record WholeTerm (s : List ℕ) (n i j : ℕ) (e : Tree) : Type 0 where
  pub derived : Term s n i j e
  pub no_star : byte_at s j ≡ star → ⊥

pub record WholeExpression (s : List ℕ) (n i j : ℕ) (e : Tree) : Type 0 where
  pub derived : Expression s n i j e
  pub no_star : byte_at s j ≡ star → ⊥
  pub no_plus : byte_at s j ≡ plus → ⊥

abbrev pub FactorAnswer : (s : List ℕ) (n at : ℕ) (before : List ℕ) (made : ℕ) (after : List ℕ) → Result Piece Stopped → Type 0
FactorAnswer s n at = Answer s (Factor s n at) n at

abbrev pub TermAnswer : (s : List ℕ) (n at : ℕ) (before : List ℕ) (made : ℕ) (after : List ℕ) → Result Piece Stopped → Type 0
TermAnswer s n at = Answer s (WholeTerm s n at) n at

abbrev pub ExpressionAnswer : (s : List ℕ) (n at : ℕ) (before : List ℕ) (made : ℕ) (after : List ℕ) → Result Piece Stopped → Type 0
ExpressionAnswer s n at = Answer s (WholeExpression s n at) n at

-- A term or an expression that may go on: whatever goes on behind e, from j, makes one with it.
pub record OpenTerm (s : List ℕ) (n i j : ℕ) (e : Tree) : Type 0 where
  pub goes_on : (k : ℕ) (f : Tree) → MoreFactors s n e j k f → Term s n i k f

pub record OpenExpression (s : List ℕ) (n i j : ℕ) (e : Tree) : Type 0 where
  pub goes_on : (k : ℕ) (f : Tree) → MoreTerms s n e j k f → Expression s n i k f
  pub no_star : byte_at s j ≡ star → ⊥

-- so many signs `!` before e
unfoldable pub nots : ℕ → Tree → Tree
nots zero e = e
nots (suc k) e = Tree.not (nots k e)

-- Signs `!` were skipped: whatever factor stands behind them is one from the first of them on.
pub record Banged (s : List ℕ) (at : ℕ) (r : Bangs) : Type 0 where
  pub few : r.count + at ≤ r.next
  pub within : r.next ≤ length s
  pub ends : is_blank (byte_at s r.next) ≡ false
  pub no_bang : byte_at s r.next ≡ bang → ⊥
  pub negates : (n j : ℕ) (e : Tree) → Factor s n r.next j e → Factor s n at j (nots r.count e)
  pub run : (d : ℕ) → Runs s (State.wants d) at (State.wants d) r.next

-- One gate was put behind the others, and is the operand now.
pub record Joined (table left : ℕ) (right : Piece) (before after : List ℕ) (r : Piece) : Type 0 where
  pub stored : after ≡ sets before (3 * right.made) (triple table left right.operand)
  pub next : r.next ≡ right.next
  pub operand : r.operand ≡ most_text + right.made
  pub made : r.made ≡ right.made + 1

-- Gates of `count` signs `!` were put behind those of any tree that the piece was.
pub record Negated (count : ℕ) (piece : Piece) (before after : List ℕ) (r : Piece) : Type 0 where
  pub next : r.next ≡ piece.next
  pub holds : (from : List ℕ) (made : ℕ) (e : Tree) → Holds from made e before piece → Holds from made (nots count e) after r

-- the entries from a place on become 0
abbrev pub cleared_from : ℕ → List ℕ → List ℕ
cleared_from i l = take i l ++ replicate (length l - i) 0

-- a bracket that closes, or does not
pub record BracketClosed (s : List ℕ) (count : ℕ) (piece : Piece) (before after : List ℕ) (r : Piece) : Type 0 where
  pub here : byte_at s piece.next ≡ closing
  pub skipped : Skipped s (piece.next + 1) r.next
  pub holds : (from : List ℕ) (made : ℕ) (e : Tree) → Holds from made e before piece → Holds from made (nots count e) after r

pub record BracketOpen (s : List ℕ) (piece : Piece) (before after : List ℕ) (p : ℕ) : Type 0 where
  pub place : p ≡ piece.next
  pub no_closing : byte_at s p ≡ closing → ⊥
  pub kept : after ≡ before

abbrev pub Closed : (s : List ℕ) (count : ℕ) (piece : Piece) (before after : List ℕ) → Result Piece Stopped → Type 0
Closed s count piece before after (Ok r) = BracketClosed s count piece before after r
Closed s count piece before after (Err stopped) = BracketOpen s piece before after stopped.place

-- a name, or none
pub record NameTaken (s : List ℕ) (at count : ℕ) (before : List ℕ) (made : ℕ) (after : List ℕ) (r : Piece) : Type 0 where
  pub end : ℕ
  pub named : Named s at end
  pub skipped : Skipped s end r.next
  pub holds : Holds before made (nots count (Tree.name at)) after r

pub record NameMissing (s : List ℕ) (at : ℕ) (before after : List ℕ) (p : ℕ) : Type 0 where
  pub unnamed : Unnamed s at p
  pub kept : after ≡ before

abbrev pub NameRead : (s : List ℕ) (at count : ℕ) (before : List ℕ) (made : ℕ) (after : List ℕ) → Result Piece Stopped → Type 0
NameRead s at count before made after (Ok r) = NameTaken s at count before made after r
NameRead s at count before made after (Err stopped) = NameMissing s at before after stopped.place
