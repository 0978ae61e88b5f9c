-- What the reader of an expression promises to others.
use Rattle.std.specs.Prelude.{ℕ, ◌*◌, ◌≤◌, ◌≡◌, false, List, length, get_or, Result, Ok, Err}
use Rattle.grammar.specs.paper.Text.{byte_at, is_blank, most_text, most_brackets}
use Rattle.grammar.specs.Machine.{State, Halts}
use Rattle.spelling.specs.declared.Stopped.{Stopped}
use Rattle.scanning.specs.declared.expressions.Piece.{Piece}
use Rattle.scanning.specs.Reading.{Got, WholeExpression}

-- No blank stands at the place. There are no more gates than bytes before it, the array is 0 behind them, and has room for a gate a byte.
pub record Begins (s : List ℕ) (at : ℕ) (gates : List ℕ) (made : ℕ) : Type 0 where
  pub text : length s ≤ most_text
  pub within : at ≤ length s
  pub starts : is_blank (byte_at s at) ≡ false
  pub few : made ≤ at
  pub room : 3 * most_text ≤ length gates
  pub empty : (i : ℕ) → 3 * made ≤ i → get_or gates i 0 ≡ 0

-- No expression stands there: the bytes lead to p and no further. The gates are as before.
pub record Unread (s : List ℕ) (at : ℕ) (before after : List ℕ) (p : ℕ) : Type 0 where
  pub halts : Halts s (State.wants 0) at p
  pub within : p ≤ length s
  pub kept : after ≡ before

abbrev pub Reads : (s : List ℕ) (at : ℕ) (before : List ℕ) (made : ℕ) (after : List ℕ) → Result Piece Stopped → Type 0
Reads s at before made after (Ok r) = Got s (WholeExpression s most_brackets at) most_brackets at before made after r
Reads s at before made after (Err stopped) = Unread s at before after stopped.place
