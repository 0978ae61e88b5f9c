-- What a function that puts bytes at a pen asks and promises.
use Rattle.std.specs.Prelude.{ℕ, ◌+◌, ◌≤◌, ◌≡◌, List, length}
use Rattle.std.proofs.lemmas.List.Edits.{sets}
use Rattle.wording.specs.declared.words.Pen.{Pen}

-- The pen's text has room for these bytes.
abbrev pub Room : Pen → List ℕ → Type 0
Room pen bytes = pen.at + length bytes ≤ length pen.text.now

-- These bytes stand where the pen was, all else in its text is as before, and the pen is behind them. The text's length follows, and is what the next
-- call asks.
pub record Put (before : Pen) (bytes : List ℕ) (after : Pen) : Type 0 where
  pub lent : after.text.ghost_name ≡ before.text.ghost_name
  pub size : length after.text.now ≡ length before.text.now
  pub next : after.at ≡ before.at + length bytes
  pub stored : after.text.now ≡ sets before.text.now before.at bytes
