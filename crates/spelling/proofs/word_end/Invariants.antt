-- `word_end` meets its contract: all before `end` are letters and digits.
use Rattle.std.specs.Prelude.{ℕ, ◌≤◌, ◌<◌, ◌≡◌, true, length}
use Rattle.grammar.specs.paper.Text.{byte_at, is_word_byte}
use Rattle.spelling.proofs.word_end.Given as goal

abbrev pub invariant-loop-end : goal.invariant-loop-end
invariant-loop-end l = (l.end ≤ length l.text) × ((m : ℕ) → l.at ≤ m → m < l.end → is_word_byte (byte_at l.text m) ≡ true)
