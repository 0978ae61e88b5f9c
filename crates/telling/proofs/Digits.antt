-- The digit of a word of one byte, and of any other word.
use Prim.Native.Nat.{ℕ, ◌-◌, ◌≤◌, ◌<◌}
use native.Mathlib.Omega.{arith}
use mathlib.Core.Path.{◌≡◌, refl}
use mathlib.Core.List.{List, [], ◌∷◌}
use lib.ListN.{length, get_or}
use borrow.Author.Tests.{le-leb, lt-leb}
use Rattle.grammar.specs.paper.Text.{is_digit}
use Rattle.telling.specs.paper.Argument.{digit_of}

pub not_one_byte : (word : List ℕ) → (length word ≡ 1 → ⊥) → 0 ≡ digit_of word
unfolding digit_of
not_one_byte [] other = refl
not_one_byte (b ∷ []) other = absurd (other refl)
not_one_byte (b ∷ c ∷ more) other = refl

pub below_digits : (word : List ℕ) → length word ≡ 1 → get_or word 0 0 < 48 → 0 ≡ digit_of word
unfolding digit_of is_digit
below_digits [] one low = refl
below_digits (b ∷ []) one low = rw (lt-leb 48 b low)
below_digits (b ∷ c ∷ more) one low = refl

pub above_digits : (word : List ℕ) → length word ≡ 1 → 57 < get_or word 0 0 → 0 ≡ digit_of word
unfolding digit_of is_digit
above_digits [] one high = refl
above_digits (b ∷ []) one high = rw (le-leb 48 b (omega arith), lt-leb b 57 high)
above_digits (b ∷ c ∷ more) one high = refl

pub a_digit : (word : List ℕ) → length word ≡ 1 → 48 ≤ get_or word 0 0 → get_or word 0 0 ≤ 57 → get_or word 0 0 - 48 ≡ digit_of word
unfolding digit_of is_digit
a_digit [] one low high = absurd (omega arith)
a_digit (b ∷ []) one low high = rw (le-leb 48 b low, le-leb b 57 high)
a_digit (b ∷ c ∷ more) one low high = absurd (omega arith)
