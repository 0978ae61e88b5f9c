-- Behind a text's end stands no blank, and letters and digits are the library's.
use Prim.Native.Nat.{ℕ, ◌≤◌, max}
use native.Mathlib.Decide.{dec_le}
use Rattle.std.proofs.Math.Bool.{or_assoc, or_comm}
use Rattle.std.proofs.Math.Nat.{max-eq_left, max-eq_right}
use native.Mathlib.Omega.{arith}
use mathlib.Core.Path.{◌≡◌, sym, ap, ◌∙◌}
use mathlib.Core.Bool.{false, ◌||◌, ◌&&◌}
use mathlib.Core.List.{List}
use lib.ListN.{length, get_or-eq_default}
use lib.Dec.{leb}
use Rattle.std.specs.Char.{is_ascii_alphanumeric}
use Rattle.grammar.specs.paper.Text.{byte_at, is_blank, is_letter, is_digit, is_word_byte}
use Rattle.grammar.specs.paper.Grammar.{Blanks}
use Rattle.grammar.proofs.Passing.{blanks_none}
use Rattle.spelling.specs.Spelling.{Skipped}

pub behind : (s : List ℕ) (i : ℕ) → length s ≤ i → byte_at s i ≡ 0
behind s i outside = get_or-eq_default s 0 {n = i} outside

pub no_blank_behind : (s : List ℕ) (i : ℕ) → length s ≤ i → is_blank (byte_at s i) ≡ false
unfolding is_blank
no_blank_behind s i outside = ap is_blank (behind s i outside)

-- where all are blanks up to the text's end; a place behind it has nothing to skip
pub blanks_to_end : (s : List ℕ) {i j : ℕ} → Blanks s i j → (i ≤ length s → j ≤ length s) → length s ≤ j → Skipped s i (max i (length s))
blanks_to_end s {i} {j} blanks within past = by_place (dec_le i (length s))
  where
    by_place : Dec (i ≤ length s) → Skipped s i (max i (length s))
    by_place (yes low) =
        let inside = within low in
        let same : j ≡ length s = omega arith in
        rw (max-eq_right low, sym same)
        (record { blanks = blanks; ends = no_blank_behind s j past; within = within })
    by_place (no high) =
        rw (max-eq_left {n = i} {m = length s} (omega arith))
        (record { blanks = blanks_none i; ends = no_blank_behind s i (omega arith); within = λ low. low })

-- the library's letters and digits are the grammar's
pub word_byte_told : (b : ℕ) → is_ascii_alphanumeric b ≡ is_word_byte b
unfolding is_word_byte is_letter is_digit
word_byte_told b =
    let upper = leb 65 b && leb b 90 in
    let lower = leb 97 b && leb b 122 in
    or_assoc (is_digit b) upper lower ∙ or_comm (is_digit b) (upper || lower)
