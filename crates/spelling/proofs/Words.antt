-- A word that begins with a letter is a name or a keyword.
use Prim.Native.Nat.{ℕ, ◌+◌, ◌-◌, ◌≤◌, ◌<◌}
use native.Mathlib.Decide.{dec_lt}
use native.Mathlib.Omega.{arith}
use mathlib.Core.Path.{◌≡◌, sym, ap, ◌∙◌}
use mathlib.Core.Bool.{true, false, false≢true}
use mathlib.Core.Logic.{◌⊎◌, ⊎_elim}
use mathlib.Core.List.{List}
use lib.ListN.{length}
use Rattle.grammar.specs.paper.Text.{byte_at, is_letter, is_word_byte, most_letters}
use Rattle.grammar.specs.paper.Grammar.{between}
use Rattle.grammar.specs.Machine.{is_keyword}
use Rattle.grammar.proofs.Bytes.{letter_in_word, not_in, not_out, keyword_short}
use Rattle.grammar.proofs.Words.{length_between}
use Rattle.spelling.specs.Spelling.{WordEnd, Named, Keyword}

module _ {s : List ℕ} {i j : ℕ} (letter : is_letter (byte_at s i) ≡ true) (w : WordEnd s i j) where
  -- so the word has a byte
  pub word_some : i < j
  word_some = go (dec_lt i j) w.ends
    where
      go : Dec (i < j) → (is_word_byte (byte_at s j) ≡ false) ⊎ (j ≡ i + most_letters) → i < j
      go (yes h) e = h
      go (no h) (◌⊎◌.inl e) =
          let o = w.ordered in
          let same : j ≡ i = omega arith in
          absurd (false≢true (sym e ∙ ap (λ (k : ℕ). is_word_byte (byte_at s k)) same ∙ letter_in_word (byte_at s i) letter))
      go (no h) (◌⊎◌.inr e) = omega arith

  pub name_of : is_keyword (between s i j) ≡ false → Named s i j
  name_of plain =
      record {
        name = record {
          some = word_some;
          few = w.few;
          letter = letter;
          each = w.each;
          not_in = not_in (between s i j) plain;
          not_out = not_out (between s i j) plain;
        };
        plain = plain;
        ends = w.ends;
        within = w.within;
      }

  pub keyword_of : is_keyword (between s i j) ≡ true → Keyword s i j
  keyword_of keyword =
      let o = w.ordered in
      let short : length (between s i j) ≤ 3 = keyword_short (between s i j) keyword in
      let size : length (between s i j) ≡ j - i = length_between s i j w.within in
      record {
        some = word_some;
        few = w.few;
        letter = letter;
        each = w.each;
        keyword = keyword;
        ends = ⊎_elim (λ (e : is_word_byte (byte_at s j) ≡ false). e) (λ (e : j ≡ i + most_letters). absurd (omega arith)) w.ends;
        within = w.within;
      }
