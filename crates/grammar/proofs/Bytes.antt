-- Bytes and words: what a blank, a letter and a digit are not, and when two words are one. A blank is at most 32, a letter or digit at least 48 and
-- neither 59 nor 61, so no byte is two of these things; signs are numbers, and what they are not computes.
use Prim.Native.Nat.{ℕ, ◌≤◌, ◌<◌}
use native.Mathlib.Omega.{arith}
use mathlib.Core.Path.{◌≡◌, refl, sym, ap, ◌∙◌}
use mathlib.Core.Logic.{◌⊎◌, inl, inr, ⊎_elim}
use mathlib.Core.Bool.{Bool, true, false, ◌||◌, ◌&&◌, true≢false, false≢true}
use mathlib.Core.List.{List, [], ◌∷◌}
use lib.Dec.{leb, eqb}
use lib.ListN.{length, get_or-eq_default}
use native.Mathlib.Decide.{dec_lt}
use borrow.Author.Tests.{leb-true, eqb-true, eq-eqb}
use Rattle.grammar.specs.paper.Text.{byte_at, is_blank, is_letter, is_digit, is_word_byte, word_in, word_out, same_word}
use Rattle.grammar.specs.Machine.{is_keyword}

-- tests
pub or_cases : (a b : Bool) → (a || b) ≡ true → (a ≡ true) ⊎ (b ≡ true)
or_cases true b e = inl refl
or_cases false b e = inr e

pub and_both : (a b : Bool) → (a && b) ≡ true → (a ≡ true) × (b ≡ true)
and_both true b e = (refl, e)
and_both false b e = absurd (false≢true e)

pub test_fails : (a : Bool) → (a ≡ true → ⊥) → a ≡ false
test_fails true no-pass = absurd (no-pass refl)
test_fails false no-pass = refl

-- where the kinds of bytes lie
pub blank_low : (b : ℕ) → is_blank b ≡ true → b ≤ 32
unfolding is_blank
blank_low b e =
    ⊎_elim (λ (h : eqb b 32 ≡ true). omega (arith, eqb-true b 32 h))
    (λ (h : (eqb b 10 || eqb b 13) ≡ true).
    ⊎_elim (λ (k : eqb b 10 ≡ true). omega (arith, eqb-true b 10 k)) (λ (k : eqb b 13 ≡ true). omega (arith, eqb-true b 13 k))
    (or_cases (eqb b 10) (eqb b 13) h))
    (or_cases (eqb b 32) (eqb b 10 || eqb b 13) e)

pub letter_high : (b : ℕ) → is_letter b ≡ true → 65 ≤ b
unfolding is_letter
letter_high b e =
    ⊎_elim (λ (h : (leb 65 b && leb b 90) ≡ true). leb-true 65 b (and_both (leb 65 b) (leb b 90) h).0)
    (λ (h : (leb 97 b && leb b 122) ≡ true). omega (arith, leb-true 97 b (and_both (leb 97 b) (leb b 122) h).0))
    (or_cases (leb 65 b && leb b 90) (leb 97 b && leb b 122) e)

pub digit_between : (b : ℕ) → is_digit b ≡ true → (48 ≤ b) × (b ≤ 57)
unfolding is_digit
digit_between b e = let (low, high) = and_both (leb 48 b) (leb b 57) e in (leb-true 48 b low, leb-true b 57 high)

pub word_byte_high : (b : ℕ) → is_word_byte b ≡ true → 48 ≤ b
unfolding is_word_byte
word_byte_high b e =
    ⊎_elim (λ (h : is_letter b ≡ true). omega (arith, letter_high b h)) (λ (h : is_digit b ≡ true). (digit_between b h).0) (or_cases (is_letter b) (is_digit b) e)

-- a byte is of one kind
pub letter_in_word : (b : ℕ) → is_letter b ≡ true → is_word_byte b ≡ true
unfolding is_word_byte
letter_in_word b e = rw e

pub letter_no_blank : (b : ℕ) → is_letter b ≡ true → is_blank b ≡ false
letter_no_blank b e = test_fails (is_blank b) (λ h. omega (arith, letter_high b e, blank_low b h))

pub blank_no_letter : (b : ℕ) → is_blank b ≡ true → is_letter b ≡ false
blank_no_letter b e = test_fails (is_letter b) (λ h. omega (arith, letter_high b h, blank_low b e))

pub word_byte_no_blank : (b : ℕ) → is_word_byte b ≡ true → is_blank b ≡ false
word_byte_no_blank b e = test_fails (is_blank b) (λ h. omega (arith, word_byte_high b e, blank_low b h))

pub blank_no_word_byte : (b : ℕ) → is_blank b ≡ true → is_word_byte b ≡ false
blank_no_word_byte b e = test_fails (is_word_byte b) (λ h. omega (arith, word_byte_high b h, blank_low b e))

-- all signs but `=` and `;` lie between blanks and digits, these two between digits and letters
pub letter_no_sign : (b sign : ℕ) → sign < 65 → is_letter b ≡ true → eqb b sign ≡ false
letter_no_sign b sign low e = test_fails (eqb b sign) (λ h. omega (arith, letter_high b e, eqb-true b sign h))

-- Behind the text's end stands 0, which is of no kind: where something stands the text goes on.
pub stands_within : (s : List ℕ) (i : ℕ) → (byte_at s i ≡ 0 → ⊥) → i < length s
stands_within s i some = by_order (dec_lt i (length s))
  where
    by_order : Dec (i < length s) → i < length s
    by_order (yes inside) = inside
    by_order (no outside) = absurd (some (get_or-eq_default s 0 (omega arith)))

pub blank_within : (s : List ℕ) (i : ℕ) → is_blank (byte_at s i) ≡ true → i < length s
unfolding is_blank
blank_within s i e = stands_within s i (λ z. false≢true (ap is_blank (sym z) ∙ e))

pub word_byte_within : (s : List ℕ) (i : ℕ) → is_word_byte (byte_at s i) ≡ true → i < length s
word_byte_within s i e = stands_within s i (λ z. omega (arith, word_byte_high (byte_at s i) e, z))

pub letter_within : (s : List ℕ) (i : ℕ) → is_letter (byte_at s i) ≡ true → i < length s
letter_within s i e = word_byte_within s i (letter_in_word (byte_at s i) e)

pub sign_within : (s : List ℕ) (i sign : ℕ) → 0 < sign → byte_at s i ≡ sign → i < length s
sign_within s i sign some e = stands_within s i (λ z. omega (arith, z, e))

-- two words are one exactly if the test says so
pub same_word_is : (v w : List ℕ) → same_word v w ≡ true → v ≡ w
unfolding same_word
same_word_is [] [] e = refl
same_word_is [] (c ∷ cs) e = absurd (false≢true e)
same_word_is (b ∷ bs) [] e = absurd (false≢true e)
same_word_is (b ∷ bs) (c ∷ cs) e =
    let (first, rest) = and_both (eqb b c) (same_word bs cs) e in
    cc (eqb-true b c first, same_word_is bs cs rest)

pub same_word_refl : (w : List ℕ) → same_word w w ≡ true
unfolding same_word
same_word_refl [] = refl
same_word_refl (b ∷ bs) = rw (eq-eqb b b refl) (same_word_refl bs)

pub is_same_word : (v w : List ℕ) → v ≡ w → same_word v w ≡ true
is_same_word v w e = rw e (same_word_refl w)

pub same_word_not : (v w : List ℕ) → (v ≡ w → ⊥) → same_word v w ≡ false
same_word_not v w differ = test_fails (same_word v w) (λ e. differ (same_word_is v w e))

-- keywords
pub keyword_is : (w : List ℕ) → is_keyword w ≡ true → (w ≡ word_in) ⊎ (w ≡ word_out)
unfolding is_keyword
keyword_is w e =
    ⊎_elim (λ (h : same_word w word_in ≡ true). inl (same_word_is w word_in h)) (λ (h : same_word w word_out ≡ true). inr (same_word_is w word_out h))
    (or_cases (same_word w word_in) (same_word w word_out) e)

pub no_keyword : (w : List ℕ) → (w ≡ word_in → ⊥) → (w ≡ word_out → ⊥) → is_keyword w ≡ false
no_keyword w not_in not_out = test_fails (is_keyword w) (λ e. ⊎_elim not_in not_out (keyword_is w e))

pub not_in : (w : List ℕ) → is_keyword w ≡ false → w ≡ word_in → ⊥
unfolding is_keyword same_word
not_in w e is = true≢false (ap is_keyword (sym is) ∙ e)

pub not_out : (w : List ℕ) → is_keyword w ≡ false → w ≡ word_out → ⊥
unfolding is_keyword same_word
not_out w e is = true≢false (ap is_keyword (sym is) ∙ e)

pub keyword_short : (w : List ℕ) → is_keyword w ≡ true → length w ≤ 3
keyword_short w e = ⊎_elim (λ (h : w ≡ word_in). omega (arith, ap length h)) (λ (h : w ≡ word_out). omega (arith, ap length h)) (keyword_is w e)
