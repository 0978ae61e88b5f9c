-- Blanks, names and signs end where a byte stands that does not continue them: two from one place end at one place.
use Prim.Native.Nat.{ℕ, zero, suc, ◌+◌, ◌-◌, ◌≤◌, ◌<◌}
use native.Mathlib.Nat.{eq-or-lt_of_le}
use native.Mathlib.Decide.{dec_lt}
use native.Mathlib.Omega.{arith}
use mathlib.Core.Path.{◌≡◌, refl, sym, ap, subst, ◌∙◌}
use mathlib.Core.Logic.{⊎_elim}
use mathlib.Core.Bool.{Bool, true, false, false≢true}
use mathlib.Core.List.{List, [], ◌∷◌}
use lib.ListN.{length, get_or, take, drop, length-drop}
use lib.Seq.{get_or-drop}
use Rattle.grammar.specs.paper.Text.{byte_at, is_blank, is_word_byte, word_of, word_at}
use Rattle.grammar.specs.paper.Grammar.{between, Blanks, Gap, Name, Sign}
use Rattle.grammar.proofs.Bytes.{blank_no_word_byte, letter_no_blank, word_byte_within}

-- a stretch ends where its test fails, and there only
pub one_end : (f : ℕ → Bool) {i j j' : ℕ} → i ≤ j → i ≤ j' → ((m : ℕ) → i ≤ m → m < j → f m ≡ true) → ((m : ℕ) → i ≤ m → m < j' → f m ≡ true) →
    f j ≡ false → f j' ≡ false → j ≡ j'
one_end f {i} {j} {j'} low low' each each' out out' = by_order (dec_lt j j') (dec_lt j' j)
  where
    by_order : Dec (j < j') → Dec (j' < j) → j ≡ j'
    by_order (yes less) low_or = absurd (false≢true (sym out ∙ each' j low less))
    by_order (no least) (yes more) = absurd (false≢true (sym out' ∙ each j' low' more))
    by_order (no least) (no most) = omega arith

abbrev pub NoBlank : List ℕ → ℕ → Type 0
NoBlank s i = is_blank (byte_at s i) ≡ false

abbrev pub NoWord : List ℕ → ℕ → Type 0
NoWord s i = is_word_byte (byte_at s i) ≡ false

module _ {s : List ℕ} where
  pub blanks_end : {i j j' : ℕ} → Blanks s i j → Blanks s i j' → NoBlank s j → NoBlank s j' → j ≡ j'
  blanks_end b b' out out' = one_end (λ m. is_blank (byte_at s m)) b.ordered b'.ordered b.each b'.each out out'

  pub sign_ends : {sign i a a' : ℕ} → Sign s sign i a → Sign s sign i a' → NoBlank s a → NoBlank s a' → a ≡ a'
  sign_ends z z' out out' = blanks_end z.blanks z'.blanks out out'

  pub name_ends : {i a a' : ℕ} → Name s i a → Name s i a' → NoWord s a → NoWord s a' → a ≡ a'
  name_ends {i} {a} {a'} n n' out out' =
      let low = n.some in let low' = n'.some in
      one_end (λ m. is_word_byte (byte_at s m)) {i = i} (omega arith) (omega arith) n.each n'.each out out'

  -- a byte that is no letter or digit stands before blanks if one stands behind them
  pub before_blanks : {a j : ℕ} → Blanks s a j → NoWord s j → NoWord s a
  before_blanks {a} {j} b out =
      ⊎_elim (λ (e : a ≡ j). subst (NoWord s) (sym e) out) (λ (some : a < j). blank_no_word_byte (byte_at s a) (b.each a (omega arith) some))
      (eq-or-lt_of_le b.ordered)

  pub gap_no_word : {i a : ℕ} → Gap s i a → NoWord s i
  gap_no_word {i} g = blank_no_word_byte (byte_at s i) (g.blanks.each i (omega arith) g.some)

  pub name_starts : {i a : ℕ} → Name s i a → NoBlank s i
  name_starts {i} n = letter_no_blank (byte_at s i) n.letter

  pub blanks_from : {a a' j : ℕ} → a ≡ a' → Blanks s a j → Blanks s a' j
  blanks_from {j = j} e b = subst (λ (x : ℕ). Blanks s x j) e b

-- The word at a place

-- it has all letters and digits up to the first byte that is none
word_of_stretch : (n : ℕ) (l : List ℕ) → n ≤ length l → ((m : ℕ) → m < n → is_word_byte (get_or l m 0) ≡ true) → is_word_byte (get_or l n 0) ≡ false →
    word_of l ≡ take n l
unfolding word_of
word_of_stretch zero [] fits each out = refl
word_of_stretch zero (b ∷ l) fits each out = rw out
word_of_stretch (suc n) [] fits each out = absurd (omega arith)
word_of_stretch (suc n) (b ∷ l) fits each out = rw (each 0 (omega arith))
    (ap {B = List ℕ} (λ r. b ∷ r) (word_of_stretch n l (omega arith) (λ m less. each (suc m) (omega arith)) out))

pub word_of_name : {s : List ℕ} {i j : ℕ} → Name s i j → NoWord s j → word_at s i ≡ between s i j
word_of_name {s} {i} {j} n out =
    let some = n.some in
    let inside : j - 1 < length s = word_byte_within s (j - 1) (n.each (j - 1) (omega arith) (omega arith)) in
    let there : i + (j - i) ≡ j = omega arith in
    word_of_stretch (j - i) (drop i s) (omega (arith, length-drop i s))
    (λ m less. ap is_word_byte (get_or-drop i s m 0) ∙ n.each (i + m) (omega arith) (omega arith))
    (ap is_word_byte (get_or-drop i s (j - i) 0) ∙ ap (λ (x : ℕ). is_word_byte (byte_at s x)) there ∙ out)
