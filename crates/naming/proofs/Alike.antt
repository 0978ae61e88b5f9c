-- Words: the word at a place byte by byte, and the test of two words.
use Prim.Native.Nat.{ℕ, suc, ◌+◌, ◌-◌, ◌≤◌, ◌<◌}
use native.Mathlib.Numerals.{add-one}
use native.Mathlib.Decide.{dec_lt}
use native.Mathlib.Omega.{arith}
use mathlib.Core.Path.{◌≡◌, refl, ap, ap₂, sym, subst, ◌∙◌}
use mathlib.Core.Bool.{Bool, true, false, cond, not, ◌&&◌, true≢false}
use mathlib.Core.List.{List, [], ◌∷◌}
use lib.Dec.{eqb}
use lib.ListN.{length, take, drop, drop_of_length-le}
use Rattle.std.proofs.lemmas.List.{take_all, length-drop}
use lib.Seq.{drop-cons}
use Rattle.std.specs.List.{take_while}
use Rattle.std.proofs.lemmas.List.Sums.{take_while-cons}
use borrow.Author.Tests.{eq-eqb, eqb-true, ne_eqb}
use Rattle.storage.proofs.Entries.{false_not_true}
use Rattle.grammar.specs.paper.Text.{byte_at, is_word_byte, word_of, word_at, same_word}
use Rattle.grammar.proofs.Bytes.{word_byte_within, is_same_word}

-- two words that the test tells apart
pub same_fails : {v w : List ℕ} → same_word v w ≡ false → v ≡ w → ⊥
same_fails {v} {w} f e = false_not_true f (is_same_word v w e)

-- the test takes two words in either order
eqb_turned : (b c : ℕ) → eqb b c ≡ eqb c b
eqb_turned b c = by_test (eqb b c) refl
  where
    by_test : (t : Bool) → eqb b c ≡ t → eqb b c ≡ eqb c b
    by_test true e = e ∙ sym (eq-eqb c b (sym (eqb-true b c e)))
    by_test false e = e ∙ sym (ne_eqb c b (λ same. true≢false (sym (eq-eqb b c (sym same)) ∙ e)))

pub same_turned : (v w : List ℕ) → same_word v w ≡ same_word w v
unfolding same_word
same_turned [] [] = refl
same_turned [] (c ∷ cs) = refl
same_turned (b ∷ bs) [] = refl
same_turned (b ∷ bs) (c ∷ cs) = ap (λ (t : Bool). t && same_word bs cs) (eqb_turned b c) ∙ ap (λ (t : Bool). eqb c b && t) (same_turned bs cs)

-- The word at a place

-- the library takes its bytes
word_taken : (s : List ℕ) → take_while is_word_byte s ≡ word_of s
unfolding word_of
word_taken [] = refl
word_taken (b ∷ bs) = take_while-cons is_word_byte b bs ∙ ap (λ (w : List ℕ). cond (is_word_byte b) (b ∷ w) []) (word_taken bs)

-- so from a place on, where the text goes that far
pub word_in_rest : (s : List ℕ) (x : ℕ) → length (take_while is_word_byte (take (length s - x) (drop x s))) ≡ length (word_at s x)
word_in_rest s x =
    ap (λ (l : List ℕ). length (take_while is_word_byte l)) (take_all (length s - x) (drop x s) (omega (arith, length-drop x s)))
    ∙ ap length (word_taken (drop x s))

pub none_behind : (s : List ℕ) (x : ℕ) → length s ≤ x → length (word_at s x) ≡ 0
unfolding word_of
none_behind s x high = ap (λ (l : List ℕ). length (word_of l)) (drop_of_length-le s high)

module _ (s : List ℕ) where
  pub word_more : (x : ℕ) → is_word_byte (byte_at s x) ≡ true → word_at s x ≡ byte_at s x ∷ word_at s (x + 1)
  unfolding word_of
  word_more x e =
      ap word_of (drop-cons s x 0 (word_byte_within s x e)) ∙ ap (λ (t : Bool). cond t (byte_at s x ∷ word_of (drop (suc x) s)) []) e
      ∙ ap (λ (n : ℕ). byte_at s x ∷ word_of (drop n s)) (sym (add-one x))

  pub word_none : (x : ℕ) → is_word_byte (byte_at s x) ≡ false → word_at s x ≡ []
  unfolding word_of
  word_none x e = by_order (dec_lt x (length s))
    where
      by_order : Dec (x < length s) → word_at s x ≡ []
      by_order (yes low) = ap word_of (drop-cons s x 0 low) ∙ ap (λ (t : Bool). cond t (byte_at s x ∷ word_of (drop (suc x) s)) []) e
      by_order (no high) = ap word_of (drop_of_length-le s {i = x} (omega (arith, high)))

  -- Two words, a byte at a time

  abbrev alike : (x y : ℕ) → Bool
  alike x y = same_word (word_at s x) (word_at s y)

  alike_step : (x y : ℕ) → is_word_byte (byte_at s x) ≡ true → byte_at s x ≡ byte_at s y → alike x y ≡ alike (x + 1) (y + 1)
  unfolding same_word
  alike_step x y e same =
      let first = word_more x e in
      let second = word_more y (subst (λ (b : ℕ). is_word_byte b ≡ true) same e) in
      ap (λ (v : List ℕ). same_word v (word_at s y)) first
      ∙ ap (λ (w : List ℕ). same_word (byte_at s x ∷ word_at s (x + 1)) w) second
      ∙ ap (λ (t : Bool). t && alike (x + 1) (y + 1)) (eq-eqb (byte_at s x) (byte_at s y) same)

  alike_differ : (x y : ℕ) → is_word_byte (byte_at s x) ≡ true → (byte_at s x ≡ byte_at s y → ⊥) → alike x y ≡ false
  unfolding same_word
  alike_differ x y e differ = ap (λ (v : List ℕ). same_word v (word_at s y)) (word_more x e) ∙ by_test (is_word_byte (byte_at s y)) refl
    where
      by_test : (t : Bool) → is_word_byte (byte_at s y) ≡ t → same_word (byte_at s x ∷ word_at s (x + 1)) (word_at s y) ≡ false
      by_test true f =
          ap (λ (w : List ℕ). same_word (byte_at s x ∷ word_at s (x + 1)) w) (word_more y f)
          ∙ ap (λ (t : Bool). t && alike (x + 1) (y + 1)) (ne_eqb (byte_at s x) (byte_at s y) differ)
      by_test false f = ap (λ (w : List ℕ). same_word (byte_at s x ∷ word_at s (x + 1)) w) (word_none y f)

  alike_end : (x y : ℕ) → is_word_byte (byte_at s x) ≡ false → alike x y ≡ not (is_word_byte (byte_at s y))
  unfolding same_word
  alike_end x y e = ap (λ (v : List ℕ). same_word v (word_at s y)) (word_none x e) ∙ by_test (is_word_byte (byte_at s y)) refl
    where
      by_test : (t : Bool) → is_word_byte (byte_at s y) ≡ t → same_word [] (word_at s y) ≡ not (is_word_byte (byte_at s y))
      by_test true f = ap (same_word []) (word_more y f) ∙ sym (ap not f)
      by_test false f = ap (same_word []) (word_none y f) ∙ sym (ap not f)

  -- How long a word is tells where it ends.

  pub longer : (x : ℕ) → is_word_byte (byte_at s x) ≡ true → length (word_at s x) ≡ suc (length (word_at s (x + 1)))
  longer x e = ap length (word_more x e)

  pub over : (x : ℕ) → is_word_byte (byte_at s x) ≡ false → length (word_at s x) ≡ 0
  over x e = ap length (word_none x e)

  still_in : (x : ℕ) → 0 < length (word_at s x) → is_word_byte (byte_at s x) ≡ true
  still_in x low = by_test (is_word_byte (byte_at s x)) refl
    where
      by_test : (t : Bool) → is_word_byte (byte_at s x) ≡ t → is_word_byte (byte_at s x) ≡ true
      by_test true e = e
      by_test false e = absurd (omega (arith, low, over x e))

  behind : (x : ℕ) → length (word_at s x) ≡ 0 → is_word_byte (byte_at s x) ≡ false
  behind x none = by_test (is_word_byte (byte_at s x)) refl
    where
      by_test : (t : Bool) → is_word_byte (byte_at s x) ≡ t → is_word_byte (byte_at s x) ≡ false
      by_test true e = absurd (omega (arith, none, longer x e))
      by_test false e = e

  -- Two words walked side by side, i places of `size` so far: they agree there, what is left of the first is known, and the second is still in the text.
  pub record Alongside (a b size i : ℕ) : Type 0 where
    pub same : alike a b ≡ alike (a + i) (b + i)
    pub left : size ≡ i + length (word_at s (a + i))
    pub within : 0 < i → b + i ≤ length s

  module _ {a b size : ℕ} where
    pub along_none : size ≡ length (word_at s a) → Alongside a b size 0
    along_none is =
        let first : a ≡ a + 0 = omega arith in
        let second : b ≡ b + 0 = omega arith in
        record { same = ap₂ alike first second; left = omega (arith, ap (λ (x : ℕ). length (word_at s x)) first); within = λ low. absurd (omega arith) }

    module _ {i : ℕ} (h : Alongside a b size i) where
      along_word : i < size → is_word_byte (byte_at s (a + i)) ≡ true
      along_word low = still_in (a + i) (omega (arith, h.left))

      pub along_more : i < size → byte_at s (a + i) ≡ byte_at s (b + i) → Alongside a b size (i + 1)
      along_more low same =
          let word = along_word low in
          let first : a + i + 1 ≡ a + (i + 1) = omega arith in
          let second : b + i + 1 ≡ b + (i + 1) = omega arith in
          record {
            same = h.same ∙ alike_step (a + i) (b + i) word same ∙ ap₂ alike first second;
            left = omega (arith, h.left, longer (a + i) word, ap (λ (x : ℕ). length (word_at s x)) first);
            within = λ _. omega (arith, word_byte_within s (b + i) (subst (λ (c : ℕ). is_word_byte c ≡ true) same word));
          }

      pub along_differ : i < size → (byte_at s (a + i) ≡ byte_at s (b + i) → ⊥) → false ≡ alike a b
      along_differ low differ = sym (h.same ∙ alike_differ (a + i) (b + i) (along_word low) differ)

      pub along_end : i ≡ size → not (is_word_byte (byte_at s (b + size))) ≡ alike a b
      along_end all =
          ap (λ (n : ℕ). not (is_word_byte (byte_at s (b + n)))) (sym all)
          ∙ sym (h.same ∙ alike_end (a + i) (b + i) (behind (a + i) (omega (arith, h.left))))

      -- both places are numbers that fit
      pub along_within : i < size → a + i < length s
      along_within low = word_byte_within s (a + i) (along_word low)

      pub along_fits : {most : ℕ} → b < most → length s < most → b + i < most
      along_fits {most} start end = by_order (dec_lt 0 i)
        where
          by_order : Dec (0 < i) → b + i < most
          by_order (yes low) = omega (arith, h.within low)
          by_order (no high) = omega (arith, high)
