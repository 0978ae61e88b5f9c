-- Signs are no blanks, letters or digits, and what may stand behind a factor, a term or an expression is none of the signs that would go on.
use Prim.Native.Nat.{ℕ}
use native.Mathlib.Omega.{arith}
use mathlib.Core.Path.{◌≡◌, refl, sym, ap, ◌∙◌}
use mathlib.Core.Logic.{◌⊎◌, inl, inr}
use mathlib.Core.Bool.{Bool, true, false, false≢true}
use Rattle.grammar.specs.paper.Text.{bang, star, plus, opening, closing, semicolon, is_blank, is_letter, is_digit, is_word_byte}

-- What stands behind an expression, a term and a factor

abbrev pub BehindExpression : ℕ → Type 0
BehindExpression b = (b ≡ closing) ⊎ (b ≡ semicolon)

abbrev pub BehindTerm : ℕ → Type 0
BehindTerm b = (b ≡ plus) ⊎ BehindExpression b

abbrev pub BehindFactor : ℕ → Type 0
BehindFactor b = (b ≡ star) ⊎ BehindTerm b

-- a test that gives t at the four bytes gives t at what stands behind a factor
behind_factor : (f : ℕ → Bool) (t : Bool) → f star ≡ t → f plus ≡ t → f closing ≡ t → f semicolon ≡ t → {b : ℕ} → BehindFactor b → f b ≡ t
behind_factor f t at-star at-plus at-closing at-semicolon (inl e) = ap f e ∙ at-star
behind_factor f t at-star at-plus at-closing at-semicolon (inr (inl e)) = ap f e ∙ at-plus
behind_factor f t at-star at-plus at-closing at-semicolon (inr (inr (inl e))) = ap f e ∙ at-closing
behind_factor f t at-star at-plus at-closing at-semicolon (inr (inr (inr e))) = ap f e ∙ at-semicolon

pub behind_no_blank : {b : ℕ} → BehindFactor b → is_blank b ≡ false
unfolding is_blank
behind_no_blank after = behind_factor is_blank false refl refl refl refl after

pub behind_no_word : {b : ℕ} → BehindFactor b → is_word_byte b ≡ false
unfolding is_word_byte is_letter is_digit
behind_no_word after = behind_factor is_word_byte false refl refl refl refl after

pub term_goes_on : {b : ℕ} → BehindTerm b → b ≡ star → ⊥
term_goes_on (inl e) here = let z : ◌≡◌ {A = ℕ} 42 43 = sym here ∙ e in absurd (omega arith)
term_goes_on (inr (inl e)) here = let z : ◌≡◌ {A = ℕ} 42 41 = sym here ∙ e in absurd (omega arith)
term_goes_on (inr (inr e)) here = let z : ◌≡◌ {A = ℕ} 42 59 = sym here ∙ e in absurd (omega arith)

pub expression_goes_on : {b : ℕ} → BehindExpression b → b ≡ plus → ⊥
expression_goes_on (inl e) here = let z : ◌≡◌ {A = ℕ} 43 41 = sym here ∙ e in absurd (omega arith)
expression_goes_on (inr e) here = let z : ◌≡◌ {A = ℕ} 43 59 = sym here ∙ e in absurd (omega arith)

-- the three ways in which a factor begins are apart
pub bang_no_opening : {b : ℕ} → b ≡ bang → b ≡ opening → ⊥
bang_no_opening e here = let z : ◌≡◌ {A = ℕ} 40 33 = sym here ∙ e in absurd (omega arith)

pub bang_no_letter : {b : ℕ} → b ≡ bang → is_letter b ≡ true → ⊥
unfolding is_letter
bang_no_letter e letter = false≢true (sym (ap is_letter e) ∙ letter)

pub opening_no_letter : {b : ℕ} → b ≡ opening → is_letter b ≡ true → ⊥
unfolding is_letter
opening_no_letter e letter = false≢true (sym (ap is_letter e) ∙ letter)

pub semicolon_no_letter : {b : ℕ} → b ≡ semicolon → is_letter b ≡ true → ⊥
unfolding is_letter
semicolon_no_letter e letter = false≢true (sym (ap is_letter e) ∙ letter)

pub bang_no_blank : {b : ℕ} → b ≡ bang → is_blank b ≡ false
unfolding is_blank
bang_no_blank e = ap is_blank e

pub opening_no_blank : {b : ℕ} → b ≡ opening → is_blank b ≡ false
unfolding is_blank
opening_no_blank e = ap is_blank e

pub equals_no_blank : {b : ℕ} → b ≡ 61 → is_blank b ≡ false
unfolding is_blank
equals_no_blank e = ap is_blank e

pub equals_no_word : {b : ℕ} → b ≡ 61 → is_word_byte b ≡ false
unfolding is_word_byte is_letter is_digit
equals_no_word e = ap is_word_byte e
