-- What comparing a word with `in` and with `out` tells.
use Prim.Native.Nat.{ℕ}
use mathlib.Core.Path.{◌≡◌, refl, sym, ap, ◌∙◌}
use mathlib.Core.Bool.{Bool, true, false, ◌&&◌}
use mathlib.Core.List.{List, [], ◌∷◌}
use lib.Dec.{eqb}
use Rattle.std.specs.Cmp.Lexicographic.{pointwise}
use Rattle.grammar.specs.paper.Text.{word_in, word_out, same_word}
use Rattle.grammar.specs.Machine.{is_keyword}

same_bytes : (w v : List ℕ) → pointwise eqb w v ≡ same_word w v
unfolding same_word
same_bytes [] [] = refl
same_bytes [] (c ∷ cs) = refl
same_bytes (b ∷ bs) [] = refl
same_bytes (b ∷ bs) (c ∷ cs) = ap (λ (t : Bool). eqb b c && t) (same_bytes bs cs)

pub told_in : (w : List ℕ) {t : Bool} → t ≡ pointwise eqb w word_in → t ≡ true → t ≡ is_keyword w
unfolding is_keyword
told_in w told is_in = is_in ∙ rw (sym (same_bytes w word_in), sym told, is_in)

pub told_out : (w : List ℕ) {t u : Bool} → t ≡ pointwise eqb w word_in → t ≡ false → u ≡ pointwise eqb w word_out → u ≡ is_keyword w
unfolding is_keyword
told_out w told not_in told_too = told_too ∙ rw (sym (same_bytes w word_in), sym told, not_in, same_bytes w word_out)
