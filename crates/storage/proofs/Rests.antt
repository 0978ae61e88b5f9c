-- The rest of an array from a place on is lent as a part, and comes back: as it was, after stores, or cleared.
use Prim.Native.Nat.{ℕ, ◌+◌, ◌-◌, ◌≤◌}
use native.Mathlib.Omega.{arith}
use mathlib.Core.Path.{◌≡◌, sym, ap, ◌∙◌}
use mathlib.Core.List.{List, [], ◌++◌, append_assoc, append-nil}
use lib.ListN.{length, set, take, drop, length-drop, take-append-drop, drop_of_length-le}
use lib.Seq.{sets, sets-eq, drop-drop, take-set-le, drop-set-add}
use borrow.Author.Rules.{part_to_end}
use Rattle.storage.specs.Entries.{cleared}

-- what is lent of l from place a on
abbrev pub rest_of : List ℕ → ℕ → List ℕ
rest_of l a = take (length l - a) (drop a l)

abbrev pub with_rest : List ℕ → ℕ → List ℕ → List ℕ
with_rest l a part = take a l ++ (part ++ drop (length l - a) (drop a l))

module _ (l : List ℕ) (a : ℕ) where
  pub rest_length : length (rest_of l a) ≡ length l - a
  rest_length = ap length (part_to_end l a) ∙ length-drop a l

  -- nothing lies behind it
  rest_laid : (part : List ℕ) → with_rest l a part ≡ take a l ++ part
  rest_laid part =
      let none : drop (length l - a) (drop a l) ≡ [] = drop_of_length-le (drop a l) {i = length l - a} (omega (arith, length-drop a l)) in
      ap (λ (r : List ℕ). take a l ++ r) (ap (λ (r : List ℕ). part ++ r) none ∙ append-nil part)

  pub rest_kept : {part : List ℕ} → part ≡ rest_of l a → with_rest l a part ≡ l
  rest_kept {part} e = rest_laid part ∙ ap (λ (r : List ℕ). take a l ++ r) (e ∙ part_to_end l a) ∙ take-append-drop a l

  pub rest_set : (i x : ℕ) → with_rest l a (set (rest_of l a) i x) ≡ set l (a + i) x
  rest_set i x =
      rest_laid (set (rest_of l a) i x)
      ∙ ap (λ (r : List ℕ). take a l ++ set r i x) (part_to_end l a)
      ∙ ap (λ (r : List ℕ). r ++ set (drop a l) i x) (sym (take-set-le a l (a + i) x (omega arith)))
      ∙ ap (λ (r : List ℕ). take a (set l (a + i) x) ++ r) (sym (drop-set-add a l i x))
      ∙ take-append-drop a (set l (a + i) x)

  pub rest_stored : (vs : List ℕ) {part : List ℕ} → a + length vs ≤ length l → part ≡ sets (rest_of l a) 0 vs → with_rest l a part ≡ sets l a vs
  rest_stored vs {part} fits e =
      let sum : a + (0 + length vs) ≡ a + length vs = omega arith in
      rest_laid part
      ∙ ap (λ (r : List ℕ). take a l ++ r)
      (e ∙ ap (λ (r : List ℕ). sets r 0 vs) (part_to_end l a) ∙ sets-eq vs (drop a l) 0 (omega (arith, length-drop a l)))
      ∙ ap (λ (r : List ℕ). take a l ++ (vs ++ r)) (drop-drop (0 + length vs) a l ∙ ap (λ (m : ℕ). drop m l) sum)
      ∙ sym (append_assoc (take a l) vs (drop (a + length vs) l))
      ∙ sym (sets-eq vs l a fits)

  pub rest_cleared : (m : ℕ) {part : List ℕ} → part ≡ cleared m (rest_of l a) → with_rest l a part ≡ take a l ++ cleared m (drop a l)
  rest_cleared m {part} e = rest_laid part ∙ ap (λ (r : List ℕ). take a l ++ r) (e ∙ ap (cleared m) (part_to_end l a))
