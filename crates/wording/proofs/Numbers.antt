-- Digits grow by one at the end, and a number has no more digits than its bound says.
use Prim.Native.Nat.{ℕ, zero, suc, ◌+◌, ◌/◌, ◌%◌, ◌^◌, ◌<◌, ◌≤◌}
use mathlib.Core.Path.{◌≡◌, refl, ap, sym, ◌∙◌}
use mathlib.Core.Bool.{Bool, true, false}
use mathlib.Core.List.{List, [], ◌∷◌, ◌++◌}
use native.Mathlib.Nat.{pow-suc, mod-lt}
use native.Mathlib.Numerals.{add-one}
use native.Mathlib.Omega.{arith}
use borrow.Author.Tests.{lt-ltb, le-ltb, ltb-true, ltb-false}
use lib.Dec.{ltb}
use lib.ListN.{length, set, length-append}
use lib.Seq.{sets}
use Rattle.wording.specs.paper.Text.{digit, digits, places_within, places, decimal, hex16}
use Rattle.wording.proofs.Puts.{sets_before}

pub digits_size : (base count n : ℕ) → length (digits base count n) ≡ count
unfolding digits
digits_size base zero n = refl
digits_size base (suc count) n =
    length-append (digits base count (n / base)) (digit (n % base) ∷ [])
    ∙ ap (λ (m : ℕ). m + 1) (digits_size base count (n / base))
    ∙ add-one count

-- the last digit is put first
pub digits_turn :
    (t : List ℕ) (at base i rest : ℕ) {b : ℕ} → b ≡ digit (rest % base) →
    sets (set t (at + i) b) at (digits base i (rest / base)) ≡ sets t at (digits base (suc i) rest)
unfolding digits
digits_turn t at base i rest {b} e =
    ap (λ (j : ℕ). sets (set t (at + j) b) at (digits base i (rest / base))) (sym (digits_size base i (rest / base)))
    ∙ sets_before t at (digits base i (rest / base)) b
    ∙ ap (λ (d : ℕ). sets t at (digits base i (rest / base) ++ (d ∷ []))) e

pub remainder_small : (n base : ℕ) → 0 < base → base ≤ 16 → n % base < 16
remainder_small n base some few = omega (arith, mod-lt n some)

-- enough divisions are enough
within_enough : (a b n : ℕ) → n ≤ a → n ≤ b → places_within a (ltb n 10) n ≡ places_within b (ltb n 10) n
unfolding places_within
within_enough zero zero n p q = refl
within_enough zero (suc b) n p q = rw (lt-ltb n 10 (omega arith))
within_enough (suc a) zero n p q = rw (lt-ltb n 10 (omega arith))
within_enough (suc a) (suc b) n p q = by_test (ltb n 10) refl (λ large. within_enough a b (n / 10) (omega arith) (omega arith))
  where
    by_test :
        (small : Bool) → ltb n 10 ≡ small → (10 ≤ n → places_within a (ltb (n / 10) 10) (n / 10) ≡ places_within b (ltb (n / 10) 10) (n / 10)) →
        places_within (suc a) (ltb n 10) n ≡ places_within (suc b) (ltb n 10) n
    by_test true e tenth = rw e
    by_test false e tenth = rw e (ap (λ (m : ℕ). 1 + m) (tenth (ltb-false n 10 e)))

pub places_small : (n : ℕ) → n < 10 → places n ≡ 1
unfolding places places_within
places_small zero h = refl
places_small (suc n) h = rw (lt-ltb (suc n) 10 h)

pub places_large : (n : ℕ) → 10 ≤ n → places n ≡ 1 + places (n / 10)
unfolding places places_within
places_large zero h = absurd (omega arith)
places_large (suc n) h = rw (le-ltb (suc n) 10 h) (ap (λ (m : ℕ). 1 + m) (within_enough n (suc n / 10) (suc n / 10) (omega arith) (omega arith)))

-- a number below ten to the k has at most k digits
pub places_most : (k n : ℕ) → n < 10 ^ suc k → places n ≤ suc k
places_most zero n h = omega (arith, places_small n (omega arith))
places_most (suc k) n h = by_test (ltb n 10) refl (places_most k (n / 10) (omega (arith, pow-suc 10 (suc k))))
  where
    by_test : (small : Bool) → ltb n 10 ≡ small → places (n / 10) ≤ suc k → places n ≤ suc (suc k)
    by_test true e tenth = omega (arith, places_small n (ltb-true n 10 e))
    by_test false e tenth = omega (arith, places_large n (ltb-false n 10 e))

pub decimal_size : (n : ℕ) → length (decimal n) ≡ places n
unfolding decimal
decimal_size n = digits_size 10 (places n) n

pub hex16_size : (n : ℕ) → length (hex16 n) ≡ 16
unfolding hex16
hex16_size n = digits_size 16 16 n
