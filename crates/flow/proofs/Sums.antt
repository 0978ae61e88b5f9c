-- Sums over the numbers below n: compared term by term, changed at one place, and double sums swapped. And the numbers that pass a test, which
-- are as many as the sum of the test says.
use Prim.Native.Nat.{ℕ, zero, suc, ◌+◌, ◌≤◌, ◌<◌}
use native.Mathlib.Nat.{not-suc-le-zero}
use native.Mathlib.Decide.{ℕ_discrete}
use native.Mathlib.Omega.{arith}
use mathlib.Core.Path.{◌≡◌, refl, sym, ap, ap₂, subst, ◌∙◌}
use mathlib.Core.Bool.{Bool, true, false, cond}
use mathlib.Core.Logic.{⊎_elim}
use mathlib.Core.List.{List, [], ◌∷◌, ◌++◌, append-nil, Memᴰ}
use lib.ListN.{length, length-append}
use Rattle.theory.specs.paper.Lists.{Rising}
use Rattle.theory.proofs.Members.{no_longer, rising_no_repeats}
use Rattle.flow.specs.Numbers.{sum, those}

pub sum_same : (f g : ℕ → ℕ) (n : ℕ) → ((v : ℕ) → v < n → f v ≡ g v) → sum f n ≡ sum g n
unfolding sum
sum_same f g zero same = refl
sum_same f g (suc n) same =
    omega (arith, sum_same f g n (λ v low. same v (omega arith)), same n (omega arith))

pub sum_at_most : (f g : ℕ → ℕ) (n : ℕ) → ((v : ℕ) → v < n → f v ≤ g v) → sum f n ≤ sum g n
unfolding sum
sum_at_most f g zero less = omega arith
sum_at_most f g (suc n) less =
    omega (arith, sum_at_most f g n (λ v low. less v (omega arith)), less n (omega arith))

-- where no term is greater and the sum is not less, the terms are equal
pub sum_tight : (f g : ℕ → ℕ) (n : ℕ) → ((v : ℕ) → v < n → f v ≤ g v) → sum g n ≤ sum f n → (v : ℕ) → v < n → f v ≡ g v
unfolding sum
sum_tight f g zero less tight v low = absurd (not-suc-le-zero low)
sum_tight f g (suc n) less tight v low =
    let rest = sum_at_most f g n (λ u below. less u (omega arith)) in
    let last = less n (omega arith) in
    elim (ℕ_discrete v n) [
      | yes e ↦ omega (arith, ap f e, ap g e)
      | no apart ↦ sum_tight f g n (λ u below. less u (omega arith)) (omega arith) v (omega arith)
    ]

pub sum_add : (f g : ℕ → ℕ) (n : ℕ) → sum (λ v. f v + g v) n ≡ sum f n + sum g n
unfolding sum
sum_add f g zero = refl
sum_add f g (suc n) = omega (arith, sum_add f g n)

pub sum_zero : (f : ℕ → ℕ) (n : ℕ) → ((v : ℕ) → v < n → f v ≡ 0) → sum f n ≡ 0
unfolding sum
sum_zero f zero none = refl
sum_zero f (suc n) none = omega (arith, sum_zero f n (λ v low. none v (omega arith)), none n (omega arith))

-- a sum with at most one term
pub sum_pick : (f : ℕ → ℕ) (n i : ℕ) → i < n → ((j : ℕ) → (j ≡ i → ⊥) → f j ≡ 0) → sum f n ≡ f i
unfolding sum
sum_pick f zero i low others = absurd (not-suc-le-zero low)
sum_pick f (suc n) i low others =
    elim (ℕ_discrete i n) [
      | yes e ↦ omega (arith, ap f e, sum_zero f n (λ v below. others v (λ same. omega arith)))
      | no apart ↦ omega (arith, sum_pick f n i (omega arith) others, others n (λ same. apart (sym same)))
    ]

-- one term grew by one
pub sum_more : (f g : ℕ → ℕ) (n i : ℕ) → i < n → g i ≡ suc (f i) → ((j : ℕ) → (j ≡ i → ⊥) → g j ≡ f j) → sum g n ≡ suc (sum f n)
unfolding sum
sum_more f g zero i low more others = absurd (not-suc-le-zero low)
sum_more f g (suc n) i low more others =
    elim (ℕ_discrete i n) [
      | yes e ↦ omega (arith, ap f e, ap g e, sum_same g f n (λ v below. others v (λ same. omega arith)))
      | no apart ↦ omega (arith, sum_more f g n i (omega arith) more others, others n (λ same. apart (sym same)))
    ]

pub sum_swap : (f : ℕ → ℕ → ℕ) (m n : ℕ) → sum (λ v. sum (λ g. f v g) m) n ≡ sum (λ g. sum (λ v. f v g) n) m
unfolding sum
sum_swap f m zero = sym (sum_zero (λ g. 0) m (λ v low. refl))
sum_swap f m (suc n) =
    omega (arith, sum_swap f m n, sum_add (λ g. sum (λ v. f v g) n) (λ g. f n g) m)

-- terms from m on that are 0 do not count
pub sum_front : (f : ℕ → ℕ) (m n : ℕ) → m ≤ n → ((v : ℕ) → m ≤ v → f v ≡ 0) → sum f n ≡ sum f m
unfolding sum
sum_front f zero zero low none = refl
sum_front f (suc m) zero low none = absurd (not-suc-le-zero low)
sum_front f m (suc n) low none =
    elim (ℕ_discrete m (suc n)) [
      | yes e ↦ ap (sum f) (sym e)
      | no apart ↦ omega (arith, sum_front f m n (omega arith) none, none n (omega arith))
    ]

-- The numbers that pass a test

pub those_length : (test : ℕ → Bool) (n : ℕ) → length (those test n) ≡ sum (λ v. cond (test v) 1 0) n
unfolding sum those
those_length test zero = refl
those_length test (suc n) =
    length-append (those test n) (cond (test n) (n ∷ []) []) ∙ ap₂ ◌+◌ (those_length test n) (last (test n))
  where
    last : (b : Bool) → length (cond b (n ∷ []) []) ≡ cond b 1 0
    last true = refl
    last false = refl

those_here : (test : ℕ → Bool) {v : ℕ} (n : ℕ) → Memᴰ v (cond (test n) (n ∷ []) []) → (v ≡ n) × (test v ≡ true)
those_here test {v} n m = by_test (test n) refl m
  where
    by_test : (b : Bool) → test n ≡ b → Memᴰ v (cond b (n ∷ []) []) → (v ≡ n) × (test v ≡ true)
    by_test true e here = let same = mathlib.Core.List.Memᴰ.eq_of_singleton here in (same, ap test same ∙ e)
    by_test false e here = absurd (mathlib.Core.List.Memᴰ.not-nil here)

pub those_hold : (test : ℕ → Bool) {v : ℕ} (n : ℕ) → Memᴰ v (those test n) → (v < n) × (test v ≡ true)
unfolding those
those_hold test zero m = absurd (mathlib.Core.List.Memᴰ.not-nil m)
those_hold test {v} (suc n) m =
    ⊎_elim (λ (early : Memᴰ v (those test n)). let h = those_hold test n early in (omega (arith, h.0), h.1))
    (λ (late : Memᴰ v (cond (test n) (n ∷ []) [])). let h = those_here test n late in (omega (arith, h.0), h.1))
    (mathlib.Core.List.Memᴰ.append_cases (those test n) m)

pub those_all : (test : ℕ → Bool) (v n : ℕ) → v < n → test v ≡ true → Memᴰ v (those test n)
unfolding those
those_all test v zero low e = absurd (not-suc-le-zero low)
those_all test v (suc n) low e =
    elim (ℕ_discrete v n) [
      | yes same ↦ mathlib.Core.List.Memᴰ.append_right (those test n)
          (subst (λ (b : Bool). Memᴰ v (cond b (n ∷ []) [])) (sym (ap test (sym same) ∙ e)) (mathlib.Core.List.Memᴰ.head same))
      | no apart ↦ mathlib.Core.List.Memᴰ.append_left (cond (test n) (n ∷ []) []) (those_all test v n (omega arith) e)
    ]

-- one more at the end of a rising list
rising_more : (n : ℕ) {l : List ℕ} → Rising l → ((v : ℕ) → Memᴰ v l → v < n) → Rising (l ++ (n ∷ []))
rising_more n Rising.none less = Rising.one
rising_more n (Rising.one {v = v}) less = Rising.more (less v (mathlib.Core.List.Memᴰ.head refl)) Rising.one
rising_more n (Rising.more less r) below = Rising.more less (rising_more n r (λ w m. below w (mathlib.Core.List.Memᴰ.tail m)))

pub those_rising : (test : ℕ → Bool) (n : ℕ) → Rising (those test n)
unfolding those
those_rising test zero = Rising.none
those_rising test (suc n) = by_test (test n) (those_rising test n)
  where
    by_test : (b : Bool) → Rising (those test n) → Rising (those test n ++ cond b (n ∷ []) [])
    by_test true r = rising_more n r (λ v m. (those_hold test n m).0)
    by_test false r = subst Rising (sym (append-nil (those test n))) r

-- those among the members of l are no more than l is long
pub those_in : (test : ℕ → Bool) (n : ℕ) (l : List ℕ) → ((v : ℕ) → test v ≡ true → Memᴰ v l) → sum (λ v. cond (test v) 1 0) n ≤ length l
those_in test n l lies =
    omega (arith, those_length test n, no_longer l (rising_no_repeats (those_rising test n)) (λ v m. lies v (those_hold test n m).1))

-- one number more
pub those_yes : (test : ℕ → Bool) (i : ℕ) → test i ≡ true → those test (suc i) ≡ those test i ++ (i ∷ [])
unfolding those
those_yes test i e = ap (λ (b : Bool). those test i ++ cond b (i ∷ []) []) e

pub those_no : (test : ℕ → Bool) (i : ℕ) → test i ≡ false → those test (suc i) ≡ those test i
unfolding those
those_no test i e = ap (λ (b : Bool). those test i ++ cond b (i ∷ []) []) e ∙ append-nil (those test i)

pub those_grow : (test : ℕ → Bool) (i n : ℕ) → i ≤ n → length (those test i) ≤ length (those test n)
unfolding those
those_grow test zero n low = omega arith
those_grow test (suc i) zero low = absurd (not-suc-le-zero low)
those_grow test (suc i) (suc n) low =
    elim (ℕ_discrete i n) [
      | yes e ↦ omega (arith, ap (λ (m : ℕ). length (those test (suc m))) e)
      | no apart ↦
          omega (arith, those_grow test (suc i) n (omega arith), length-append (those test n) (cond (test n) (n ∷ []) []))
    ]
