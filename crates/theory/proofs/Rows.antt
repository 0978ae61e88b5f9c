-- Rows and tables as numbers: a row is the number whose bits are the values, a table the number whose bits are the results. A number is
-- known by its bits, and all of it goes one bit at a time: the lowest bit, then the number halved.
use Prim.Native.Nat.{ℕ, zero, suc, ◌+◌, ◌*◌, ◌/◌, ◌%◌, ◌^◌, ◌<◌}
use native.Mathlib.Nat.{pow-suc, pow-succ', div-one, eq-or-lt_of_le, le_of_suc-le-suc, add-zero}
use native.Mathlib.Numerals.{add-one, one-add}
use native.Mathlib.Omega.{arith}
use mathlib.Core.Path.{◌≡◌, refl, sym, ap, ap₂, ◌∙◌}
use mathlib.Core.Logic.{⊎_elim}
use mathlib.Core.Bool.{Bool, true, false}
use mathlib.Core.List.{List, [], ◌∷◌, map}
use lib.ListN.{length, get_or}
use lib.Dec.{eqb}
use lib.Arith.{digits_lt}
use lib.Pow.{high, shr_lt, shr-shr}
use lib.Bits.{block_half, block_odd}
use borrow.Author.Tests.{eqb-true, eqb-false}
use Rattle.theory.specs.paper.Values.{bit, row_of, result_at}

-- One bit

pub bit_below : (b : Bool) → bit b < 2
bit_below true = omega arith
bit_below false = omega arith

pub bit_injective : (a b : Bool) → bit a ≡ bit b → a ≡ b
bit_injective true true e = refl
bit_injective true false e = absurd (omega arith)
bit_injective false true e = absurd (omega arith)
bit_injective false false e = refl

-- a digit below 2 is the bit that the test for 1 gives
bit_of_test : (d : ℕ) → d < 2 → bit (eqb d 1) ≡ d
bit_of_test d small = go (eqb d 1) refl
  where
    go : (b : Bool) → eqb d 1 ≡ b → bit b ≡ d
    go true e = sym (eqb-true d 1 e)
    go false e = let other = eqb-false d 1 e in omega arith

-- the bit that `result_at` tests, as a number
pub bit_of_result : (table row : ℕ) → bit (result_at table row) ≡ table / 2 ^ row % 2
unfolding result_at
bit_of_result table row = bit_of_test (table / 2 ^ row % 2) (omega arith)

-- A table shifted

pub result_lowest : (table : ℕ) → bit (result_at table 0) ≡ table % 2
result_lowest table = bit_of_result table 0 ∙ ap (λ (n : ℕ). n % 2) (div-one table)

pub result_shifted : (table by row : ℕ) → result_at (table / 2 ^ by) row ≡ result_at table (by + row)
unfolding result_at
result_shifted table by row = ap (λ (n : ℕ). eqb (n % 2) 1) (shr-shr table by row)

pub result_halved : (table row : ℕ) → result_at (table / 2) row ≡ result_at table (suc row)
result_halved table row = result_shifted table 1 row ∙ ap (result_at table) (one-add row)

-- of two tables side by side: the rows of the low one, then those of the high one
pub result_of_low : (above rows below row : ℕ) → row < rows → result_at (above * 2 ^ rows + below) row ≡ result_at below row
result_of_low above zero below row h = absurd (omega arith)
result_of_low above (suc rows) below zero h =
    bit_injective _ _ (result_lowest (above * 2 ^ suc rows + below) ∙ block_odd above rows below ∙ sym (result_lowest below))
result_of_low above (suc rows) below (suc row) h =
    sym (result_halved (above * 2 ^ suc rows + below) row) ∙ ap (λ (n : ℕ). result_at n row) (block_half above rows below)
    ∙ result_of_low above rows (below / 2) row (omega arith) ∙ result_halved below row

pub result_of_high : (above rows below row : ℕ) → below < 2 ^ rows → result_at (above * 2 ^ rows + below) (rows + row) ≡ result_at above row
result_of_high above rows below row h = sym (result_shifted _ rows row) ∙ ap (λ (n : ℕ). result_at n row) (high above rows h)

-- A table is known by its results

half_below : (n k : ℕ) → n < 2 ^ suc k → n / 2 < 2 ^ k
half_below n k h = shr_lt k 1 (rw add-one h)

pub tables_agree : (rows a b : ℕ) → a < 2 ^ rows → b < 2 ^ rows → ((row : ℕ) → row < rows → result_at a row ≡ result_at b row) → a ≡ b
tables_agree zero a b ha hb same = omega arith
tables_agree (suc rows) a b ha hb same =
    let halves = tables_agree rows (a / 2) (b / 2) (half_below a rows ha) (half_below b rows hb) later in
    let lowest : a % 2 ≡ b % 2 = sym (result_lowest a) ∙ ap bit (same 0 (omega arith)) ∙ result_lowest b in
    omega arith
  where
    later : (row : ℕ) → row < rows → result_at (a / 2) row ≡ result_at (b / 2) row
    later row h = result_halved a row ∙ same (suc row) (omega arith) ∙ sym (result_halved b row)

-- Rows

pub row_below : (bs : List Bool) → row_of bs < 2 ^ length bs
unfolding row_of
row_below [] = omega arith
row_below (b ∷ bs) = rw pow-suc (omega (arith, row_below bs, bit_below b))

pub rows_agree : (bs cs : List Bool) → length bs ≡ length cs → row_of bs ≡ row_of cs → bs ≡ cs
unfolding row_of
rows_agree [] [] long same = refl
rows_agree [] (c ∷ cs) long same = absurd (omega arith)
rows_agree (b ∷ bs) [] long same = absurd (omega arith)
rows_agree (b ∷ bs) (c ∷ cs) long same =
    let small = bit_below b in
    let small' = bit_below c in
    ap₂ {C = List Bool} ◌∷◌ (bit_injective b c (omega arith)) (rows_agree bs cs (omega arith) (omega arith))

-- the values of row r, for m of them
unfoldable pub bits_of : ℕ → ℕ → List Bool
bits_of zero r = []
bits_of (suc m) r = result_at r 0 ∷ bits_of m (r / 2)

pub length_bits_of : (m r : ℕ) → length (bits_of m r) ≡ m
unfolding bits_of
length_bits_of zero r = refl
length_bits_of (suc m) r = ap suc (length_bits_of m (r / 2))

pub row_of_bits : (m r : ℕ) → r < 2 ^ m → row_of (bits_of m r) ≡ r
unfolding bits_of row_of
row_of_bits zero r h = omega arith
row_of_bits (suc m) r h = omega (arith, row_of_bits m (r / 2) (half_below r m h), result_lowest r)

pub bits_of_row : (bs : List Bool) → bits_of (length bs) (row_of bs) ≡ bs
bits_of_row bs = rows_agree _ bs (length_bits_of (length bs) (row_of bs)) (row_of_bits (length bs) (row_of bs) (row_below bs))

-- the values of some nodes, if the i-th node has bit i of the row
pub bits_at_nodes : (x : ℕ → Bool) (vs : List ℕ) (r : ℕ) →
    ((i : ℕ) → i < length vs → x (get_or vs i 0) ≡ result_at r i) → map x vs ≡ bits_of (length vs) r
unfolding bits_of
bits_at_nodes x [] r at = refl
bits_at_nodes x (v ∷ vs) r at = ap₂ {C = List Bool} ◌∷◌ (at 0 (omega arith)) (bits_at_nodes x vs (r / 2) later)
  where
    later : (i : ℕ) → i < length vs → x (get_or vs i 0) ≡ result_at (r / 2) i
    later i h = at (suc i) (omega arith) ∙ sym (result_halved r i)

-- A table made of its results

unfoldable pub table_of : ℕ → (ℕ → Bool) → ℕ
table_of zero f = 0
table_of (suc rows) f = bit (f rows) * 2 ^ rows + table_of rows f

pub table_below : (rows : ℕ) (f : ℕ → Bool) → table_of rows f < 2 ^ rows
unfolding table_of
table_below zero f = omega arith
table_below (suc rows) f = rw pow-succ' (digits_lt (bit_below (f rows)) (table_below rows f))

result_of_bit : (b : Bool) → result_at (bit b) 0 ≡ b
unfolding result_at
result_of_bit true = refl
result_of_bit false = refl

pub result_of_table : (rows : ℕ) (f : ℕ → Bool) (row : ℕ) → row < rows → result_at (table_of rows f) row ≡ f row
unfolding table_of
result_of_table zero f row h = absurd (omega arith)
result_of_table (suc rows) f row h =
    ⊎_elim last (λ l. result_of_low (bit (f rows)) rows (table_of rows f) row l ∙ result_of_table rows f row l) (eq-or-lt_of_le (le_of_suc-le-suc h))
  where
    last : row ≡ rows → result_at (bit (f rows) * 2 ^ rows + table_of rows f) row ≡ f row
    last e =
        ap (result_at _) (e ∙ sym (add-zero rows)) ∙ result_of_high (bit (f rows)) rows (table_of rows f) 0 (table_below rows f)
        ∙ result_of_bit (f rows) ∙ ap f (sym e)
