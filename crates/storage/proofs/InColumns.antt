-- Columns: a store in one column is a store there, and leaves the others as they were; and columns with what lies behind them are the whole.
use Prim.Native.Nat.{ℕ, zero, suc, min, ◌+◌, ◌*◌, ◌-◌, ◌≤◌, ◌<◌}
use native.Mathlib.Nat.{mul-le-mul_right}
use native.Mathlib.Decide.{dec_lt}
use native.Mathlib.Omega.{arith}
use mathlib.Core.Path.{◌≡◌, refl, ap, sym, ◌∙◌}
use mathlib.Core.List.{List, [], ◌∷◌, ◌++◌}
use lib.ListN.{length, get_or, set, take, drop, replicate, length-take, length-drop, length-replicate, get_or-replicate, take-append-drop}
use lib.Seq.{sets, get_or-take, get_or-drop, take-set-lt, take-set-le, drop-set-lt, drop-set-add, drop-drop, ext_get_or}
use Rattle.storage.specs.Columns.{column}

module _ (n c : ℕ) (l : List ℕ) where
  pub column_size : c * n + n ≤ length l → length (column n c l) ≡ n
  unfolding column
  column_size long = simp (length-take, length-drop) (omega arith)

  pub column_at : (v : ℕ) → v < n → get_or (column n c l) v 0 ≡ get_or l (c * n + v) 0
  unfolding column
  column_at v low = get_or-take n (drop (c * n) l) v 0 low ∙ get_or-drop (c * n) l v 0

  pub column_set : (v x : ℕ) → v < n → column n c (set l (c * n + v) x) ≡ set (column n c l) v x
  unfolding column
  column_set v x low = ap (take n) (drop-set-add (c * n) l v x) ∙ take-set-lt n (drop (c * n) l) v x low

-- a store outside a column: before its start, or behind its end
pub column_apart : (n c : ℕ) (l : List ℕ) (i x : ℕ) → i < c * n → column n c (set l i x) ≡ column n c l
unfolding column
column_apart n c l i x low = ap (take n) (drop-set-lt (c * n) l i x low)

pub column_before : (n c : ℕ) (l : List ℕ) (i x : ℕ) → c * n + n ≤ i → column n c (set l i x) ≡ column n c l
unfolding column
column_before n c l i x high =
    ap (λ (j : ℕ). take n (drop (c * n) (set l j x))) (sym (back))
    ∙ ap (take n) (drop-set-add (c * n) l (i - c * n) x)
    ∙ take-set-le n (drop (c * n) l) (i - c * n) x (omega arith)
  where
    back : c * n + (i - c * n) ≡ i
    back = omega arith

-- a column ends where the next one begins
pub before_next : (n : ℕ) {c d : ℕ} → c < d → c * n + n ≤ d * n
before_next n {c} {d} less = omega (arith, mul-le-mul_right {m = suc c} {n = d} n less)

-- a store in another column
pub column_other : (n c d : ℕ) (l : List ℕ) (v x : ℕ) → v < n → (d ≡ c → ⊥) → column n d (set l (c * n + v) x) ≡ column n d l
column_other n c d l v x low apart = by_side (dec_lt d c)
  where
    by_side : Dec (d < c) → column n d (set l (c * n + v) x) ≡ column n d l
    by_side (yes less) = column_before n d l (c * n + v) x (omega (arith, before_next n less))
    by_side (no high) = let more : c < d = omega arith in column_apart n d l (c * n + v) x (omega (arith, before_next n more))

-- runs of stores behind a column
pub column_sets : (n c : ℕ) (l : List ℕ) (i : ℕ) (xs : List ℕ) → c * n + n ≤ i → column n c (sets l i xs) ≡ column n c l
column_sets n c l i [] high = refl
column_sets n c l i (x ∷ xs) high = column_sets n c (set l i x) (suc i) xs (omega arith) ∙ column_before n c l i x high

-- Columns that hold the same, or zeros

pub column_same : (n c : ℕ) (l m : List ℕ) → length m ≡ length l → ((v : ℕ) → v < n → get_or m (c * n + v) 0 ≡ get_or l (c * n + v) 0) → column n c m ≡ column n c l
unfolding column
column_same n c l m size same =
    ext_get_or 0 (column n c m) (column n c l) (simp (length-take, length-drop) (ap (λ (k : ℕ). min n (k - c * n)) size))
    (λ v inside.
    let low : v < n = omega (arith, length-take n (drop (c * n) m)) in
    column_at n c m v low ∙ same v low ∙ sym (column_at n c l v low))

pub column_zeros : (n c : ℕ) (l : List ℕ) → c * n + n ≤ length l → ((v : ℕ) → v < n → get_or l (c * n + v) 0 ≡ 0) → column n c l ≡ replicate n 0
column_zeros n c l long zeros =
    let size = column_size n c l long in
    ext_get_or 0 (column n c l) (replicate n 0) (size ∙ sym (length-replicate n 0))
    (λ v inside. let low : v < n = omega (arith, size) in column_at n c l v low ∙ zeros v low ∙ sym (get_or-replicate n v 0 0 low))

-- lists with the same columns and the same behind them are the same
pub columns_whole : (n m : ℕ) (l k : List ℕ) → ((c : ℕ) → c < m → column n c l ≡ column n c k) → drop (m * n) l ≡ drop (m * n) k → l ≡ k
unfolding column
columns_whole n zero l k columns beyond = let none : 0 ≡ 0 * n = omega arith in ap (λ (i : ℕ). drop i l) none ∙ beyond ∙ ap (λ (i : ℕ). drop i k) (sym none)
columns_whole n (suc m) l k columns beyond =
    columns_whole n m l k (λ c low. columns c (omega arith))
    (sym (split l) ∙ ap (λ (x : List ℕ). x ++ drop (suc m * n) l) (columns m (omega arith)) ∙ ap (λ (x : List ℕ). column n m k ++ x) beyond ∙ split k)
  where
    split : (x : List ℕ) → column n m x ++ drop (suc m * n) x ≡ drop (m * n) x
    split x =
        let next : suc m * n ≡ m * n + n = omega arith in
        ap (λ (i : ℕ). column n m x ++ drop i x) next ∙ ap (λ (y : List ℕ). column n m x ++ y) (sym (drop-drop n (m * n) x)) ∙ take-append-drop n (drop (m * n) x)
