-- Entries that were filled or cleared: what they hold, and what lies beyond. Whoever clears what another has used leaves it as if never used.
use Prim.Native.Nat.{ℕ, ◌+◌, ◌-◌, ◌≤◌, ◌<◌}
use native.Mathlib.Decide.{dec_lt}
use native.Mathlib.Omega.{arith}
use mathlib.Core.Path.{◌≡◌, refl, ap, sym, ◌∙◌}
use mathlib.Core.List.{List, ◌++◌}
use lib.ListN.{length, get_or, take, drop, replicate, length-drop, length-append, length-replicate, get_or-replicate, get_or-append}
use lib.Seq.{get_or-append-add, get_or-take, get_or-drop, length-take-le, drop-append-add, drop-drop, ext_get_or}
use Rattle.storage.specs.Entries.{cleared, Beyond}
use Rattle.storage.proofs.Entries.{drop_agrees}

-- the first n entries of l are a
abbrev pub filled : (n a : ℕ) → List ℕ → List ℕ
filled n a l = replicate n a ++ drop n l

module _ (n a : ℕ) (l : List ℕ) (long : n ≤ length l) where
  pub filled_size : length (filled n a l) ≡ length l
  filled_size = simp (length-append, length-replicate, length-drop) (omega arith)

  pub filled_low : (i : ℕ) → i < n → get_or (filled n a l) i 0 ≡ a
  filled_low i low = get_or-append (replicate n a) (drop n l) 0 i (omega (arith, length-replicate n a)) ∙ get_or-replicate n i a 0 low

  pub filled_high : (i : ℕ) → n ≤ i → get_or (filled n a l) i 0 ≡ get_or l i 0
  filled_high i high =
      let whole : i ≡ length (replicate n a) + (i - n) = omega (arith, length-replicate n a) in
      let back : n + (i - n) ≡ i = omega arith in
      ap (λ (x : ℕ). get_or (filled n a l) x 0) whole
      ∙ get_or-append-add (replicate n a) (drop n l) (i - n) 0
      ∙ get_or-drop n l (i - n) 0
      ∙ ap (λ (x : ℕ). get_or l x 0) back

  pub filled_beyond : (m : ℕ) → n ≤ m → drop m (filled n a l) ≡ drop m l
  filled_beyond m high =
      let whole : m ≡ length (replicate n a) + (m - n) = omega (arith, length-replicate n a) in
      let back : n + (m - n) ≡ m = omega arith in
      ap (λ (x : ℕ). drop x (filled n a l)) whole
      ∙ drop-append-add (replicate n a) (drop n l) (m - n)
      ∙ drop-drop (m - n) n l
      ∙ ap (λ (x : ℕ). drop x l) back

-- lists of one length that agree from n on
pub drop_same : (n : ℕ) (l m : List ℕ) → length l ≡ length m → ((v : ℕ) → n ≤ v → get_or l v 0 ≡ get_or m v 0) → drop n l ≡ drop n m
drop_same n l m size same =
    ext_get_or 0 (drop n l) (drop n m) (simp length-drop (omega arith))
    (λ i low. get_or-drop n l i 0 ∙ same (n + i) (omega arith) ∙ sym (get_or-drop n m i 0))

-- Clears: zeros are a fill

module _ (n : ℕ) (l : List ℕ) (long : n ≤ length l) where
  pub cleared_size : length (cleared n l) ≡ length l
  cleared_size = filled_size n 0 l long

  pub cleared_low : (i : ℕ) → i < n → get_or (cleared n l) i 0 ≡ 0
  cleared_low = filled_low n 0 l long

  pub cleared_high : (i : ℕ) → n ≤ i → get_or (cleared n l) i 0 ≡ get_or l i 0
  cleared_high = filled_high n 0 l long

  pub cleared_beyond : Beyond n l (cleared n l)
  cleared_beyond = record { size = cleared_size; beyond = filled_beyond n 0 l long n (omega arith) }

-- clearing what was used in its first n entries only
pub cleared_used : (n : ℕ) {l m : List ℕ} → Beyond n l m → cleared n m ≡ cleared n l
cleared_used n {l} {m} used = ap (λ (x : List ℕ). replicate n 0 ++ x) used.beyond

-- a clear of m entries from place s on
module _ (l : List ℕ) (s m : ℕ) (fits : s + m ≤ length l) where
  front : length (take s l) ≡ s
  front = length-take-le s l (omega arith)

  back : m ≤ length (drop s l)
  back = omega (arith, length-drop s l)

  pub gap_size : length (take s l ++ cleared m (drop s l)) ≡ length l
  gap_size = omega (arith, length-append (take s l) (cleared m (drop s l)), front, cleared_size m (drop s l) back, length-drop s l)

  pub gap_low : (i : ℕ) → i < s → get_or (take s l ++ cleared m (drop s l)) i 0 ≡ get_or l i 0
  gap_low i low = get_or-append (take s l) (cleared m (drop s l)) 0 i (omega (arith, front)) ∙ get_or-take s l i 0 low

  behind : (i : ℕ) → s ≤ i → get_or (take s l ++ cleared m (drop s l)) i 0 ≡ get_or (cleared m (drop s l)) (i - s) 0
  behind i high =
      let place : i ≡ length (take s l) + (i - s) = omega (arith, front) in
      ap (λ (j : ℕ). get_or (take s l ++ cleared m (drop s l)) j 0) place ∙ get_or-append-add (take s l) (cleared m (drop s l)) (i - s) 0

  pub gap_in : (i : ℕ) → s ≤ i → i < s + m → get_or (take s l ++ cleared m (drop s l)) i 0 ≡ 0
  gap_in i high low = behind i high ∙ cleared_low m (drop s l) back (i - s) (omega arith)

  pub gap_high : (i : ℕ) → s + m ≤ i → get_or (take s l ++ cleared m (drop s l)) i 0 ≡ get_or l i 0
  gap_high i high =
      let place : s + (i - s) ≡ i = omega arith in
      behind i (omega arith) ∙ cleared_high m (drop s l) back (i - s) (omega arith) ∙ get_or-drop s l (i - s) 0 ∙ ap (λ (j : ℕ). get_or l j 0) place

-- "All else as before": of itself, and one use after another

pub beyond_same : (n : ℕ) (l : List ℕ) → Beyond n l l
beyond_same n l = record { size = refl; beyond = refl }

pub beyond_then : {n : ℕ} {l m o : List ℕ} → Beyond n l m → Beyond n m o → Beyond n l o
beyond_then a b = record { size = b.size ∙ a.size; beyond = b.beyond ∙ a.beyond }

pub beyond_entry : {n : ℕ} {l m : List ℕ} → Beyond n l m → (v : ℕ) → n ≤ v → get_or m v 0 ≡ get_or l v 0
beyond_entry {n} {l} {m} b v far = drop_agrees n m l b.beyond v far

pub beyond_wider : {n m : ℕ} {l l' : List ℕ} → n ≤ m → Beyond n l l' → Beyond m l l'
beyond_wider {n} {m} {l} {l'} wide used =
    let e : n + (m - n) ≡ m = omega arith in
    record {
      size = used.size;
      beyond =
          ap (λ (i : ℕ). drop i l') (sym e)
          ∙ sym (drop-drop (m - n) n l')
          ∙ ap (drop (m - n)) used.beyond
          ∙ drop-drop (m - n) n l
          ∙ ap (λ (i : ℕ). drop i l) e;
    }

-- lists that agree in their first n entries, and are as before beyond them
pub agree : {n : ℕ} {l a b : List ℕ} → Beyond n l a → Beyond n l b → ((v : ℕ) → v < n → get_or a v 0 ≡ get_or b v 0) → a ≡ b
agree {n} {a = a} {b = b} p q inside = ext_get_or 0 a b (p.size ∙ sym q.size) (λ v _. either v (dec_lt v n))
  where
    either : (v : ℕ) → Dec (v < n) → get_or a v 0 ≡ get_or b v 0
    either v (yes low) = inside v low
    either v (no high) = let far : n ≤ v = omega arith in beyond_entry p v far ∙ sym (beyond_entry q v far)
