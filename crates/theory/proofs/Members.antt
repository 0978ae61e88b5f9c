-- Lists of numbers as sets: counting members (by taking one out), the greatest number that a function has on a list, and rising lists, which
-- are equal if their members are.
use Prim.Native.Nat.{ℕ, suc, ◌≤◌, ◌<◌, zero-le}
use native.Mathlib.Nat.{not-suc-le-zero, max-le, le-max_left, le-max_right}
use native.Mathlib.Decide.{dec_lt}
use native.Mathlib.Omega.{arith}
use mathlib.Core.Path.{◌≡◌, refl, sym, ap, subst, ◌∙◌}
use mathlib.Core.Logic.{◌⊎◌, inl, inr, ⊎_elim}
use mathlib.Core.List.Memᴰ
use mathlib.Core.List.{List, [], ◌∷◌, ◌++◌, map, Memᴰ}
use lib.ListN.{length}
use Rattle.theory.specs.paper.Lists.{Rising, NoRepeats, greatest}

-- Counting

record Without (v : ℕ) (l : List ℕ) : Type 0 where
  rest : List ℕ
  count : length l ≡ suc (length rest)
  keeps : (u : ℕ) → Memᴰ u l → (u ≡ v → ⊥) → Memᴰ u rest

take_out : {v : ℕ} {l : List ℕ} → Memᴰ v l → Without v l
take_out (Memᴰ.head {xs = xs} e) =
    record { rest = xs; count = refl; keeps = λ u m apart. ⊎_elim (λ same. absurd (apart (same ∙ sym e))) (λ later. later) (Memᴰ.cases_cons m) }
take_out {v} (Memᴰ.tail {x = x} {xs = xs} m) = after (take_out m)
  where
    after : Without v xs → Without v (x ∷ xs)
    after w =
        record {
          rest = x ∷ w.rest;
          count = ap suc w.count;
          keeps = λ u m apart. ⊎_elim (λ same. Memᴰ.head same) (λ later. Memᴰ.tail (w.keeps u later apart)) (Memᴰ.cases_cons m);
        }

-- A list without repeats whose members lie in l is no longer than l.
pub no_longer : {vs : List ℕ} (l : List ℕ) → NoRepeats vs → ((v : ℕ) → Memᴰ v vs → Memᴰ v l) → length vs ≤ length l
no_longer l NoRepeats.none lies = zero-le
no_longer {vs} l (NoRepeats.more {v = v} {vs = rest} new apart) lies =
    let w = take_out (lies v (Memᴰ.head refl)) in
    let shorter = no_longer w.rest apart (λ u m. w.keeps u (lies u (Memᴰ.tail m)) (λ e. new (Memᴰ.cast (sym e) m))) in
    omega (arith, w.count)

-- two lists, one after the other without repeats
pub no_repeats_join : {l m : List ℕ} → NoRepeats l → NoRepeats m → ((v : ℕ) → Memᴰ v l → Memᴰ v m → ⊥) → NoRepeats (l ++ m)
no_repeats_join NoRepeats.none there apart = there
no_repeats_join {m = m} (NoRepeats.more {v = v} {vs = vs} new rest) there apart =
    NoRepeats.more
    (λ both. ⊎_elim new (apart v (Memᴰ.head refl)) (Memᴰ.append_cases vs both))
    (no_repeats_join rest there (λ w m. apart w (Memᴰ.tail m)))

pub no_repeats_first : (l m : List ℕ) → NoRepeats (l ++ m) → NoRepeats l
no_repeats_first [] m apart = NoRepeats.none
no_repeats_first (v ∷ l) m (NoRepeats.more new apart) = NoRepeats.more (λ there. new (Memᴰ.append_left m there)) (no_repeats_first l m apart)

pub no_repeats_after : (l : List ℕ) {m : List ℕ} → NoRepeats (l ++ m) → NoRepeats m
no_repeats_after [] apart = apart
no_repeats_after (v ∷ l) (NoRepeats.more new apart) = no_repeats_after l apart

pub no_repeats_apart : {v : ℕ} {l m : List ℕ} → NoRepeats (l ++ m) → Memᴰ v l → Memᴰ v m → ⊥
no_repeats_apart {l = []} apart here there = absurd (Memᴰ.not-nil here)
no_repeats_apart {l = u ∷ l} {m} (NoRepeats.more new apart) here there =
    ⊎_elim (λ e. new (Memᴰ.append_right l (Memᴰ.cast (sym e) there))) (λ late. no_repeats_apart {l = l} {m = m} apart late there) (Memᴰ.cases_cons here)

pub some_member : (l : List ℕ) → 1 ≤ length l → (v : ℕ) × Memᴰ v l
some_member [] some = absurd (not-suc-le-zero some)
some_member (v ∷ l) some = (v, Memᴰ.head refl)

pub member_counts : {v : ℕ} {l : List ℕ} → Memᴰ v l → 1 ≤ length l
member_counts (Memᴰ.head e) = omega arith
member_counts (Memᴰ.tail m) = omega arith

-- The greatest number of a function on a list

pub at_most_greatest : (f : ℕ → ℕ) {v : ℕ} {l : List ℕ} → Memᴰ v l → f v ≤ greatest (map f l)
unfolding greatest
at_most_greatest f (Memᴰ.head {x = x} {xs = xs} e) = omega (arith, ap f e, le-max_left (f x) (greatest (map f xs)))
at_most_greatest f (Memᴰ.tail {x = x} {xs = xs} m) = omega (arith, at_most_greatest f m, le-max_right (f x) (greatest (map f xs)))

pub greatest_at_most : (f : ℕ → ℕ) (l : List ℕ) (e : ℕ) → ((v : ℕ) → Memᴰ v l → f v ≤ e) → greatest (map f l) ≤ e
unfolding greatest
greatest_at_most f [] e each = zero-le
greatest_at_most f (x ∷ l) e each =
    max-le (each x (Memᴰ.head refl)) (greatest_at_most f l e (λ v m. each v (Memᴰ.tail m)))

-- a greatest number that is not 0 stands at a member
pub greatest_stands : (f : ℕ → ℕ) (l : List ℕ) → 1 ≤ greatest (map f l) → (v : ℕ) × Memᴰ v l × (f v ≡ greatest (map f l))
unfolding greatest
greatest_stands f [] some = absurd (not-suc-le-zero some)
greatest_stands f (x ∷ l) some = by_order (dec_lt (f x) (greatest (map f l))) (greatest_stands f l)
  where
    by_order : Dec (f x < greatest (map f l)) → (1 ≤ greatest (map f l) → (v : ℕ) × Memᴰ v l × (f v ≡ greatest (map f l))) →
        (v : ℕ) × Memᴰ v (x ∷ l) × (f v ≡ greatest (map f (x ∷ l)))
    by_order (yes less) below = let r = below (omega arith) in (r.0, Memᴰ.tail r.1, omega (arith, r.2))
    by_order (no more) below = (x, Memᴰ.head refl, omega arith)

-- Rising lists

pub rising_tail : {u : ℕ} {l : List ℕ} → Rising (u ∷ l) → Rising l
rising_tail Rising.one = Rising.none
rising_tail (Rising.more less r) = r

pub rising_above : {u : ℕ} {l : List ℕ} → Rising (u ∷ l) → (v : ℕ) → Memᴰ v l → u < v
rising_above Rising.one v m = absurd (Memᴰ.not-nil m)
rising_above (Rising.more {u = u} {v = w} {vs = vs} less r) v m =
    ⊎_elim (λ (e : v ≡ w). omega arith) (λ (later : Memᴰ v vs). omega (arith, rising_above r v later)) (Memᴰ.cases_cons m)

rising_from : {u : ℕ} {l : List ℕ} → Rising l → ((v : ℕ) → Memᴰ v l → u < v) → Rising (u ∷ l)
rising_from Rising.none above = Rising.one
rising_from Rising.one above = Rising.more (above _ (Memᴰ.head refl)) Rising.one
rising_from (Rising.more less r) above = Rising.more (above _ (Memᴰ.head refl)) (Rising.more less r)

pub rising_no_repeats : {l : List ℕ} → Rising l → NoRepeats l
rising_no_repeats Rising.none = NoRepeats.none
rising_no_repeats Rising.one = NoRepeats.more Memᴰ.not-nil NoRepeats.none
rising_no_repeats (Rising.more {u = u} less r) =
    NoRepeats.more (λ m. let low = rising_above (Rising.more less r) u m in omega arith) (rising_no_repeats r)

-- two rising lists with the same members have the same head, and their tails have the same members again
same_head : {u w : ℕ} {l m : List ℕ} → Rising (u ∷ l) → Rising (w ∷ m) → Memᴰ u (w ∷ m) → Memᴰ w (u ∷ l) → u ≡ w
same_head {u} {w} {l} {m} r s here there = by_place (Memᴰ.cases_cons here) (Memᴰ.cases_cons there)
  where
    by_place : (u ≡ w) ⊎ Memᴰ u m → (w ≡ u) ⊎ Memᴰ w l → u ≡ w
    by_place (inl e) _ = e
    by_place (inr _) (inl e) = sym e
    by_place (inr later) (inr far) = omega (arith, rising_above r w far, rising_above s u later)

tail_lies : {u w : ℕ} {l m : List ℕ} → Rising (u ∷ l) → u ≡ w → ((v : ℕ) → Memᴰ v (u ∷ l) → Memᴰ v (w ∷ m)) →
    (v : ℕ) → Memᴰ v l → Memᴰ v m
tail_lies {u} {w} {m = m} r e lies v here = by_place (Memᴰ.cases_cons (lies v (Memᴰ.tail here)))
  where
    by_place : (v ≡ w) ⊎ Memᴰ v m → Memᴰ v m
    by_place (inl same) = absurd (omega (arith, rising_above r v here))
    by_place (inr later) = later

pub rising_equal : {l m : List ℕ} → Rising l → Rising m → ((v : ℕ) → Memᴰ v l → Memᴰ v m) →
    ((v : ℕ) → Memᴰ v m → Memᴰ v l) → l ≡ m
rising_equal {l = []} {m = []} r s there back = refl
rising_equal {l = []} {m = w ∷ m} r s there back = absurd (Memᴰ.not-nil (back w (Memᴰ.head refl)))
rising_equal {l = u ∷ l} {m = []} r s there back = absurd (Memᴰ.not-nil (there u (Memᴰ.head refl)))
rising_equal {l = u ∷ l} {m = w ∷ m} r s there back =
    let e : u ≡ w = same_head r s (there u (Memᴰ.head refl)) (back w (Memᴰ.head refl)) in
    let es : l ≡ m = rising_equal (rising_tail r) (rising_tail s) (tail_lies r e there) (tail_lies s (sym e) back) in
    cc

-- the members of a list that have a property, as a rising list
pub record Sorted (P : ℕ → Type 0) (l : List ℕ) : Type 0 where
  pub list : List ℕ
  pub rising : Rising list
  pub from : (v : ℕ) → Memᴰ v list → Memᴰ v l
  pub holds : (v : ℕ) → Memᴰ v list → P v
  pub all : (v : ℕ) → Memᴰ v l → P v → Memᴰ v list

record Inserted (u : ℕ) (l : List ℕ) : Type 0 where
  list : List ℕ
  rising : Rising list
  from : (v : ℕ) → Memᴰ v list → (v ≡ u) ⊎ Memᴰ v l
  new : Memᴰ u list
  old : (v : ℕ) → Memᴰ v l → Memᴰ v list

insert : (u : ℕ) (l : List ℕ) → Rising l → Inserted u l
insert u [] r =
    record {
      list = u ∷ [];
      rising = Rising.one;
      from = λ v m. Memᴰ.cases_cons m;
      new = Memᴰ.head refl;
      old = λ v m. Memᴰ.tail m;
    }
insert u (w ∷ l) r = by_order (dec_lt u w) (dec_lt w u) (insert u l (rising_tail r))
  where
    by_order : Dec (u < w) → Dec (w < u) → Inserted u l → Inserted u (w ∷ l)
    by_order (yes low) _ below =
        record {
          list = u ∷ w ∷ l;
          rising = Rising.more low r;
          from = λ v m. Memᴰ.cases_cons m;
          new = Memᴰ.head refl;
          old = λ v m. Memᴰ.tail m;
        }
    by_order (no _) (yes high) below =
        record {
          list = w ∷ below.list;
          rising = rising_from below.rising (λ v m.
              ⊎_elim (λ (e : v ≡ u). omega arith) (λ (late : Memᴰ v l). rising_above r v late) (below.from v m));
          from = λ v m. ⊎_elim (λ (e : v ≡ w). inr (Memᴰ.head e)) (λ (late : Memᴰ v below.list).
              ⊎_elim (λ (e : v ≡ u). inl e) (λ (later : Memᴰ v l). inr (Memᴰ.tail later)) (below.from v late)) (Memᴰ.cases_cons m);
          new = Memᴰ.tail below.new;
          old = λ v m. ⊎_elim (λ (e : v ≡ w). Memᴰ.head e) (λ (late : Memᴰ v l). Memᴰ.tail (below.old v late)) (Memᴰ.cases_cons m);
        }
    by_order (no low) (no high) below =
        record {
          list = w ∷ l;
          rising = r;
          from = λ v m. inr m;
          new = Memᴰ.head {x = w} (omega arith);
          old = λ v m. m;
        }

pub sort : (P : ℕ → Type 0) (l : List ℕ) → ((v : ℕ) → Memᴰ v l → Dec (P v)) → Sorted P l
sort P [] each =
    record {
      list = [];
      rising = Rising.none;
      from = λ v m. m;
      holds = λ v m. absurd (Memᴰ.not-nil m);
      all = λ v m p. m;
    }
sort P (u ∷ l) each = with_head (each u (Memᴰ.head refl)) (sort P l (λ v m. each v (Memᴰ.tail m)))
  where
    with_head : Dec (P u) → Sorted P l → Sorted P (u ∷ l)
    with_head (yes p) below =
        let more : Inserted u below.list = insert u below.list below.rising in
        record {
          list = more.list;
          rising = more.rising;
          from = λ v m.
              ⊎_elim (λ (e : v ≡ u). Memᴰ.head e) (λ (old : Memᴰ v below.list). Memᴰ.tail (below.from v old)) (more.from v m);
          holds = λ v m. ⊎_elim (λ (e : v ≡ u). subst P (sym e) p) (λ (old : Memᴰ v below.list). below.holds v old) (more.from v m);
          all = λ v m q.
              ⊎_elim (λ (e : v ≡ u). Memᴰ.cast e more.new) (λ (late : Memᴰ v l). more.old v (below.all v late q)) (Memᴰ.cases_cons m);
        }
    with_head (no none) below =
        record {
          list = below.list;
          rising = below.rising;
          from = λ v m. Memᴰ.tail (below.from v m);
          holds = below.holds;
          all = λ v m q.
              ⊎_elim (λ (e : v ≡ u). absurd (none (subst P e q))) (λ (late : Memᴰ v l). below.all v late q) (Memᴰ.cases_cons m);
        }
