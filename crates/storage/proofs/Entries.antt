-- Members of lists and of their first entries by their places; lists without repeats; the test of a member.
use Prim.Native.Nat.{ℕ, zero, suc, min, ◌+◌, ◌-◌, ◌≤◌, ◌<◌, zero-le, suc-le-suc}
use native.Mathlib.Nat.{le_of_suc-le-suc, not-suc-le-zero}
use native.Mathlib.Numerals.{add-one}
use native.Mathlib.Omega.{arith}
use mathlib.Core.Path.{◌≡◌, refl, ap, sym, subst, ◌∙◌}
use mathlib.Core.Bool.{Bool, true, false, false≢true}
use mathlib.Mathlib.Data.Bool.Basic.{eq-false_of_not-eq-true}
use mathlib.Core.Logic.{◌⊎◌, inl, inr, ⊎_elim}
use mathlib.Core.List.Memᴰ
use mathlib.Core.List.{List, [], ◌∷◌, ◌++◌, Memᴰ}
use lib.ListN.{length, get_or, take, drop, length-take, length-drop}
use lib.Seq.{get_or-take, get_or-drop, take-suc}
use Rattle.theory.specs.paper.Lists.{NoRepeats}
use Rattle.theory.specs.Members.{is_member}
use Rattle.theory.proofs.Tests.{decides_member}
use Rattle.storage.specs.Lists.{Place}

-- Members by their places

pub member_at : (l : List ℕ) (i : ℕ) → i < length l → Memᴰ (get_or l i 0) l
member_at [] i h = absurd (not-suc-le-zero h)
member_at (x ∷ l) zero h = Memᴰ.head refl
member_at (x ∷ l) (suc i) h = Memᴰ.tail (member_at l i (le_of_suc-le-suc h))

-- where a member stands
pub place_of : {v : ℕ} {l : List ℕ} → Memᴰ v l → Place v l
place_of (Memᴰ.head e) = record { at = zero; inside = suc-le-suc zero-le; entry = sym e }
place_of {v} (Memᴰ.tail {x = x} {xs = xs} m) = later (place_of m)
  where
    later : Place v xs → Place v (x ∷ xs)
    later p = record { at = suc p.at; inside = suc-le-suc p.inside; entry = p.entry }

pub member_of_part : (n : ℕ) (l : List ℕ) (i : ℕ) → i < n → i < length l → Memᴰ (get_or l i 0) (take n l)
member_of_part n l i low inside =
    subst (λ (v : ℕ). Memᴰ v (take n l)) (get_or-take n l i 0 low) (member_at (take n l) i (simp length-take (omega arith)))

-- where a member of the first n entries stands
pub record PartPlace (v n : ℕ) (l : List ℕ) : Type 0 where
  pub at : ℕ
  pub low : at < n
  pub inside : at < length l
  pub entry : get_or l at 0 ≡ v

pub part_place : {v : ℕ} (n : ℕ) (l : List ℕ) → Memᴰ v (take n l) → PartPlace v n l
part_place {v} n l m =
    let p = place_of m in
    let size : length (take n l) ≡ min n (length l) = length-take n l in
    let low : p.at < n = omega (arith, p.inside) in
    record { at = p.at; low = low; inside = omega (arith, p.inside); entry = sym (get_or-take n l p.at 0 low) ∙ p.entry }

-- what is left of two lists agrees, so their entries do
pub drop_agrees : (n : ℕ) (l m : List ℕ) → drop n l ≡ drop n m → (v : ℕ) → n ≤ v → get_or l v 0 ≡ get_or m v 0
drop_agrees n l m same v far =
    let e : n + (v - n) ≡ v = omega arith in
    ap (λ (w : ℕ). get_or l w 0) (sym e) ∙ sym (get_or-drop n l (v - n) 0) ∙ ap (λ (x : List ℕ). get_or x (v - n) 0) same ∙ get_or-drop n m (v - n) 0
    ∙ ap (λ (w : ℕ). get_or m w 0) e

-- One more entry

pub member_more : {u v : ℕ} {l : List ℕ} → Memᴰ u (l ++ (v ∷ [])) → Memᴰ u l ⊎ (u ≡ v)
member_more {u} {v} {l} m = ⊎_elim (λ old. inl old) (λ (new : Memᴰ u (v ∷ [])). inr (Memᴰ.eq_of_singleton new)) (Memᴰ.append_cases l m)

pub member_last : (v : ℕ) (l : List ℕ) → Memᴰ v (l ++ (v ∷ []))
member_last v l = Memᴰ.append_right l (Memᴰ.head refl)

pub no_repeats_more : {v : ℕ} {l : List ℕ} → NoRepeats l → (Memᴰ v l → ⊥) → NoRepeats (l ++ (v ∷ []))
no_repeats_more NoRepeats.none new = NoRepeats.more Memᴰ.not-nil NoRepeats.none
no_repeats_more {v} (NoRepeats.more {v = u} {vs = vs} apart rest) new =
    NoRepeats.more
    (λ m. ⊎_elim apart (λ (e : u ≡ v). new (Memᴰ.head (sym e))) (member_more m))
    (no_repeats_more rest (λ m. new (Memᴰ.tail m)))

-- no entry stands at two places
pub one_place : {l : List ℕ} → NoRepeats l → (i j : ℕ) → i < length l → j < length l → get_or l i 0 ≡ get_or l j 0 → i ≡ j
one_place NoRepeats.none i j p q e = absurd (not-suc-le-zero p)
one_place (NoRepeats.more apart rest) zero zero p q e = refl
one_place (NoRepeats.more {vs = vs} apart rest) zero (suc j) p q e = absurd (apart (Memᴰ.cast e (member_at vs j (le_of_suc-le-suc q))))
one_place (NoRepeats.more {vs = vs} apart rest) (suc i) zero p q e = absurd (apart (Memᴰ.cast (sym e) (member_at vs i (le_of_suc-le-suc p))))
one_place (NoRepeats.more apart rest) (suc i) (suc j) p q e = ap suc (one_place rest i j (le_of_suc-le-suc p) (le_of_suc-le-suc q) e)

-- A part of a list, from a place on, that has one entry more: its members are those of before, and that entry

pub take_more : (s : List ℕ) (at i : ℕ) → at + i < length s → take (i + 1) (drop at s) ≡ take i (drop at s) ++ (get_or s (at + i) 0 ∷ [])
take_more s at i h =
    let inside : i < length (drop at s) = simp length-drop (omega arith) in
    rw (add-one, take-suc (drop at s) i 0, get_or-drop)

module _ (l : List ℕ) (i : ℕ) (low : i < length l) where
  pub next_taken : take (i + 1) l ≡ take i l ++ (get_or l i 0 ∷ [])
  next_taken = rw add-one (take-suc l i 0 low)

  pub part_old : {v : ℕ} → Memᴰ v (take i l) → Memᴰ v (take (i + 1) l)
  part_old {v} m = subst (Memᴰ v) (sym next_taken) (Memᴰ.append_left (get_or l i 0 ∷ []) m)

  pub part_new : {v : ℕ} → v ≡ get_or l i 0 → Memᴰ v (take (i + 1) l)
  part_new {v} e = subst (Memᴰ v) (sym next_taken) (Memᴰ.append_right (take i l) (Memᴰ.head e))

  pub part_cases : {v : ℕ} → Memᴰ v (take (i + 1) l) → Memᴰ v (take i l) ⊎ (v ≡ get_or l i 0)
  part_cases {v} m = member_more (subst (Memᴰ v) next_taken m)

-- The test of a member

pub false_not_true : {b : Bool} → b ≡ false → b ≡ true → ⊥
false_not_true {b} p q = let e : false ≡ true = sym p ∙ q in false≢true e

pub is_member_lem : {v : ℕ} {l : List ℕ} → Memᴰ v l → is_member v l ≡ true
is_member_lem {v} {l} = (decides_member v l).passes

pub no_member : {v : ℕ} {l : List ℕ} → (Memᴰ v l → ⊥) → is_member v l ≡ false
no_member {v} {l} none = eq-false_of_not-eq-true (λ e. none ((decides_member v l).holds e))
