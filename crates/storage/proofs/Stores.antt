-- Stores one after the other are a run of stores: what a run leaves, entry by entry; and stores as updates of functions.
use Prim.Native.Nat.{ℕ, zero, suc, ◌+◌, ◌≤◌, ◌<◌}
use mathlib.Core.Path.{◌≡◌, refl, ap, sym, subst, ◌∙◌}
use mathlib.Core.Logic.{◌⊎◌, ⊎_elim}
use mathlib.Core.List.{List, [], ◌∷◌, ◌++◌, append_assoc}
use native.Mathlib.Nat.{add-zero, suc-add, add-suc, le_of_suc-le-suc, not-suc-le-zero}
use native.Mathlib.Numerals.{add-one}
use native.Mathlib.Omega.{arith}
use lib.ListN.{length, get_or, set, take, drop, length-set}
use lib.Seq.{sets, sets-eq, set_comm, take_at, drop_at, length-take-le, get_or-set_same, get_or-set_other}
use Rattle.storage.specs.Entries.{at, Upd}

-- a run of stores behind another
pub sets_append : (l : List ℕ) (i : ℕ) (xs ys : List ℕ) → sets (sets l i xs) (i + length xs) ys ≡ sets l i (xs ++ ys)
sets_append l i [] ys = ap (λ (j : ℕ). sets l j ys) (add-zero i)
sets_append l i (x ∷ xs) ys =
    ap (λ (j : ℕ). sets (sets (set l i x) (suc i) xs) j ys) (add-suc i (length xs) ∙ sym (suc-add i (length xs)))
    ∙ sets_append (set l i x) (suc i) xs ys

pub sets_more : (l : List ℕ) (i : ℕ) (vs : List ℕ) (v : ℕ) → set (sets l i vs) (i + length vs) v ≡ sets l i (vs ++ (v ∷ []))
sets_more l i vs v = sets_append l i vs (v ∷ [])

-- A run of stores, entry by entry

pub stored_beside : (l : List ℕ) (i : ℕ) (vs : List ℕ) (at : ℕ) → (at < i) ⊎ (i + length vs ≤ at) → get_or (sets l i vs) at 0 ≡ get_or l at 0
stored_beside l i [] at h = refl
stored_beside l i (v ∷ vs) at h =
    stored_beside (set l i v) (suc i) vs at
    (⊎_elim (λ (b : at < i). ◌⊎◌.inl (omega arith)) (λ (b : i + suc (length vs) ≤ at). ◌⊎◌.inr (omega arith)) h)
    ∙ get_or-set_other l i at v 0 (⊎_elim (λ (b : at < i). omega arith) (λ (b : i + suc (length vs) ≤ at). omega arith) h)

pub stored_at : (l : List ℕ) (i : ℕ) (vs : List ℕ) (j : ℕ) → j < length vs → i + length vs ≤ length l → get_or (sets l i vs) (i + j) 0 ≡ get_or vs j 0
stored_at l i [] j h fits = absurd (not-suc-le-zero h)
stored_at l i (v ∷ vs) zero h fits =
    ap (λ (p : ℕ). get_or (sets (set l i v) (suc i) vs) p 0) (add-zero i)
    ∙ stored_beside (set l i v) (suc i) vs i (◌⊎◌.inl (omega arith))
    ∙ get_or-set_same l i v 0 (omega arith)
stored_at l i (v ∷ vs) (suc j) h fits =
    ap (λ (p : ℕ). get_or (sets (set l i v) (suc i) vs) p 0) (omega arith)
    ∙ stored_at (set l i v) (suc i) vs j (le_of_suc-le-suc h) (simp length-set (omega arith))

-- a run of stores stands where it was stored
pub stored_run : (l : List ℕ) (i : ℕ) (vs : List ℕ) → i + length vs ≤ length l → take (length vs) (drop i (sets l i vs)) ≡ vs
stored_run l i vs fits =
    ap (λ (m : List ℕ). take (length vs) (drop i m)) (sets-eq vs l i fits ∙ append_assoc (take i l) vs (drop (i + length vs) l))
    ∙ ap (take (length vs)) (drop_at (take i l) (vs ++ drop (i + length vs) l) i (length-take-le i l (omega arith)))
    ∙ take_at vs (drop (i + length vs) l) (length vs) refl

-- A store before a run

-- a store before a run of stores is one before or after it
pub set_sets : (l : List ℕ) (i x j : ℕ) (vs : List ℕ) → i < j → set (sets l j vs) i x ≡ sets (set l i x) j vs
set_sets l i x j [] less = refl
set_sets l i x j (v ∷ vs) less =
    set_sets (set l j v) i x (suc j) vs (omega arith)
    ∙ ap (λ (m : List ℕ). sets m (suc j) vs) (set_comm l j i v x (λ e. omega arith))

-- ids from place a + 1 on, and then a number at a
pub sets_headed : (l : List ℕ) (a : ℕ) (vs : List ℕ) {x : ℕ} → x ≡ length vs →
    set (sets l (a + 1) vs) a x ≡ sets l a (length vs ∷ vs)
sets_headed l a vs {x} e =
    ap (λ (y : ℕ). set (sets l (a + 1) vs) a y) e
    ∙ ap (λ (j : ℕ). set (sets l j vs) a (length vs)) (add-one a)
    ∙ set_sets l a (length vs) (suc a) vs (omega arith)

-- Stores of functions

-- a store of a list is a store of its function
pub set_upd : (l : List ℕ) (v x : ℕ) → v < length l → Upd (at l) v x (at (set l v x))
set_upd l v x low = record { here = get_or-set_same l v x 0 low; there = λ j apart. get_or-set_other l v j x 0 apart }

-- a store after another leaves what it stored, and was stored into what the other left
pub upd_then : {f : ℕ → ℕ} {v x : ℕ} {l m : List ℕ} → Upd f v x (at l) → m ≡ l → Upd f v x (at m)
upd_then {f} {v} {x} u e = subst (λ (k : List ℕ). Upd f v x (at k)) (sym e) u

pub upd_after : {g : ℕ → ℕ} {v x : ℕ} {l m : List ℕ} → m ≡ l → Upd (at m) v x g → Upd (at l) v x g
upd_after {g} {v} {x} e u = subst (λ (k : List ℕ). Upd (at k) v x g) e u
