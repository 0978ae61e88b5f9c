-- Tests that tell whether something holds, and marks of a property: marks of one property agree, and one more mark is of a wider one.
use Prim.Native.Nat.{ℕ, ◌<◌, zero-le}
use native.Mathlib.Decide.{ℕ_discrete}
use mathlib.Core.Path.{◌≡◌, refl, sym, subst, ◌∙◌}
use mathlib.Core.Bool.{Bool, true, false, true≢false, false≢true}
use mathlib.Core.Logic.{◌⊎◌, inl, inr, ⊎_elim}
use mathlib.Core.List.{List, Memᴰ}
use mathlib.Core.List.Memᴰ
use lib.ListN.{length, get_or, set}
use lib.Seq.{get_or-set_same, get_or-set_other}
use lib.Dec.{eqb}
use borrow.Author.Tests.{eqb-true, eq-eqb}
use Rattle.std.specs.List.{IsAnyAnswer}
use Rattle.storage.specs.Marks.{Tells, Marks}
use Rattle.storage.proofs.Entries.{member_at, place_of}

-- Tests

pub tells_yes : {P : Type 0} → P → Tells P true
tells_yes p = record { yes = λ _. p; no = λ e _. true≢false e }

pub tells_no : {P : Type 0} → (P → ⊥) → Tells P false
tells_no none = record { yes = λ e. absurd (false≢true e); no = λ _. none }

pub tells_one : {P : Type 0} (a b : Bool) → Tells P a → Tells P b → a ≡ b
tells_one true true p q = refl
tells_one false false p q = refl
tells_one true false p q = absurd (q.no refl (p.yes refl))
tells_one false true p q = absurd (p.no refl (q.yes refl))

-- what `contains` answers
pub member_told : {v : ℕ} (l : List ℕ) (r : Bool) → IsAnyAnswer (λ u b. eqb u v ≡ b) l r → Tells (Memᴰ v l) r
member_told l true (i, low, here) = tells_yes (Memᴰ.cast (sym (eqb-true _ _ (here 0))) (member_at l i low))
member_told {v} l false none =
    tells_no (λ m. let p = place_of m in true≢false (sym (eq-eqb _ v p.entry) ∙ none p.at 0 zero-le p.inside))

-- Marks

-- marks of one property
pub marks_inside : {P : ℕ → Type 0} {nodes : ℕ} {a b : List ℕ} → Marks nodes P a → Marks nodes P b → (i : ℕ) → i < nodes → get_or a i 0 ≡ get_or b i 0
marks_inside {a = a} {b = b} m n i low = inside (m.bit i low) (n.bit i low)
  where
    inside : (get_or a i 0 ≡ 0) ⊎ (get_or a i 0 ≡ 1) → (get_or b i 0 ≡ 0) ⊎ (get_or b i 0 ≡ 1) → get_or a i 0 ≡ get_or b i 0
    inside (inl p) (inl q) = p ∙ sym q
    inside (inr p) q = p ∙ sym (n.marked i low (m.holds i low p))
    inside (inl p) (inr q) = m.marked i low (n.holds i low q) ∙ sym q

-- marks of a property that holds of the same nodes
pub marks_same : {nodes : ℕ} {P Q : ℕ → Type 0} {l : List ℕ} → ((v : ℕ) → v < nodes → P v → Q v) → ((v : ℕ) → v < nodes → Q v → P v) →
    Marks nodes P l → Marks nodes Q l
marks_same there back marks =
    record { bit = marks.bit; holds = λ v low e. there v low (marks.holds v low e); marked = λ v low q. marks.marked v low (back v low q) }

-- one more mark
module _ {nodes : ℕ} {P : ℕ → Type 0} {marks : List ℕ} (m : Marks nodes P marks) where
  pub marks_more : {Q : ℕ → Type 0} (v : ℕ) → v < length marks → ((u : ℕ) → P u → Q u) → Q v → ((u : ℕ) → Q u → P u ⊎ (u ≡ v)) →
      Marks nodes Q (set marks v 1)
  marks_more {Q} v room wider here only =
      record { bit = λ u low. bit u low (ℕ_discrete u v); holds = λ u low. holds u low (ℕ_discrete u v); marked = λ u low. marked u low (ℕ_discrete u v) }
    where
      same : {u : ℕ} → u ≡ v → get_or (set marks v 1) u 0 ≡ 1
      same {u} e = rw e (get_or-set_same marks v 1 0 room)

      other : {u : ℕ} → (u ≡ v → ⊥) → get_or (set marks v 1) u 0 ≡ get_or marks u 0
      other {u} apart = get_or-set_other marks v u 1 0 apart

      bit : (u : ℕ) → u < nodes → Dec (u ≡ v) → (get_or (set marks v 1) u 0 ≡ 0) ⊎ (get_or (set marks v 1) u 0 ≡ 1)
      bit u low (yes e) = inr (same e)
      bit u low (no apart) = rw (other apart) (m.bit u low)

      holds : (u : ℕ) → u < nodes → Dec (u ≡ v) → get_or (set marks v 1) u 0 ≡ 1 → Q u
      holds u low (yes e) one = subst Q (sym e) here
      holds u low (no apart) one = wider u (m.holds u low (sym (other apart) ∙ one))

      marked : (u : ℕ) → u < nodes → Dec (u ≡ v) → Q u → get_or (set marks v 1) u 0 ≡ 1
      marked u low (yes e) q = same e
      marked u low (no apart) q = other apart ∙ ⊎_elim (m.marked u low) (λ (e : u ≡ v). absurd (apart e)) (only u q)
