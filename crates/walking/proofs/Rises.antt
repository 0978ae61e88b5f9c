-- Rising lists: a list rises if each entry is below the next, and only then.
use Prim.Native.Nat.{ℕ, zero, suc, ◌<◌, zero-le, suc-le-suc}
use native.Mathlib.Nat.{le_of_suc-le-suc, not-suc-le-zero}
use mathlib.Core.Bool.{Bool, true, false, true≢false}
use mathlib.Core.Path.{◌≡◌, sym, ◌∙◌}
use mathlib.Core.List.{List, [], ◌∷◌}
use lib.ListN.{length, get_or}
use lib.Dec.{ltb}
use borrow.Author.Tests.{lt-ltb, ltb-true}
use native.Mathlib.Numerals.{add-one}
use Rattle.std.specs.List.{IsAllAdjacentAnswer}
use Rattle.storage.specs.Marks.{Tells}
use Rattle.storage.proofs.InMarks.{tells_yes, tells_no}
use Rattle.theory.specs.paper.Lists.{Rising}

pub rises_all : (l : List ℕ) → ((i : ℕ) → suc i < length l → get_or l i 0 < get_or l (suc i) 0) → Rising l
rises_all [] each = Rising.none
rises_all (u ∷ []) each = Rising.one
rises_all (u ∷ v ∷ l) each = Rising.more (each 0 (suc-le-suc (suc-le-suc zero-le))) (rises_all (v ∷ l) (λ i low. each (suc i) (suc-le-suc low)))

pub rises_at : {l : List ℕ} → Rising l → (i : ℕ) → suc i < length l → get_or l i 0 < get_or l (suc i) 0
rises_at Rising.none i low = absurd (not-suc-le-zero low)
rises_at Rising.one i low = absurd (not-suc-le-zero (le_of_suc-le-suc low))
rises_at (Rising.more less r) zero low = less
rises_at (Rising.more less r) (suc i) low = rises_at r i (le_of_suc-le-suc low)

-- what `is_sorted_by` answers
pub rising_told : (l : List ℕ) (r : Bool) → IsAllAdjacentAnswer (λ x y b. b ≡ ltb x y) l r → Tells (Rising l) r
rising_told l true each =
    tells_yes (rises_all l (λ i low. rw add-one at (ltb-true _ _ (sym (each i 0 (rw add-one low))))))
rising_told l false (i, low, falls) =
    tells_no (λ r. absurd (true≢false (sym (lt-ltb _ _ (rises_at r i (rw add-one at low))) ∙ sym (rw add-one at (falls 0)))))
