-- The ids of a cut: one of them, whether they rise, and the range rules of leaves.
use Prim.Native.Nat.{ℕ, zero, suc, ◌+◌, ◌*◌, ◌-◌, ◌<◌, ◌≤◌}
use native.Mathlib.Nat.{zero-mul, one-mul, suc-mul, add-mul}
use native.Mathlib.Omega.{arith}
use mathlib.Core.Path.{◌≡◌, ap, sym, ◌∙◌}
use mathlib.Core.Bool.{Bool, true, false, not}
use mathlib.Core.List.{List, ◌∷◌}
use borrow.Author.Tests.{lt-ltb, le-ltb}
use lib.ListN.{length, get_or, get_or-eq_default}
use Rattle.drawing.specs.paper.Bytes.{number_at, ids_at, some_from}
use Rattle.drawing.specs.Bytes.{SmallAt}
use Rattle.drawing.proofs.Ids.{length_ids, ids_none, ids_step}
use Rattle.sheet.specs.paper.Shape.{Due, rising, leaves_range, leaves_at}

module _ (s : List ℕ) where
  -- one id of a list, and none behind it
  pub id_at : (at width count i : ℕ) → i < count → get_or (ids_at s at width count) i 0 ≡ number_at s (at + i * width) width
  id_at at width zero i inside = absurd (omega (arith, inside))
  id_at at width (suc count) zero inside = let z : at ≡ at + 0 * width = omega (arith, zero-mul width) in ap (λ (n : ℕ). number_at s n width) z
  id_at at width (suc count) (suc i) inside =
      let z : at + width + i * width ≡ at + suc i * width = omega (arith, suc-mul i width) in
      id_at (at + width) width count i (omega (arith, inside)) ∙ ap (λ (n : ℕ). number_at s n width) z

  pub id_past : (at width count i : ℕ) → count ≤ i → get_or (ids_at s at width count) i 0 ≡ 0
  id_past at width count i past = get_or-eq_default (ids_at s at width count) 0 (omega (arith, length_ids s at width count, past))

  module _ (before at width left : ℕ) where
    pub rise_none : left ≤ 0 → rising (before ∷ ids_at s at width left) ≡ true
    unfolding rising
    rise_none none = ap (λ (vs : List ℕ). rising (before ∷ vs)) (ids_none s at width left none)

    module _ {id : ℕ} (some : 0 < left) (read : SmallAt s at width id) where
      as_read : ids_at s at width left ≡ id ∷ ids_at s (at + width) width (left - 1)
      as_read = ids_step s at width left some ∙ ap (λ (v : ℕ). v ∷ ids_at s (at + width) width (left - 1)) (sym read.number)

      pub rise_stop : id ≤ before → rising (before ∷ ids_at s at width left) ≡ false
      unfolding rising
      rise_stop low = ap (λ (vs : List ℕ). rising (before ∷ vs)) as_read ∙ rw (le-ltb before id low)

      next_left : before < id → rising (before ∷ ids_at s at width left) ≡ rising (id ∷ ids_at s (at + width) width (left - 1))
      unfolding rising
      next_left less = ap (λ (vs : List ℕ). rising (before ∷ vs)) as_read ∙ rw (lt-ltb before id less)

  -- the i-th of `count` ids is above the one before
  module _ (before at width count i : ℕ) {id : ℕ} (some : i < count) (read : SmallAt s (at + i * width) width id) where
    pub rise_next : before < id → rising (before ∷ ids_at s (at + i * width) width (count - i)) ≡ rising (id ∷ ids_at s (at + (i + 1) * width) width (count - (i + 1)))
    rise_next less =
        let next : at + i * width + width ≡ at + (i + 1) * width = omega (arith, add-mul i 1 width, one-mul width) in
        let fewer : count - i - 1 ≡ count - (i + 1) = omega arith in
        next_left before (at + i * width) width (count - i) (omega arith) read less
        ∙ ap (λ (place : ℕ). rising (id ∷ ids_at s place width (count - i - 1))) next
        ∙ ap (λ (left : ℕ). rising (id ∷ ids_at s (at + (i + 1) * width) width left)) fewer

-- the range rules of leaves, one after the other
module _ (due : Due) (s : List ℕ) (at : ℕ) {count : ℕ} (counted : SmallAt s at 1 count) where
  many : length (leaves_at due s at) ≡ count
  many = length_ids s (at + 1) due.form.width (number_at s at 1) ∙ sym counted.number

  same : leaves_at due s at ≡ ids_at s (at + 1) due.form.width count
  same = ap (ids_at s (at + 1) due.form.width) (sym counted.number)

  pub leaves_few : count < 1 → false ≡ not (leaves_range due (leaves_at due s at))
  leaves_few few = rw (lt-ltb (length (leaves_at due s at)) 1 (omega (arith, many)))

  pub leaves_many : 1 ≤ count → due.k < count → false ≡ not (leaves_range due (leaves_at due s at))
  leaves_many some more =
      rw (le-ltb (length (leaves_at due s at)) 1 (omega (arith, many)), lt-ltb due.k (length (leaves_at due s at)) (omega (arith, many)))

  module _ (some : 1 ≤ count) (few : count ≤ due.k) {rises : Bool} (told : rises ≡ rising (ids_at s (at + 1) due.form.width count)) where
    pub leaves_told : rises ≡ true → {below : Bool} → below ≡ not (some_from due.nodes (ids_at s (at + 1) due.form.width count)) →
        below ≡ not (leaves_range due (leaves_at due s at))
    leaves_told rise below =
        rw (
          le-ltb (length (leaves_at due s at)) 1 (omega (arith, many)),
          le-ltb due.k (length (leaves_at due s at)) (omega (arith, many)),
          ap rising same ∙ sym told ∙ rise,
        )
        (below ∙ ap (λ (vs : List ℕ). not (some_from due.nodes vs)) (sym same))
