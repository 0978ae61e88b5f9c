-- A field's ruling from what is told of it, and from its frame's and its value's.
use Rattle.std.specs.Prelude.{Ok, Err}
use Prim.Native.Nat.{ℕ, ◌-◌, ◌≤◌}
use native.Mathlib.Omega.{arith}
use mathlib.Core.Path.{◌≡◌, refl, sym, ◌∙◌}
use mathlib.Core.Bool.{Bool, true, false, not}
use mathlib.Core.List.{List, ◌∷◌}
use borrow.Author.Tests.{ltb-false, not-true, not-false}
use lib.ListN.{length}
use lib.Dec.{ltb, eqb}
use Rattle.drawing.specs.paper.Limits.{frame_size}
use Rattle.drawing.specs.paper.Rules.{◌⇒◌, first}
use Rattle.drawing.specs.paper.Bytes.{tag_at, length_at, value_at}
use Rattle.sheet.specs.declared.Fault.{Fault}
use Rattle.sheet.specs.declared.Fault.TheVariants.{Torn, Tag, Length, Range}
use Rattle.sheet.specs.paper.Shape.{Ruling}
use Rattle.sheet.specs.paper.Shape.{field_rules, end_at}
use Rattle.shaping.specs.Fields.{value_rules}

pub not_sound : {f : Fault} → ◌≡◌ {A = Ruling} (Err f) (Ok tt) → ⊥
not_sound e = let z : ◌≡◌ {A = ℕ} 0 1 = cc in omega arith

-- the five rules of a field at `at`: the first three do not look at the others
module _ (at : ℕ) where
  abbrev five : (x y z a b : Bool) → Ruling
  five x y z a b =
      first (Ok tt) ((x ⇒ Err (Torn at)) ∷ (y ⇒ Err (Tag at)) ∷ (z ⇒ Err (Torn at)) ∷ value_rules at a b)

  five_faulty : (x y z a b : Bool) {f : Fault} → five x y z false false ≡ Err f → five x y z a b ≡ Err f
  five_faulty true y z a b e = e
  five_faulty false true z a b e = e
  five_faulty false false true a b e = e
  five_faulty false false false a b e = absurd (not_sound (sym e))

  five_sound : (x y z a b : Bool) → five x y z false false ≡ Ok tt → five x y z a b ≡ first (Ok tt) (value_rules at a b)
  five_sound true y z a b e = absurd (not_sound e)
  five_sound false true z a b e = absurd (not_sound e)
  five_sound false false true a b e = absurd (not_sound e)
  five_sound false false false a b e = refl

  none_holds : (x y z a b : Bool) → five x y z a b ≡ Ok tt → (x ≡ false) × (y ≡ false) × (z ≡ false) × (a ≡ false) × (b ≡ false)
  none_holds true y z a b e = absurd (not_sound e)
  none_holds false true z a b e = absurd (not_sound e)
  none_holds false false true a b e = absurd (not_sound e)
  none_holds false false false true b e = absurd (not_sound e)
  none_holds false false false false true e = absurd (not_sound e)
  none_holds false false false false false e = (refl, refl, refl, refl, refl)

  -- a value's two tests, as they are answered one after the other
  module _ (a b : Bool) {fits : Bool} (first-told : fits ≡ not a) where
    pub value_wrong : fits ≡ false → Err (Length at) ≡ first (Ok tt) (value_rules at a b)
    value_wrong e = rw (not-false a (sym first-told ∙ e))

    module _ {good : Bool} (then-told : good ≡ not b) (e : fits ≡ true) where
      pub value_far : good ≡ false → Err (Range at) ≡ first (Ok tt) (value_rules at a b)
      value_far f = rw (not-true a (sym first-told ∙ e), not-false b (sym then-told ∙ f))

      pub value_sound : good ≡ true → (Ok tt) ≡ first (Ok tt) (value_rules at a b)
      value_sound f = rw (not-true a (sym first-told ∙ e), not-true b (sym then-told ∙ f))

module _ (s : List ℕ) (at tag : ℕ) where
  torn : Bool
  torn = ltb (length s - at) frame_size

  other : Bool
  other = not (eqb (tag_at s at) tag)

  past : Bool
  past = ltb (length s - value_at at) (length_at s at)

  -- what a sound field keeps
  pub record Kept (length-wrong out_of_range : Bool) : Type 0 where
    pub begun : frame_size ≤ length s - at
    pub inside : length_at s at ≤ length s - value_at at
    pub right : length-wrong ≡ false
    pub ranged : out_of_range ≡ false

  pub field_kept : {a b : Bool} → first (Ok tt) (field_rules s at tag a b) ≡ Ok tt → Kept a b
  unfolding torn other past
  field_kept {a} {b} sound =
      let rules = none_holds at torn other past a b sound in
      record {
        begun = ltb-false (length s - at) frame_size rules.0;
        inside = ltb-false (length s - value_at at) (length_at s at) rules.2;
        right = rules.3;
        ranged = rules.4;
      }

  -- a field whose frame is sound lies within the bytes
  pub field_inside : {a b : Bool} → Kept a b → end_at s at ≤ length s
  field_inside kept = omega (arith, kept.begun, kept.inside)

  module _ (a b : Bool) {framed : Ruling} (ruled : framed ≡ first (Ok tt) (field_rules s at tag false false)) where
    pub frame_faulty : {f : Fault} → framed ≡ Err f → Err f ≡ first (Ok tt) (field_rules s at tag a b)
    unfolding torn other past
    frame_faulty e = sym (five_faulty at torn other past a b (sym ruled ∙ e))

    pub frame_sound : {r : Ruling} → framed ≡ Ok tt → r ≡ first (Ok tt) (value_rules at a b) → r ≡ first (Ok tt) (field_rules s at tag a b)
    unfolding torn other past
    frame_sound e value = value ∙ sym (five_sound at torn other past a b (sym ruled ∙ e))
