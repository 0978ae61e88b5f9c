-- Numbers of one byte or two, and lists of them read one at a time.
use Prim.Native.Nat.{ℕ, zero, suc, ◌+◌, ◌*◌, ◌-◌, ◌<◌, ◌≤◌}
use native.Mathlib.Nat.{add-zero, zero-mul, suc-mul, mul-le-mul_left}
use native.Mathlib.Omega.{arith}
use mathlib.Core.Path.{◌≡◌, refl, ap, sym, ◌∙◌}
use mathlib.Core.Bool.{true, false}
use mathlib.Core.List.{List, [], ◌∷◌}
use borrow.Author.Tests.{le-leb, lt-leb}
use lib.ListN.{length, get_or}
use Rattle.drawing.specs.paper.Bytes.{number_at, ids_at, some_from}
use Rattle.drawing.specs.Bytes.{ByteAt, Narrow, SmallAt}
use Rattle.drawing.proofs.Digits.{number_none, number_more}

byte_number : (s : List ℕ) (at r : ℕ) → at < length s → ByteAt s at r → r ≡ number_at s at 1
byte_number s at r inside b =
    b.byte ∙ ap (λ (i : ℕ). get_or s i 0) (sym (add-zero at)) ∙ omega (arith, number_more s at 0 (omega arith), number_none s at)

pub small_one : (s : List ℕ) (at : ℕ) {width r : ℕ} → width ≡ 1 → at < length s → ByteAt s at r → SmallAt s at width r
small_one s at {width} {r} one inside b =
    rw one (record { number = byte_number s at r inside b; small = omega (arith, b.small); fits = omega (arith, b.small) })

pub small_two : (s : List ℕ) (at : ℕ) {width high low : ℕ} → Narrow width → (width ≡ 1 → ⊥) → at + 2 ≤ length s → ByteAt s at high →
    ByteAt s (at + 1) low → SmallAt s at width (high * 256 + low)
small_two s at {width} {high} {low} narrow more inside b c =
    let two : width ≡ 2 = omega (arith, narrow.some, narrow.few, more) in
    rw two
    (record {
      number = omega (arith, number_more s at 1 (omega arith), byte_number s at high (omega arith) b, c.byte);
      small = omega (arith, b.small, c.small);
      fits = omega (arith, b.small, c.small);
    })

-- a count times a width
pub twice : {width : ℕ} (n : ℕ) → Narrow width → n * width ≤ n + n
twice n narrow = omega (arith, mul-le-mul_left n narrow.few)

pub from_one : (left : ℕ) → 0 < left → left ≡ suc (left - 1)
from_one left some = omega (arith, some)

pub one_less : (left width : ℕ) → 0 < left → (left - 1) * width + width ≡ left * width
one_less left width some = sym (ap (λ (n : ℕ). n * width) (from_one left some) ∙ suc-mul (left - 1) width)

-- a count whose ids take the bytes of one id or more
pub some_id : (count width : ℕ) → 1 ≤ width → width ≤ count * width → 1 ≤ count
some_id zero width wide whole = absurd (omega (arith, zero-mul width))
some_id (suc count) width wide whole = omega arith

pub length_ids : (s : List ℕ) (at width count : ℕ) → length (ids_at s at width count) ≡ count
length_ids s at width zero = refl
length_ids s at width (suc count) = ap suc (length_ids s (at + width) width count)

module _ (s : List ℕ) (at width left : ℕ) where
  pub ids_none : left ≤ 0 → ids_at s at width left ≡ []
  ids_none none = let z : left ≡ 0 = omega arith in ap (ids_at s at width) z

  pub ids_step : 0 < left → ids_at s at width left ≡ number_at s at width ∷ ids_at s (at + width) width (left - 1)
  ids_step some = ap (ids_at s at width) (from_one left some)

-- the ids from the i-th on
module _ (s : List ℕ) (at width count i : ℕ) where
  abbrev pub ids_left : List ℕ
  ids_left = ids_at s (at + i * width) width (count - i)

  pub none_left : count ≤ i → ids_left ≡ []
  none_left none = let z : count - i ≡ 0 = omega arith in ap (ids_at s (at + i * width) width) z

  pub step_left : i < count → ids_left ≡ number_at s (at + i * width) width ∷ ids_at s (at + (i + 1) * width) width (count - (i + 1))
  step_left some =
      let n : count - i ≡ suc (count - (i + 1)) = omega arith in
      let next : at + i * width + width ≡ at + (i + 1) * width = omega (arith, suc-mul i width) in
      ap (ids_at s (at + i * width) width) n
      ∙ ap (λ (p : ℕ). number_at s (at + i * width) width ∷ ids_at s p width (count - (i + 1))) next

  module _ (nodes : ℕ) where
    pub below_none : count ≤ i → some_from nodes ids_left ≡ false
    unfolding some_from
    below_none none = ap (some_from nodes) (none_left none)

    module _ {id : ℕ} (some : i < count) (read : SmallAt s (at + i * width) width id) where
      pub below_stop : nodes ≤ id → some_from nodes ids_left ≡ true
      unfolding some_from
      below_stop large = ap (some_from nodes) (step_left some) ∙ rw (le-leb nodes (number_at s (at + i * width) width) (omega (arith, read.number)))

      pub below_next : id < nodes → some_from nodes ids_left ≡ some_from nodes (ids_at s (at + (i + 1) * width) width (count - (i + 1)))
      unfolding some_from
      below_next small = ap (some_from nodes) (step_left some) ∙ rw (lt-leb nodes (number_at s (at + i * width) width) (omega (arith, read.number)))
