-- Numbers as bytes: how many there are, one byte more at the high end, and that reading what was written gives the number back.
use Prim.Native.Nat.{ℕ, zero, suc, ◌+◌, ◌*◌, ◌/◌, ◌%◌, ◌^◌, ◌<◌}
use mathlib.Core.Path.{◌≡◌, refl, ap, sym, ◌∙◌}
use mathlib.Core.List.{List, [], ◌∷◌, ◌++◌, flat_map, append_assoc, append-nil}
use native.Mathlib.Nat.{pow-suc, pow-succ', div-div-eq-div-mul, mod-eq_of_lt, zero-mul, suc-mul, add-mul, mul_assoc, mul_left_comm}
use native.Mathlib.Numerals.{add-one}
use native.Mathlib.Omega.{arith}
use lib.Arith.{mod-mul}
use lib.ListN.{length, length-append}
use Rattle.drawing.specs.paper.Bytes.{high_first}
use Rattle.sheet.specs.paper.Encoding.{digits, id_bytes}

pub length_digits : (width number : ℕ) → length (digits width number) ≡ width
unfolding digits
length_digits zero number = refl
length_digits (suc width) number = ap suc (length_digits width number)

pub power_positive : (width : ℕ) → 0 < 256 ^ width
power_positive zero = omega arith
power_positive (suc width) = let here = power_positive width in omega (arith, pow-suc 256 width)

-- what is left of a number after one byte more is taken off its low end
pub rest_more : (number i : ℕ) → number / 256 ^ i / 256 ≡ number / 256 ^ (i + 1)
rest_more number i = div-div-eq-div-mul number (256 ^ i) 256 ∙ ap (λ (m : ℕ). number / m) (sym (pow-suc 256 i) ∙ ap (λ (m : ℕ). 256 ^ m) (sym (add-one i)))

high_first_digits : (width number high : ℕ) → high_first high (digits width number) ≡ high * 256 ^ width + number % 256 ^ width
unfolding digits high_first
high_first_digits zero number high = omega arith
high_first_digits (suc width) number high =
    let digit = number / 256 ^ width % 256 in
    let low : number % (256 * 256 ^ width) ≡ digit * 256 ^ width + number % 256 ^ width = mod-mul number {m = 256} {c = 256 ^ width} (omega arith) (power_positive width) in
    high_first_digits width number (256 * high + digit)
    ∙ omega (
      arith,
      low,
      add-mul (256 * high) digit (256 ^ width),
      mul_assoc 256 high (256 ^ width),
      mul_left_comm high 256 (256 ^ width),
      ap (λ (m : ℕ). high * m) (pow-succ' 256 width),
      ap (λ (m : ℕ). number % m) (pow-succ' 256 width),
    )

-- "high byte first", there and back
pub number_back : (width number : ℕ) → number < 256 ^ width → high_first 0 (digits width number) ≡ number
number_back width number small = high_first_digits width number 0 ∙ omega (arith, zero-mul (256 ^ width), mod-eq_of_lt small)

module _ {A : Type 0} (f : A → List ℕ) where
  pub flat_append : (xs ys : List A) → flat_map f (xs ++ ys) ≡ flat_map f xs ++ flat_map f ys
  unfolding flat_map
  flat_append [] ys = refl
  flat_append (x ∷ xs) ys = ap (λ (l : List ℕ). f x ++ l) (flat_append xs ys) ∙ sym (append_assoc (f x) (flat_map f xs) (flat_map f ys))

  pub flat_more : (xs : List A) (x : A) → flat_map f (xs ++ (x ∷ [])) ≡ flat_map f xs ++ f x
  unfolding flat_map
  flat_more xs x = flat_append xs (x ∷ []) ∙ ap (λ (l : List ℕ). flat_map f xs ++ l) (append-nil (f x))

pub length_ids : (width : ℕ) (vs : List ℕ) → length (id_bytes width vs) ≡ length vs * width
unfolding flat_map
length_ids width [] = sym (zero-mul width)
length_ids width (v ∷ vs) = length-append (digits width v) (id_bytes width vs) ∙ omega (arith, length_digits width v, length_ids width vs, suc-mul (length vs) width)
