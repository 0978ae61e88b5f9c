-- Bytes that stand somewhere in a sheet, and what is read there: numbers, ids, paths, a field.
use Rattle.std.specs.Prelude.{Ok}
use Prim.Native.Nat.{ℕ, ◌+◌, ◌*◌, ◌-◌, ◌^◌, ◌<◌, ◌≤◌}
use native.Mathlib.Nat.{add-zero}
use native.Mathlib.Omega.{arith}
use mathlib.Core.Path.{◌≡◌, refl, ap, sym, ◌∙◌}
use mathlib.Core.Bool.{Bool, true, false}
use mathlib.Core.List.{List, [], ◌∷◌, ◌++◌, flat_map, append_assoc, Memᴰ}
use borrow.Author.Tests.{le-ltb, le-leb, eq-eqb}
use lib.ListN.{length, get_or, take, drop, length-append, length-drop}
use lib.Seq.{drop-drop, drop-append_seam, take_at, get_or-drop}
use Rattle.drawing.specs.paper.Rules.{first}
use Rattle.drawing.specs.paper.Bytes.{high_first, number_at, tag_at, length_at, value_at, ids_at}
use Rattle.sheet.specs.paper.Encoding.{digits, id_bytes, path_bytes, field}
use Rattle.sheet.specs.paper.Shape.{field_rules, end_at, path_end, paths_at, paths_use}
use Rattle.sheet.specs.Shape.{Below}
use Rattle.sheet.proofs.Numbers.{length_digits, number_back}
use Rattle.sheet.proofs.Lengths.{length_field, length_path}

pub record Stands (s : List ℕ) (at : ℕ) (bytes : List ℕ) : Type 0 where
  pub rest : List ℕ
  pub there : drop at s ≡ bytes ++ rest

module _ {s : List ℕ} {at : ℕ} where
  pub stands_first : (xs ys : List ℕ) → Stands s at (xs ++ ys) → Stands s at xs
  stands_first xs ys st = record { rest = ys ++ st.rest; there = st.there ∙ append_assoc xs ys st.rest }

  pub stands_then : (xs ys : List ℕ) {next : ℕ} → at + length xs ≡ next → Stands s at (xs ++ ys) → Stands s next ys
  stands_then xs ys e st =
      rw (← e)
      (record {
        rest = st.rest;
        there =
            sym (drop-drop (length xs) at s)
            ∙ ap (drop (length xs)) (st.there ∙ append_assoc xs ys st.rest)
            ∙ drop-append_seam xs (ys ++ st.rest);
      })

  pub stands_inside : {bytes : List ℕ} → Stands s at bytes → length bytes ≤ length s - at
  stands_inside {bytes} st = omega (arith, length-drop at s, ap length st.there, length-append bytes st.rest)

  pub number_stands : (width number : ℕ) → number < 256 ^ width → Stands s at (digits width number) → number_at s at width ≡ number
  unfolding number_at
  number_stands width number small st =
      ap (λ (l : List ℕ). high_first 0 (take width l)) st.there
      ∙ ap (high_first 0) (take_at (digits width number) st.rest width (length_digits width number))
      ∙ number_back width number small

  pub tag_stands : {tag : ℕ} {bytes : List ℕ} → Stands s at (tag ∷ bytes) → tag_at s at ≡ tag
  tag_stands st =
      ap (λ (i : ℕ). get_or s i 0) (sym (add-zero at)) ∙ sym (get_or-drop at s 0 0) ∙ ap (λ (l : List ℕ). get_or l 0 0) st.there

pub ids_stand : (s : List ℕ) (at width : ℕ) (vs : List ℕ) → Below (256 ^ width) vs → Stands s at (id_bytes width vs) → ids_at s at width (length vs) ≡ vs
unfolding flat_map
ids_stand s at width [] below st = refl
ids_stand s at width (v ∷ vs) below st =
    let here = number_stands width v (below v (Memᴰ.head refl)) (stands_first (digits width v) (id_bytes width vs) st) in
    let later = ids_stand s (at + width) width vs (λ u m. below u (Memᴰ.tail m))
    (stands_then (digits width v) (id_bytes width vs) (ap (λ (n : ℕ). at + n) (length_digits width v)) st) in
    λ i. here i ∷ later i

-- a count and as many ids behind it
pub counted_stand : (s : List ℕ) (at wide width : ℕ) (vs : List ℕ) → length vs < 256 ^ wide → Below (256 ^ width) vs →
    Stands s at (digits wide (length vs) ++ id_bytes width vs) →
    (number_at s at wide ≡ length vs) × (ids_at s (at + wide) width (number_at s at wide) ≡ vs)
counted_stand s at wide width vs few below st =
    let count = number_stands wide (length vs) few (stands_first (digits wide (length vs)) (id_bytes width vs) st) in (
      count,
      ap (ids_at s (at + wide) width) count ∙ ids_stand s (at + wide) width vs below
          (stands_then (digits wide (length vs)) (id_bytes width vs) (ap (λ (n : ℕ). at + n) (length_digits wide (length vs))) st),
    )

pub record PathsStand (s : List ℕ) (at width : ℕ) (paths : List (List ℕ)) : Type 0 where
  pub read : paths_at s at width (length paths) ≡ paths
  pub used : paths_use s at width (length paths) (at + length (flat_map (path_bytes width) paths)) ≡ true

pub paths_stand : (s : List ℕ) (at width : ℕ) (paths : List (List ℕ)) →
    ((path : List ℕ) → Memᴰ path paths → length path < 256 ^ width) → ((path : List ℕ) → Memᴰ path paths → Below (256 ^ width) path) →
    Stands s at (flat_map (path_bytes width) paths) → PathsStand s at width paths
unfolding paths_at paths_use flat_map
paths_stand s at width [] short below st = record { read = refl; used = eq-eqb at (at + 0) (omega arith) }
paths_stand s at width (path ∷ paths) short below st =
    let rest = flat_map (path_bytes width) paths in
    let one = counted_stand s at width width path (short path (Memᴰ.head refl)) (below path (Memᴰ.head refl))
    (stands_first (path_bytes width path) rest st) in
    let end : at + length (path_bytes width path) ≡ path_end s at width = omega (arith, length_path width path, ap (λ (n : ℕ). n * width) one.0) in
    let later : PathsStand s (path_end s at width) width paths =
    paths_stand s (path_end s at width) width paths (λ p m. short p (Memᴰ.tail m)) (λ p m. below p (Memᴰ.tail m))
    (stands_then (path_bytes width path) rest end st) in
    let whole : at + length (path_bytes width path ++ rest) ≡ path_end s at width + length rest =
    omega (arith, length-append (path_bytes width path) rest, end) in
    let begun : at + width ≤ path_end s at width + length rest = omega arith in
    record {
      read = λ i. one.1 i ∷ later.read i;
      used = rw (whole, le-leb (at + width) (path_end s at width + length rest) begun) later.used;
    }

-- a field
pub record FieldStands (s : List ℕ) (at tag : ℕ) (value : List ℕ) : Type 0 where
  pub begun : 3 ≤ length s - at
  pub tagged : tag_at s at ≡ tag
  pub long : length_at s at ≡ length value
  pub inside : length value ≤ length s - value_at at
  pub end : end_at s at ≡ at + length (field tag value)
  pub stands : Stands s (value_at at) value

pub field_stands : (s : List ℕ) (at tag : ℕ) (value : List ℕ) → length value < 256 ^ 2 → Stands s at (field tag value) → FieldStands s at tag value
field_stands s at tag value short st =
    let size = digits 2 (length value) in
    let tail : Stands s (at + 1) (size ++ value) = stands_then (tag ∷ []) (size ++ value) refl st in
    let long : length_at s at ≡ length value = number_stands 2 (length value) short (stands_first size value tail) in
    let stands : Stands s (value_at at) value =
    stands_then (tag ∷ size) value (omega (arith, length_digits 2 (length value))) st in
    record {
      begun = omega (arith, stands_inside st, length_field tag value);
      tagged = tag_stands st;
      long = long;
      inside = stands_inside stands;
      end = omega (arith, length_field tag value, long);
      stands = stands;
    }

pub field_sound : {s : List ℕ} {at tag : ℕ} {value : List ℕ} {length-wrong out_of_range : Bool} → FieldStands s at tag value →
    length-wrong ≡ false → out_of_range ≡ false → first (Ok tt) (field_rules s at tag length-wrong out_of_range) ≡ Ok tt
field_sound {s} {at} {tag} {value} f right ranged =
    rw (le-ltb (length s - at) 3 f.begun, eq-eqb (tag_at s at) tag f.tagged, le-ltb (length s - value_at at) (length_at s at) (omega (arith, f.long, f.inside)), right, ranged)
