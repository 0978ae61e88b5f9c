-- The lengths of a sheet's fields.
use Prim.Native.Nat.{ℕ, suc, ◌+◌, ◌*◌, ◌<◌, ◌≤◌}
use native.Mathlib.Nat.{zero-mul, one-mul, suc-mul, add-mul}
use native.Mathlib.Omega.{arith}
use mathlib.Core.Path.{◌≡◌, ap, sym, ◌∙◌}
use mathlib.Core.List.{List, [], ◌∷◌, ◌++◌, flat_map}
use lib.ListN.{length, get_or, length-append}
use Rattle.theory.specs.paper.Evidence.{joined}
use Rattle.sheet.specs.declared.Form.{Form}
use Rattle.sheet.specs.paper.Sheet.{Line, Lut}
use Rattle.sheet.specs.paper.Encoding.{digits, byte, id_bytes, field, leaves_bytes, path_bytes, head_value, head_field, line_front, line_value, line_field, lut_value, lut_field}
use Rattle.sheet.proofs.Numbers.{length_digits, length_ids}

pub length_field : (tag : ℕ) (value : List ℕ) → length (field tag value) ≡ 3 + length value
length_field tag value = omega (arith, length-append (digits 2 (length value)) value, length_digits 2 (length value))

-- three parts, the third a run that may be empty
pub length_three : (xs ys zs : List ℕ) → length (xs ++ ys ++ zs) ≡ length xs + length ys + length zs
length_three xs ys zs = omega (arith, length-append (xs ++ ys) zs, length-append xs ys)

pub length_leaves : (width : ℕ) (leaves : List ℕ) → length (leaves_bytes width leaves) ≡ 1 + length leaves * width
length_leaves width leaves =
    omega (arith, length-append (byte (length leaves)) (id_bytes width leaves), length_digits 1 (length leaves), length_ids width leaves)

pub length_path : (width : ℕ) (path : List ℕ) → length (path_bytes width path) ≡ width + length path * width
length_path width path =
    omega (arith, length-append (digits width (length path)) (id_bytes width path), length_digits width (length path), length_ids width path)

pub length_paths : (width : ℕ) (paths : List (List ℕ)) →
    length (flat_map (path_bytes width) paths) ≡ (length paths + length (joined paths)) * width
unfolding flat_map joined
length_paths width [] = sym (zero-mul width)
length_paths width (path ∷ paths) =
    let sum : suc (length paths) + length (path ++ joined paths) ≡ 1 + length path + (length paths + length (joined paths)) =
    omega (arith, length-append path (joined paths)) in
    length-append (path_bytes width path) (flat_map (path_bytes width) paths)
    ∙ omega (
      arith,
      length_path width path,
      length_paths width paths,
      ap (λ (m : ℕ). m * width) sum,
      add-mul (1 + length path) (length paths + length (joined paths)) width,
      add-mul 1 (length path) width,
      one-mul width,
    )

module _ (form : Form) where
  pub length_head : (depth luts : ℕ) → length (head_field form depth luts) ≡ 4 + form.width + form.width
  length_head depth luts =
      omega (
        arith,
        length_field form.head (head_value form depth luts),
        length_three (byte 1) (digits form.width depth) (digits form.width luts),
        length_digits 1 1,
        length_digits form.width depth,
        length_digits form.width luts,
      )

  pub length_front : (label : ℕ) (leaves : List ℕ) (q : ℕ) →
      length (line_front form label leaves q) ≡ 2 + form.width + length leaves * form.width
  length_front label leaves q =
      omega (
        arith,
        length_three (digits form.width label) (leaves_bytes form.width leaves) (byte q),
        length_digits form.width label,
        length_leaves form.width leaves,
        length_digits 1 q,
      )

  pub length_line : (line : Line) →
      length (line_field form line)
      ≡ 5 + form.width + length line.leaves * form.width + (length line.paths + length (joined line.paths)) * form.width
  length_line line =
      omega (
        arith,
        length_field form.line (line_value form line),
        length-append (line_front form line.label line.leaves (length line.paths)) (flat_map (path_bytes form.width) line.paths),
        length_front line.label line.leaves (length line.paths),
        length_paths form.width line.paths,
      )

  pub length_lut_value : (lut : Lut) → length (lut_value form lut) ≡ 9 + form.width + length lut.leaves * form.width
  length_lut_value lut =
      omega (
        arith,
        length_three (digits form.width lut.root) (leaves_bytes form.width lut.leaves) (digits 8 lut.table),
        length_digits form.width lut.root,
        length_leaves form.width lut.leaves,
        length_digits 8 lut.table,
      )

  pub length_lut : (lut : Lut) → length (lut_field form lut) ≡ 12 + form.width + length lut.leaves * form.width
  length_lut lut = omega (arith, length_field form.lut (lut_value form lut), length_lut_value lut)

-- as many parts, each at most `most` bytes
pub flat_most : {A : Type 0} (f : A → List ℕ) (d : A) (most : ℕ) (xs : List A) →
    ((i : ℕ) → i < length xs → length (f (get_or xs i d)) ≤ most) → length (flat_map f xs) ≤ length xs * most
unfolding flat_map
flat_most f d most [] each = omega arith
flat_most f d most (x ∷ xs) each =
    omega (
      arith,
      length-append (f x) (flat_map f xs),
      each 0 (omega arith),
      flat_most f d most xs (λ i h. each (suc i) (omega arith)),
      suc-mul (length xs) most,
    )
