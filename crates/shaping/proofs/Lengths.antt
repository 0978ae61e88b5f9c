-- Bytes of sound shape are exactly as long as the encoding of the sheet that they stand for: each field ends where its encoding would, and
-- nothing follows the last.
use Rattle.std.specs.Prelude.{Ok, Err}
use Prim.Native.Nat.{ℕ, zero, suc, ◌+◌, ◌*◌, ◌-◌, ◌≤◌}
use native.Mathlib.Omega.{arith}
use mathlib.Core.Path.{◌≡◌, refl, ap, ◌∙◌}
use mathlib.Core.Bool.{not, ◌||◌}
use mathlib.Core.List.{List, [], flat_map}
use borrow.Author.Tests.{ltb-false}
use lib.ListN.{length, length-append}
use lib.Dec.{ltb, eqb}
use Rattle.drawing.specs.paper.Bytes.{number_at, ids_at}
use Rattle.sheet.specs.paper.Shape.{Ruling}
use Rattle.sheet.specs.paper.Sheet.{Sheet}
use Rattle.sheet.specs.paper.Encoding.{path_bytes, head_field, line_field, lut_field, encode}
use Rattle.sheet.specs.paper.Shape.{Due, end_at, path_end, paths_at, depth_at, count_at, head_ruling, leaves_count, line_cut}
use Rattle.sheet.specs.paper.Shape.{line_paths, line_at, line_ruling, lut_cut, lut_at, lut_ruling, Fields, and_field, lines_from}
use Rattle.sheet.specs.paper.Shape.{luts_from, reading}
use Rattle.sheet.proofs.Lengths.{length_three, length_path, length_paths, length_head, length_line, length_lut}
use Rattle.shaping.specs.Numbers.{paths_end}
use Rattle.drawing.proofs.Ids.{length_ids}
use Rattle.shaping.proofs.Rulings.{not_sound}
use Rattle.shaping.proofs.Values.{or_none, line_parts, lut_parts}
use Rattle.shaping.proofs.FieldRuns.{head_kept, head_size, head_end, line_kept, line_end, lut_kept, lut_end}
use Rattle.shaping.proofs.Found.{first_sound, rest_sound, the_lines, the_luts, Whole, whole}

-- paths end where their encodings would
paths_sized : (s : List ℕ) (width at q : ℕ) → paths_end s at width q ≡ at + length (flat_map (path_bytes width) (paths_at s at width q))
unfolding paths_end paths_at flat_map
paths_sized s width at zero = omega arith
paths_sized s width at (suc q) =
    let path = ids_at s (at + width) width (number_at s at width) in
    omega (
      arith,
      paths_sized s width (path_end s at width) q,
      length-append (path_bytes width path) (flat_map (path_bytes width) (paths_at s (path_end s at width) width q)),
      length_path width path,
      ap (λ (n : ℕ). n * width) (length_ids s (at + width) width (number_at s at width)),
    )

-- What a sound field says: the head, how many LUTs there are at most; a line and a LUT, where their encodings would end.
module _ (due : Due) (s : List ℕ) where
  -- "LUT count above G"
  head_few : head_ruling due s ≡ Ok tt → count_at due s ≤ due.nodes - due.inputs
  head_few sound =
      let version = not (eqb (number_at s 3 1) 1) in
      let deep = ltb due.most (depth_at due s) in
      let many = ltb (due.nodes - due.inputs) (count_at due s) in
      let last = (or_none deep many (or_none version (deep || many) (head_kept due s sound).ranged).1).1 in
      ltb-false (due.nodes - due.inputs) (count_at due s) last

  line_sized : (at : ℕ) → line_ruling due s at ≡ Ok tt → end_at s at ≡ at + length (line_field due.form (line_at due s at))
  line_sized at ruled =
      let width = due.form.width in
      omega (
        arith,
        (line_parts due s at (line_kept due s at ruled).right).used,
        paths_sized s width (line_paths due s at + 1) (number_at s (line_paths due s at) 1),
        length_line due.form (line_at due s at),
        length_paths width (line_at due s at).paths,
        ap (λ (n : ℕ). n * width) (length_ids s (line_cut due s at + 1) width (leaves_count due s (line_cut due s at))),
      )

  lut_sized : (least at : ℕ) → lut_ruling due s least at ≡ Ok tt → end_at s at ≡ at + length (lut_field due.form (lut_at due s at))
  lut_sized least at ruled =
      let width = due.form.width in
      omega (
        arith,
        lut_parts due s at (lut_kept due s least at ruled).right,
        length_lut due.form (lut_at due s at),
        ap (λ (n : ℕ). n * width) (length_ids s (lut_cut due s at + 1) width (leaves_count due s (lut_cut due s at))),
      )

-- A sound run of `count` fields from `at` on: so many are read, and they end where their encodings would, within the bytes.
record Measured {A : Type 0} (s : List ℕ) (bytes : A → List ℕ) (count at : ℕ) (fields : Fields A) : Type 0 where
  counted : length fields.read ≡ count
  sized : fields.next ≡ at + length (flat_map bytes fields.read)
  inside : fields.next ≤ length s

module _ {A : Type 0} (s : List ℕ) (bytes : A → List ℕ) where
  measured_none : (at : ℕ) → at ≤ length s → Measured s bytes 0 at (record { read = []; ruling = Ok tt; next = at })
  unfolding flat_map
  measured_none at inside = record { counted = refl; sized = omega arith; inside = inside }

  measured_more : (r : Ruling) (a : A) (at : ℕ) (rest : Fields A) {count : ℕ} → (and_field r a at rest).ruling ≡ Ok tt →
      end_at s at ≡ at + length (bytes a) → Measured s bytes count (end_at s at) rest → Measured s bytes (suc count) at (and_field r a at rest)
  unfolding flat_map
  measured_more (Ok tt) a at rest sound ends later =
      record {
        counted = ap suc later.counted;
        sized = omega (arith, later.sized, ends, length-append (bytes a) (flat_map bytes rest.read));
        inside = later.inside;
      }
  measured_more (Err f) a at rest sound ends later = absurd (not_sound sound)

module _ (due : Due) (s : List ℕ) where
  lines_measured : (gates at : ℕ) → (lines_from due s gates at).ruling ≡ Ok tt → at ≤ length s →
      Measured s (line_field due.form) gates at (lines_from due s gates at)
  unfolding lines_from
  lines_measured zero at sound inside = measured_none s (line_field due.form) at inside
  lines_measured (suc gates) at sound inside =
      let line = line_at due s at in
      let rest = lines_from due s gates (end_at s at) in
      let ruled = first_sound (line_ruling due s at) line at rest sound in
      let later = lines_measured gates (end_at s at) (rest_sound (line_ruling due s at) line at rest sound) (line_end due s at ruled) in
      measured_more s (line_field due.form) (line_ruling due s at) line at rest sound (line_sized due s at ruled) later

  luts_measured : (luts least at : ℕ) → (luts_from due s luts least at).ruling ≡ Ok tt → at ≤ length s →
      Measured s (lut_field due.form) luts at (luts_from due s luts least at)
  unfolding luts_from
  luts_measured zero least at sound inside = measured_none s (lut_field due.form) at inside
  luts_measured (suc luts) least at sound inside =
      let lut = lut_at due s at in
      let rest = luts_from due s luts (lut.root + 1) (end_at s at) in
      let ruled = first_sound (lut_ruling due s least at) lut at rest sound in
      let later = luts_measured luts (lut.root + 1) (end_at s at) (rest_sound (lut_ruling due s least at) lut at rest sound) (lut_end due s least at ruled) in
      measured_more s (lut_field due.form) (lut_ruling due s least at) lut at rest sound (lut_sized due s least at ruled) later

  module _ (sound : (reading due s).ruling ≡ Ok tt) where
    all : Whole due s
    all = whole due s sound

    lines : Measured s (line_field due.form) (due.nodes - due.inputs) (end_at s 0) (the_lines due s)
    lines = lines_measured (due.nodes - due.inputs) (end_at s 0) all.lines (head_end due s all.head)

    luts : Measured s (lut_field due.form) (count_at due s) (the_lines due s).next (the_luts due s)
    luts = luts_measured (count_at due s) due.inputs (the_lines due s).next all.luts lines.inside

    -- "for each gate in id order": a line for each
    pub lines_counted : length (reading due s).sheet.lines ≡ due.nodes - due.inputs
    lines_counted = ap (λ (sheet : Sheet). length sheet.lines) all.sheet ∙ lines.counted

    pub luts_few : length (reading due s).sheet.luts ≤ due.nodes - due.inputs
    luts_few = omega (arith, ap (λ (sheet : Sheet). length sheet.luts) all.sheet, luts.counted, head_few due s all.head)

    pub read_length : length s ≡ length (encode due.form (reading due s).sheet)
    unfolding encode
    read_length =
        let head = head_field due.form (depth_at due s) (length (the_luts due s).read) in
        let by_lines = flat_map (line_field due.form) (the_lines due s).read in
        let by_luts = flat_map (lut_field due.form) (the_luts due s).read in
        omega (
          arith,
          ap (λ (sheet : Sheet). length (encode due.form sheet)) all.sheet,
          length_three head by_lines by_luts,
          length_head due.form (depth_at due s) (length (the_luts due s).read),
          head_size due s all.head,
          lines.sized,
          luts.sized,
          luts.inside,
          all.ended,
        )
