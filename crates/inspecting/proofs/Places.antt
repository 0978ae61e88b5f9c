-- The place that a fault in a sheet's shape names is small, however many bytes there are: the fields before it are sound, each is at most 65,538
-- bytes long, and there are few of them.
use Rattle.std.specs.Prelude.{Ok, Err}
use Prim.Native.Nat.{ℕ, zero, suc, ◌+◌, ◌*◌, ◌-◌, ◌≤◌, ◌<◌}
use native.Mathlib.Omega.{arith}
use mathlib.Core.Path.{◌≡◌, refl, ap, sym, ◌∙◌}
use mathlib.Core.Bool.{Bool, true, false, cond, not, ◌||◌}
use mathlib.Core.List.{List}
use borrow.Author.Tests.{ltb-false}
use lib.ListN.{length, get_or}
use lib.Dec.{ltb, eqb}
use Rattle.drawing.specs.paper.Rules.{first}
use Rattle.drawing.specs.paper.Bytes.{number_at}
use Rattle.drawing.proofs.Digits.{number_none, number_more}
use Rattle.drawing.proofs.Places.{first_so}
use Rattle.sheet.specs.declared.Fault.{Fault}
use Rattle.sheet.specs.declared.Fault.TheVariants.{Extra}
use Rattle.sheet.specs.paper.Shape.{Ruling}
use Rattle.sheet.specs.paper.Sheet.{Line, Lut, Sheet}
use Rattle.sheet.specs.paper.Shape.{Due, field_rules, end_at, lut_at, lut_ruling, lut_range, lut_length_wrong, line_at, line_ruling, line_range, line_length_wrong}
use Rattle.sheet.specs.Shape.{place}
use Rattle.sheet.specs.paper.Shape.{head_ruling, depth_at, count_at, Fields, and_field, lines_from, luts_from, after_head, after_lines, after_luts, reading}
use Rattle.shaping.specs.Fields.{head_length_wrong, head_out_of_range}
use Rattle.shaping.proofs.Values.{or_none}
use Rattle.shaping.proofs.FieldRuns.{lut_kept, line_kept, head_kept}
use Rattle.shaping.proofs.Found.{the_lines, the_luts, whole}

-- the place that a ruling names, and another where it is sound
abbrev pub fault_or : ℕ → Ruling → ℕ
fault_or other (Ok tt) = other
fault_or other (Err f) = place f

abbrev At : ℕ → Ruling → Type 0
At at r = fault_or at r ≡ at

module _ (due : Due) (s : List ℕ) where
  field_place : (at tag : ℕ) (length-wrong out_of_range : Bool) → At at (first (Ok tt) (field_rules s at tag length-wrong out_of_range))
  field_place at tag length-wrong out_of_range =
      first_so (At at) (Ok tt) (field_rules s at tag length-wrong out_of_range) refl (refl, (refl, (refl, (refl, (refl, tt)))))

  head_place : At 0 (head_ruling due s)
  unfolding head_ruling
  head_place = field_place 0 due.form.head (head_length_wrong due s) (head_out_of_range due s)

  line_place : (at : ℕ) → At at (line_ruling due s at)
  unfolding line_ruling
  line_place at = field_place at due.form.line (line_length_wrong due s at) (line_range due (line_at due s at))

  lut_place : (least at : ℕ) → At at (lut_ruling due s least at)
  unfolding lut_ruling
  lut_place least at = field_place at due.form.lut (lut_length_wrong due s at) (lut_range due least (lut_at due s at))

  -- "depth above 191; LUT count above G"
  pub head_numbers : head_ruling due s ≡ Ok tt → (depth_at due s ≤ due.most) × (count_at due s ≤ due.nodes - due.inputs)
  head_numbers ruled =
      let version = not (eqb (number_at s 3 1) 1) in
      let deep = ltb due.most (depth_at due s) in
      let many = ltb (due.nodes - due.inputs) (count_at due s) in
      let both = or_none deep many (or_none version (deep || many) (head_kept due s ruled).ranged).1 in
      (ltb-false due.most (depth_at due s) both.0, ltb-false (due.nodes - due.inputs) (count_at due s) both.1)

  pub depth_most : (reading due s).ruling ≡ Ok tt → (reading due s).sheet.depth ≤ due.most
  depth_most sound =
      let all = whole due s sound in
      omega (arith, ap (λ (x : Sheet). x.depth) all.sheet, (head_numbers all.head).0)

  module _ (bytes : (i : ℕ) → get_or s i 0 < 256) where
    pub field_short : (at : ℕ) → 3 ≤ length s - at → end_at s at ≤ at + 65538
    field_short at begun =
        let two = number_more s (at + 1) 1 (omega arith) in
        let one = number_more s (at + 1) 0 (omega arith) in
        omega (arith, two, one, number_none s (at + 1), bytes (at + 1 + 0), bytes (at + 1 + 1))

    -- where a run of fields ends, or the one that is faulty starts
    pub lines_place : (gates at : ℕ) → fault_or (lines_from due s gates at).next (lines_from due s gates at).ruling ≤ at + gates * 65538
    unfolding lines_from
    lines_place zero at = omega arith
    lines_place (suc gates) at = by (line_ruling due s at) refl (lines_place gates (end_at s at))
      where
        rest : Fields Line
        rest = lines_from due s gates (end_at s at)

        by : (r : Ruling) → line_ruling due s at ≡ r → fault_or rest.next rest.ruling ≤ end_at s at + gates * 65538 →
            fault_or (and_field r (line_at due s at) at rest).next (and_field r (line_at due s at) at rest).ruling ≤ at + suc gates * 65538
        by (Ok tt) ruled later = omega (arith, later, field_short at (line_kept due s at ruled).begun)
        by (Err f) ruled later = omega (arith, ap (fault_or at) (sym ruled) ∙ line_place at)

    pub luts_place : (left least at : ℕ) → fault_or (luts_from due s left least at).next (luts_from due s left least at).ruling ≤ at + left * 65538
    unfolding luts_from
    luts_place zero least at = omega arith
    luts_place (suc left) least at = by (lut_ruling due s least at) refl (luts_place left ((lut_at due s at).root + 1) (end_at s at))
      where
        rest : Fields Lut
        rest = luts_from due s left ((lut_at due s at).root + 1) (end_at s at)

        by : (r : Ruling) → lut_ruling due s least at ≡ r → fault_or rest.next rest.ruling ≤ end_at s at + left * 65538 →
            fault_or (and_field r (lut_at due s at) at rest).next (and_field r (lut_at due s at) at rest).ruling ≤ at + suc left * 65538
        by (Ok tt) ruled later = omega (arith, later, field_short at (lut_kept due s least at ruled).begun)
        by (Err f) ruled later = omega (arith, ap (fault_or at) (sym ruled) ∙ lut_place least at)

    -- 385 fields at most
    read_place : due.nodes - due.inputs ≤ 192 → fault_or 0 (reading due s).ruling ≤ 25232130
    unfolding reading
    read_place few = by_head (head_ruling due s) refl
      where
        by_extra : (more : Bool) → (the_luts due s).next ≤ 25232130 → fault_or 0 (cond more (Err (Extra (the_luts due s).next)) (Ok tt)) ≤ 25232130
        by_extra true low = low
        by_extra false low = omega arith

        by_luts : (r : Ruling) → fault_or (the_luts due s).next r ≤ 25232130 → fault_or 0 (after_luts due s r (the_lines due s) (the_luts due s)).ruling ≤ 25232130
        by_luts (Ok tt) low = by_extra (ltb (the_luts due s).next (length s)) low
        by_luts (Err f) low = low

        by_lines : head_ruling due s ≡ Ok tt → (r : Ruling) → fault_or (the_lines due s).next r ≤ 65538 + 192 * 65538 → fault_or 0 (after_lines due s r (the_lines due s)).ruling ≤ 25232130
        by_lines ruled (Ok tt) low =
            by_luts (the_luts due s).ruling (omega (arith, low, few, (head_numbers ruled).1, luts_place (count_at due s) due.inputs (the_lines due s).next))
        by_lines ruled (Err f) low = omega (arith, low)

        by_head : (r : Ruling) → head_ruling due s ≡ r → fault_or 0 (after_head due s r).ruling ≤ 25232130
        by_head (Ok tt) ruled =
            by_lines ruled (the_lines due s).ruling
            (omega (arith, few, field_short 0 (head_kept due s ruled).begun, lines_place (due.nodes - due.inputs) (end_at s 0)))
        by_head (Err f) ruled = omega (arith, ap (fault_or 0) (sym ruled) ∙ head_place)

    pub fault_place : due.nodes - due.inputs ≤ 192 → {f : Fault} → (reading due s).ruling ≡ Err f → place f ≤ 25232130
    fault_place few e = omega (arith, read_place few, ap (fault_or 0) e)
