-- What a sound shape gives the later passes: roots that rise, and a sheet that is not too long for 32-bit places.
use Rattle.std.specs.Prelude.{Ok}
use Prim.Native.Nat.{ℕ, zero, suc, ◌+◌, ◌-◌, ◌^◌, ◌≤◌, ◌<◌}
use native.Mathlib.Numerals.{add-one}
use native.Mathlib.Omega.{arith}
use mathlib.Core.Path.{◌≡◌, ap, sym, subst}
use mathlib.Core.List.{List}
use lib.ListN.{length, get_or}
use Rattle.sheet.specs.paper.Sheet.{Sheet, Roots}
use Rattle.sheet.specs.paper.Shape.{Due, end_at, lut_at, lut_ruling, count_at, luts_from, reading}
use Rattle.shaping.proofs.FieldRuns.{head_kept}
use Rattle.shaping.proofs.Found.{rest_sound, all_read, root_least, root_node, the_lines, the_luts, whole}
use Rattle.inspecting.proofs.Places.{fault_or, head_numbers, field_short, lines_place, luts_place}

module _ (due : Due) (s : List ℕ) where
  luts_rise : (left least at : ℕ) → (luts_from due s left least at).ruling ≡ Ok tt → Roots due.nodes least (luts_from due s left least at).read
  unfolding luts_from
  luts_rise zero least at sound = Roots.none
  luts_rise (suc left) least at sound =
      let lut = lut_at due s at in
      let rest = luts_from due s left (lut.root + 1) (end_at s at) in
      let some : 0 < suc left = omega arith in
      let later = luts_rise left (lut.root + 1) (end_at s at) (rest_sound (lut_ruling due s least at) lut at rest sound) in
      subst (Roots due.nodes least) (sym (all_read (lut_ruling due s least at) lut at rest sound))
      (Roots.more (root_least due s (suc left) least at some sound) (root_node due s (suc left) least at some sound)
      (subst (λ (n : ℕ). Roots due.nodes n rest.read) (add-one lut.root) later))

  pub roots_rise : (reading due s).ruling ≡ Ok tt → Roots due.nodes due.inputs (reading due s).sheet.luts
  roots_rise sound =
      let all = whole due s sound in
      subst (λ (sheet : Sheet). Roots due.nodes due.inputs sheet.luts) (sym all.sheet)
      (luts_rise (count_at due s) due.inputs (the_lines due s).next all.luts)

  -- Each field is at most 65,538 bytes long, and there are not many of them.

  module _ (bytes : (i : ℕ) → get_or s i 0 < 256) where
    pub sheet_short : due.nodes - due.inputs ≤ 192 → (reading due s).ruling ≡ Ok tt → length s < 2 ^ 32
    sheet_short few sound =
        let all = whole due s sound in
        let lines = lines_place due s bytes (due.nodes - due.inputs) (end_at s 0) in
        let luts = luts_place due s bytes (count_at due s) due.inputs (the_lines due s).next in
        omega (
          arith,
          all.ended,
          (head_numbers due s all.head).1,
          lines,
          ap (fault_or (the_lines due s).next) all.lines,
          luts,
          ap (fault_or (the_luts due s).next) all.luts,
          field_short due s bytes 0 (head_kept due s all.head).begun,
        )
