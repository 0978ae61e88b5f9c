-- The tests on a field's value, one after the other as the code makes them: a line's, and where a LUT's table stands.
use Prim.Native.Nat.{ℕ, ◌+◌, ◌*◌, ◌≤◌}
use native.Mathlib.Omega.{arith}
use mathlib.Core.Path.{◌≡◌, refl, ap, sym, ◌∙◌}
use mathlib.Core.Bool.{Bool, true, false, not, ◌||◌}
use mathlib.Core.List.{List}
use borrow.Author.Tests.{le-ltb, ltb-false, eqb-true, not-true, not-false}
use lib.ListN.{length}
use lib.Dec.{ltb, eqb}
use Rattle.drawing.specs.paper.Bytes.{number_at}
use Rattle.drawing.specs.Bytes.{SmallAt}
use Rattle.sheet.specs.paper.Shape.{Due, end_at, paths_use, leaves_range, leaves_at, leaves_end, line_cut}
use Rattle.sheet.specs.paper.Shape.{line_paths, line_at, line_range, line_length_wrong, lut_cut}
use Rattle.sheet.specs.paper.Shape.{lut_length_wrong}
use Rattle.shaping.specs.Numbers.{paths_end}
use Rattle.shaping.proofs.PathLists.{paths_length, used_to, out_of_range}

pub or_none : (a b : Bool) → (a || b) ≡ false → (a ≡ false) × (b ≡ false)
or_none true b e = absurd (let z : ◌≡◌ {A = ℕ} 0 1 = cc in omega arith)
or_none false b e = (refl, e)

module _ (due : Due) (s : List ℕ) (at : ℕ) where
  -- where the parts of a line of right length stand
  pub record LineParts : Type 0 where
    pub cut : line_cut due s at + 1 ≤ end_at s at
    pub paths : line_paths due s at + 1 ≤ end_at s at
    pub used : paths_end s (line_paths due s at + 1) due.form.width (number_at s (line_paths due s at) 1) ≡ end_at s at

  pub line_parts : line_length_wrong due s at ≡ false → LineParts
  line_parts right =
      let end = end_at s at in
      let q = number_at s (line_paths due s at) 1 in
      let uses = paths_use s (line_paths due s at + 1) due.form.width q end in
      let more = or_none (ltb end (line_cut due s at + 1)) (ltb end (line_paths due s at + 1) || not uses) right in
      let most = or_none (ltb end (line_paths due s at + 1)) (not uses) more.1 in
      record {
        cut = ltb-false end (line_cut due s at + 1) more.0;
        paths = ltb-false end (line_paths due s at + 1) most.0;
        used = used_to s due.form.width (line_paths due s at + 1) q end (not-false uses most.1);
      }

  module _ {c : ℕ} (cut : SmallAt s (at + 3 + due.form.width) 1 c) where
    q_at : at + 3 + due.form.width + 1 + c * due.form.width ≡ line_paths due s at
    q_at = omega (arith, ap (λ (n : ℕ). n * due.form.width) cut.number)

    module _ {q : ℕ} (counted : SmallAt s (at + 3 + due.form.width + 1 + c * due.form.width) 1 q) where
      same_q : q ≡ number_at s (line_paths due s at) 1
      same_q = counted.number ∙ ap (λ (n : ℕ). number_at s n 1) q_at

      pub paths_end_lem : LineParts → paths_end s (at + 3 + due.form.width + 1 + c * due.form.width + 1) due.form.width q ≡ end_at s at
      paths_end_lem parts = (λ i. paths_end s (q_at i + 1) due.form.width (same_q i)) ∙ parts.used

      pub same_range : (nodes : ℕ) →
          out_of_range s due.form.width nodes (at + 3 + due.form.width + 1 + c * due.form.width + 1) q
          ≡ out_of_range s due.form.width nodes (line_paths due s at + 1) (number_at s (line_paths due s at) 1)
      same_range nodes i = out_of_range s due.form.width nodes (q_at i + 1) (same_q i)

      path_count : length (line_at due s at).paths ≡ q
      path_count = paths_length s due.form.width (line_paths due s at + 1) (number_at s (line_paths due s at) 1) ∙ sym same_q

  -- a line: its range
  module _ {label : ℕ} (labelled : SmallAt s (at + 3) due.form.width label) where
    module _ (some : 1 ≤ label) (few : label ≤ due.most) {good : Bool}
        (told : good ≡ not (leaves_range due (leaves_at due s (at + 3 + due.form.width)))) where
      module _ {c : ℕ} (cut : SmallAt s (at + 3 + due.form.width) 1 c) {q : ℕ}
          (counted : SmallAt s (at + 3 + due.form.width + 1 + c * due.form.width) 1 q) {right : Bool}
          (tested : right ≡ (eqb q 0 || eqb q (due.k + 1))) (fine : good ≡ true) where
        number_tested : (eqb (length (line_at due s at).paths) 0 || eqb (length (line_at due s at).paths) (due.k + 1)) ≡ right
        number_tested = ap (λ (n : ℕ). eqb n 0 || eqb n (due.k + 1)) (path_count cut counted) ∙ sym tested

        pub line_count : right ≡ false → false ≡ not (line_range due (line_at due s at))
        line_count wrong =
            rw (
              le-ltb (line_at due s at).label 1 (omega (arith, labelled.number)),
              le-ltb due.most (line_at due s at).label (omega (arith, labelled.number)),
              not-true (leaves_range due (line_at due s at).leaves) (sym told ∙ fine),
              number_tested ∙ wrong,
            )

        pub line_told : right ≡ true → {last : Bool} →
            last ≡ not (out_of_range s due.form.width due.nodes (at + 3 + due.form.width + 1 + c * due.form.width + 1) q) →
            last ≡ not (line_range due (line_at due s at))
        line_told proper last =
            rw (
              le-ltb (line_at due s at).label 1 (omega (arith, labelled.number)),
              le-ltb due.most (line_at due s at).label (omega (arith, labelled.number)),
              not-true (leaves_range due (line_at due s at).leaves) (sym told ∙ fine),
              number_tested ∙ proper,
            )
            (last ∙ ap not (same_range cut counted due.nodes))

  -- where the table of a LUT of right length stands
  pub lut_parts : lut_length_wrong due s at ≡ false → leaves_end due s (lut_cut due s at) + 8 ≡ end_at s at
  lut_parts right =
      let end = end_at s at in
      let same = eqb (leaves_end due s (lut_cut due s at) + 8) end in
      eqb-true (leaves_end due s (lut_cut due s at) + 8) end (not-false same (or_none (ltb end (lut_cut due s at + 1)) (not same) right).1)
