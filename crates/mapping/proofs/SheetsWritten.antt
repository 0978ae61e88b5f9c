-- The head, the lines and the LUTs, one after the other, are the sheet; and the longest sheet's room is enough for each part.
use Prim.Native.Nat.{ℕ, zero, suc, ◌+◌, ◌*◌, ◌-◌, ◌≤◌, ◌<◌}
use native.Mathlib.Nat.{mul-le-mul_right, not-suc-le-zero}
use native.Mathlib.Omega.{arith}
use mathlib.Core.Path.{◌≡◌, refl, ap}
use mathlib.Core.List.{List, [], ◌∷◌, map, flat_map}
use lib.ListN.{length, get_or, length-map}
use borrow.Author.Tests.{eqb-true}
use Rattle.storage.specs.Drawings.{net_in}
use Rattle.storage.specs.Lists.{list_at}
use Rattle.storage.proofs.Entries.{member_at}
use Rattle.storage.proofs.InLists.{list_size}
use Rattle.flow.specs.Numbers.{those}
use Rattle.flow.proofs.Sums.{those_hold}
use Rattle.sheet.specs.declared.Form.{Form}
use Rattle.sheet.specs.paper.Sheet.{Lut}
use Rattle.sheet.specs.paper.Encoding.{head_field, line_field, lut_field, encode}
use Rattle.sheet.specs.Writing.{Room, Written}
use Rattle.sheet.specs.Longest.{line_most, lut_most, no_lut}
use Rattle.sheet.proofs.Lengths.{length_head, length_lut, flat_most}
use Rattle.sheet.proofs.Writes.{then, written_as, same_size}
use Rattle.sheet.proofs.Joins.{sheet_written}
use Rattle.packing.specs.declared.Mapping.{Mapping}
use Rattle.settling.specs.Arrays.{is_marked, lut_in, luts_below, sheet_in}
use Rattle.mapping.specs.Luts.{LutsAsked}
use Rattle.mapping.specs.Lines.{LinesAsked, LinesWritten}
use Rattle.mapping.specs.WholeSheets.{SheetAsked, SheetWritten}

lut_at_lem : (f : ℕ → Lut) (ids : List ℕ) (i : ℕ) → i < length ids → get_or (map f ids) i no_lut ≡ f (get_or ids i 0)
lut_at_lem f [] i low = absurd (not-suc-le-zero low)
lut_at_lem f (v ∷ ids) zero low = refl
lut_at_lem f (v ∷ ids) (suc i) low = lut_at_lem f ids i (omega arith)

module _ {form : Form} {inputs nodes k : ℕ} {fanins order labels cuts roles links luts tables : List ℕ} {made : Mapping} {sheet : List ℕ}
    (asked : SheetAsked form inputs nodes k fanins order labels cuts roles links luts tables made sheet) where
  width : ℕ
  width = form.width

  gates : ℕ
  gates = nodes - inputs

  all : List Lut
  all = luts_below cuts luts tables nodes

  head : List ℕ
  head = head_field form made.depth.depth made.luts

  head_size : length head ≡ 4 + width + width
  unfolding head width
  head_size = length_head form made.depth.depth made.luts

  -- a LUT's leaves are a cut's
  lut_few : (i : ℕ) → i < length all → length (lut_field form (get_or all i no_lut)) ≤ lut_most width k
  unfolding all luts_below width
  lut_few i inside =
      let ids = those (is_marked luts) nodes in
      let low : i < length ids = omega (arith, length-map ids (lut_in cuts tables)) in
      let v = get_or ids i 0 in
      let marked = those_hold (is_marked luts) nodes (member_at ids i low) in
      let one : get_or luts v 0 ≡ 1 = eqb-true (get_or luts v 0) 1 marked.1 in
      let is : get_or (map (lut_in cuts tables) ids) i no_lut ≡ lut_in cuts tables v = lut_at_lem (lut_in cuts tables) ids i low in
      let size = list_size cuts v (omega (arith, asked.arrays.labelled.cuts_long, marked.0)) (asked.arrays.labelled.six v marked.0) in
      let few : length (list_at cuts v) ≤ k = omega (arith, size, asked.few_leaves v marked.0 one) in
      omega (
        arith,
        ap (λ (l : Lut). length (lut_field form l)) is,
        length_lut form (lut_in cuts tables v),
        mul-le-mul_right form.width few,
      )

  luts_short : length (flat_map (lut_field form) all) ≤ gates * lut_most width k
  unfolding all gates
  luts_short =
      omega (arith, flat_most (lut_field form) no_lut (lut_most width k) all lut_few, mul-le-mul_right (lut_most width k) asked.few)

  whole : 4 + width + width + gates * line_most width k nodes + gates * lut_most width k ≤ length sheet
  unfolding width gates
  whole = asked.room

  pub head_room_lem : Room sheet 0 (head_field form made.depth.depth made.luts)
  unfolding head
  head_room_lem = omega (arith, whole, head_size)

  module _ {a : List ℕ} {i : ℕ} (first : Written sheet 0 (head_field form made.depth.depth made.luts) a i) where
    reached : i ≡ 4 + width + width
    unfolding head
    reached = omega (arith, first.reached, head_size)

    pub lines_asked : LinesAsked form inputs nodes k fanins order labels cuts roles links a i
    unfolding width gates
    lines_asked = record { arrays = asked.arrays; room = omega (arith, whole, reached, same_size first) }

    module _ {b : List ℕ} {j : ℕ} (second : LinesWritten form (net_in inputs nodes fanins) k labels cuts nodes a i b j) where
      line_count : inputs + length second.lines ≡ nodes
      unfolding net_in
      line_count = second.count

      lines_short : length (flat_map (line_field form) second.lines) ≤ gates * line_most width k nodes
      unfolding net_in gates width
      lines_short = omega (arith, second.short, ap (λ (n : ℕ). n * line_most form.width k nodes) same)
        where
          same : length second.lines ≡ nodes - inputs
          same = omega (arith, line_count)

      pub luts_asked : LutsAsked form nodes cuts luts tables b j
      unfolding all
      luts_asked =
          record {
            small = asked.arrays.drawing.small;
            lists = record { long = asked.arrays.labelled.cuts_long; six = asked.arrays.labelled.six };
            luts_long = asked.luts_long;
            tables_long = asked.tables_long;
            room = omega (arith, whole, reached, same_size first, same_size second.written, second.written.reached, lines_short, luts_short);
          }

      module _ {c : List ℕ} {r : ℕ} (third : Written b j (flat_map (lut_field form) (luts_below cuts luts tables nodes)) c r) where
        all_written : Written sheet 0 (encode form (sheet_in made.depth.depth second.lines cuts luts tables nodes)) c r
        all_written =
            sheet_written form (sheet_in made.depth.depth second.lines cuts luts tables nodes)
            (then (then (written_as (ap (head_field form made.depth.depth) asked.count) first) second.written) third)

        pub sheet_done : SheetWritten form inputs nodes k fanins labels cuts luts tables made sheet r c
        unfolding net_in
        sheet_done =
            record {
              lines = second.lines;
              gates = line_count;
              each = second.each;
              fits = omega (arith, all_written.reached, third.reached, luts_asked.room, same_size first, same_size second.written);
              written = all_written;
            }
