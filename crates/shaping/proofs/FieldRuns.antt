-- Runs of fields, one field at a time: the ruling to come, and what each turn of pass one leaves of it.
use Rattle.std.specs.Prelude.{Option, None, Some, Result, Ok, Err}
use Prim.Native.Nat.{ℕ, ◌+◌, ◌-◌, ◌<◌, ◌≤◌}
use native.Mathlib.Omega.{arith}
use mathlib.Core.Path.{◌≡◌, refl, ap, sym, subst, ◌∙◌}
use mathlib.Core.List.{List}
use borrow.Author.Tests.{lt-ltb, le-ltb, eqb-true, not-false}
use lib.ListN.{length}
use lib.Dec.{eqb}
use Rattle.drawing.specs.paper.Limits.{rows_size}
use Rattle.drawing.specs.paper.Bytes.{length_at, value_at}
use Rattle.drawing.specs.Bytes.{SmallAt}
use Rattle.drawing.proofs.Ids.{from_one}
use Rattle.sheet.specs.declared.Fault.{Fault}
use Rattle.sheet.specs.declared.Fault.TheVariants.{Extra}
use Rattle.sheet.specs.paper.Limits.{version_size, depth_place}
use Rattle.sheet.specs.paper.Sheet.{Line, Lut}
use Rattle.sheet.specs.paper.Shape.{Ruling, Due, end_at, count_at, head_ruling, line_at, line_ruling, line_length_wrong, line_range, lut_at}
use Rattle.sheet.specs.paper.Shape.{lut_ruling, lut_length_wrong, lut_range, leaves_end, lut_cut, Fields, and_field, lines_from}
use Rattle.sheet.specs.paper.Shape.{luts_from, after_head, after_lines, after_luts, reading}
use Rattle.shaping.specs.declared.runs.Left.{Left}
use Rattle.shaping.specs.Fields.{head_length_wrong, head_out_of_range}
use Rattle.shaping.specs.Runs.{then, extra_ruling, left_ruling, due_ruling, turns_left, GoesOn, Turned, FieldJudged}
use Rattle.shaping.proofs.Rulings.{Kept, field_kept, field_inside}
use Rattle.shaping.proofs.Values.{lut_parts}

abbrev left_of : (lines luts least : ℕ) → Left
left_of lines luts least = record { lines = lines; luts = luts; least = least }

-- what a sound field keeps
module _ (due : Due) (s : List ℕ) where
  pub head_kept : head_ruling due s ≡ Ok tt → Kept s 0 due.form.head (head_length_wrong due s) (head_out_of_range due s)
  unfolding head_ruling
  head_kept sound = field_kept s 0 due.form.head sound

  pub line_kept : (at : ℕ) → line_ruling due s at ≡ Ok tt → Kept s at due.form.line (line_length_wrong due s at) (line_range due (line_at due s at))
  unfolding line_ruling
  line_kept at sound = field_kept s at due.form.line sound

  pub lut_kept : (least at : ℕ) → lut_ruling due s least at ≡ Ok tt →
      Kept s at due.form.lut (lut_length_wrong due s at) (lut_range due least (lut_at due s at))
  unfolding lut_ruling
  lut_kept least at sound = field_kept s at due.form.lut sound

  pub head_size : head_ruling due s ≡ Ok tt → length_at s 0 ≡ version_size + due.form.width + due.form.width
  head_size sound =
      let w = due.form.width in
      eqb-true (length_at s 0) (version_size + w + w) (not-false (eqb (length_at s 0) (version_size + w + w)) (head_kept sound).right)

  pub head_inside : head_ruling due s ≡ Ok tt → depth_place + due.form.width + due.form.width ≤ length s
  head_inside sound = omega (arith, head_size sound, field_inside s 0 due.form.head (head_kept sound))

  pub head_end : head_ruling due s ≡ Ok tt → end_at s 0 ≤ length s
  head_end sound = field_inside s 0 due.form.head (head_kept sound)

  pub line_end : (at : ℕ) → line_ruling due s at ≡ Ok tt → end_at s at ≤ length s
  line_end at sound = field_inside s at due.form.line (line_kept at sound)

  pub lut_end : (least at : ℕ) → lut_ruling due s least at ≡ Ok tt → end_at s at ≤ length s
  lut_end least at sound = field_inside s at due.form.lut (lut_kept least at sound)

  -- the whole LUT, from the root on
  pub lut_whole : (least at : ℕ) → lut_ruling due s least at ≡ Ok tt → leaves_end due s (lut_cut due s at) + rows_size ≤ length s
  lut_whole least at sound = omega (arith, lut_parts due s at (lut_kept least at sound).right, lut_end least at sound)

  -- lines
  module _ (left at : ℕ) where
    lines_step : 0 < left → lines_from due s left at ≡ and_field (line_ruling due s at) (line_at due s at) at (lines_from due s (left - 1) (end_at s at))
    unfolding lines_from
    lines_step some = ap (λ (n : ℕ). lines_from due s n at) (from_one left some)

    -- a line of which the ruling is known, and the lines behind it
    pub lines_ruled : 0 < left → {r : Ruling} → line_ruling due s at ≡ r →
        lines_from due s left at ≡ and_field r (line_at due s at) at (lines_from due s (left - 1) (end_at s at))
    lines_ruled some e =
        lines_step some ∙ ap (λ (r : Ruling). and_field r (line_at due s at) at (lines_from due s (left - 1) (end_at s at))) e

  -- LUTs
  module _ (left least at : ℕ) where
    pub luts_step : 0 < left → luts_from due s left least at
        ≡ and_field (lut_ruling due s least at) (lut_at due s at) at (luts_from due s (left - 1) ((lut_at due s at).root + 1) (end_at s at))
    unfolding luts_from
    luts_step some = ap (λ (n : ℕ). luts_from due s n least at) (from_one left some)

    pub luts_ruled : 0 < left → {r : Ruling} → lut_ruling due s least at ≡ r →
        luts_from due s left least at ≡ and_field r (lut_at due s at) at (luts_from due s (left - 1) ((lut_at due s at).root + 1) (end_at s at))
    luts_ruled some e =
        luts_step some
        ∙ ap (λ (r : Ruling). and_field r (lut_at due s at) at (luts_from due s (left - 1) ((lut_at due s at).root + 1) (end_at s at))) e

  -- the ruling on what is left, one field at a time
  abbrev after_last : Fields Lut → Ruling
  after_last luts = then luts.ruling (extra_ruling s luts.next)

  module _ (lines luts least at : ℕ) where
    abbrev behind : Fields Line → Ruling
    behind ls = then ls.ruling (after_last (luts_from due s luts least ls.next))

    left_line_stop : 0 < lines → {f : Fault} → line_ruling due s at ≡ Err f → left_ruling due s lines luts least at ≡ Err f
    unfolding left_ruling
    left_line_stop some e = ap behind (lines_ruled lines at some e)

    left_line_next : 0 < lines → line_ruling due s at ≡ Ok tt → left_ruling due s lines luts least at ≡ left_ruling due s (lines - 1) luts least (end_at s at)
    unfolding left_ruling
    left_line_next some e = ap behind (lines_ruled lines at some e)

    module _ (none : lines ≤ 0) where
      left_luts : left_ruling due s lines luts least at ≡ after_last (luts_from due s luts least at)
      unfolding left_ruling lines_from
      left_luts = let z : lines ≡ 0 = omega (arith, none) in ap (λ (n : ℕ). behind (lines_from due s n at)) z

      left_lut_stop : 0 < luts → {f : Fault} → lut_ruling due s least at ≡ Err f → left_ruling due s lines luts least at ≡ Err f
      left_lut_stop some e = left_luts ∙ ap after_last (luts_ruled luts least at some e)

      left_extra : luts ≤ 0 → left_ruling due s lines luts least at ≡ extra_ruling s at
      unfolding luts_from
      left_extra few = let z : luts ≡ 0 = omega (arith, few) in left_luts ∙ ap (λ (n : ℕ). after_last (luts_from due s n least at)) z

  left_lut_next : (lines luts least at : ℕ) → lines ≤ 0 → 0 < luts → lut_ruling due s least at ≡ Ok tt →
      left_ruling due s lines luts least at ≡ left_ruling due s lines (luts - 1) ((lut_at due s at).root + 1) (end_at s at)
  left_lut_next lines luts least at none some e =
      left_luts lines luts least at none
      ∙ ap after_last (luts_ruled luts least at some e)
      ∙ sym (left_luts lines (luts - 1) ((lut_at due s at).root + 1) (end_at s at) none)

  -- the ruling on a sheet is that on its head, then on what follows
  after_luts_lem : (r : Ruling) (lines : Fields Line) (luts : Fields Lut) → (after_luts due s r lines luts).ruling ≡ then r (extra_ruling s luts.next)
  after_luts_lem (Ok tt) lines luts = refl
  after_luts_lem (Err f) lines luts = refl

  after_lines_lem : (r : Ruling) (lines : Fields Line) →
      (after_lines due s r lines).ruling ≡ then r (after_last (luts_from due s (count_at due s) due.inputs lines.next))
  after_lines_lem (Ok tt) lines =
      after_luts_lem (luts_from due s (count_at due s) due.inputs lines.next).ruling lines (luts_from due s (count_at due s) due.inputs lines.next)
  after_lines_lem (Err f) lines = refl

  after_head_lem : (r : Ruling) → (after_head due s r).ruling ≡ then r (left_ruling due s (due.nodes - due.inputs) (count_at due s) due.inputs (end_at s 0))
  unfolding left_ruling
  after_head_lem (Ok tt) =
      after_lines_lem (lines_from due s (due.nodes - due.inputs) (end_at s 0)).ruling (lines_from due s (due.nodes - due.inputs) (end_at s 0))
  after_head_lem (Err f) = refl

  -- the head's ruling, and what follows it
  head_ruled : {r : Ruling} → head_ruling due s ≡ r →
      (reading due s).ruling ≡ then r (left_ruling due s (due.nodes - due.inputs) (count_at due s) due.inputs (end_at s 0))
  unfolding reading
  head_ruled e =
      after_head_lem (head_ruling due s)
      ∙ ap (λ (r : Ruling). then r (left_ruling due s (due.nodes - due.inputs) (count_at due s) due.inputs (end_at s 0))) e

-- an answer is no other answer
err_not_ok : {A : Type 0} {f : Fault} {a : A} → Err f ≡ Ok a → ⊥
err_not_ok e = let z : ◌≡◌ {A = ℕ} 0 1 = cc in omega arith

none_not_some : {left : Left} → ◌≡◌ {A = Result (Option Left) Fault} (Ok None) (Ok (Some left)) → ⊥
none_not_some e = let z : ◌≡◌ {A = ℕ} 0 1 = cc in omega arith

ok_same : {left next : Left} → ◌≡◌ {A = Result Left Fault} (Ok left) (Ok next) → left ≡ next
ok_same e = cc

-- a turn that finds a fault, and one behind which more is due
module _ (due : Due) (s : List ℕ) (at : ℕ) (left : Left) where
  turn_ended : {f : Fault} → due_ruling due s at left ≡ Err f → Turned due s at left (Err f)
  turn_ended e =
      record {
        goes_on = record { same = e; inside = λ o. absurd (err_not_ok o) };
        less = λ o. absurd (err_not_ok o);
      }

  turn_on : (next : Left) → due_ruling due s at left ≡ due_ruling due s (end_at s at) next →
      end_at s at ≤ length s → turns_left next < turns_left left → Turned due s at left (Ok next)
  turn_on next e inside fewer =
      record {
        goes_on = record { same = e; inside = λ o. inside };
        less = λ {next = n} o. subst (λ (l : Left). turns_left l < turns_left left) (ok_same o) fewer;
      }

  field_ended : {f : Fault} → due_ruling due s at left ≡ Err f → FieldJudged due s at left (Err f)
  field_ended e = record { same = e; inside = λ o. absurd (err_not_ok o); less = λ o. absurd (err_not_ok o) }

module _ (due : Due) (s : List ℕ) where
  -- the head's turn
  module _ {r : Ruling} (ruled : r ≡ head_ruling due s) where
    pub head_stop : {f : Fault} → r ≡ Err f → GoesOn due s 0 (reading due s).ruling (Err f)
    head_stop e = record { same = head_ruled due s (sym ruled ∙ e); inside = λ o. absurd (err_not_ok o) }

    pub head_next : r ≡ Ok tt → {luts : ℕ} → SmallAt s (depth_place + due.form.width) due.form.width luts →
        GoesOn due s 0 (reading due s).ruling (Ok (left_of (due.nodes - due.inputs) luts due.inputs))
    head_next e {luts} counted =
        record {
          same =
              head_ruled due s (sym ruled ∙ e)
              ∙ ap (λ (n : ℕ). left_ruling due s (due.nodes - due.inputs) n due.inputs (end_at s 0)) (sym counted.number);
          inside = λ o. head_end due s (sym ruled ∙ e);
        }

  -- a line's turn
  module _ (at : ℕ) (left : Left) (some : 0 < left.lines) {r : Ruling} (ruled : r ≡ line_ruling due s at) where
    pub line_stop : {f : Fault} → r ≡ Err f → Turned due s at left (Err f)
    line_stop e = turn_ended due s at left (left_line_stop due s left.lines left.luts left.least at some (sym ruled ∙ e))

    pub line_next : r ≡ Ok tt → Turned due s at left (Ok (left_of (left.lines - 1) left.luts left.least))
    line_next e =
        turn_on due s at left (left_of (left.lines - 1) left.luts left.least)
        (left_line_next due s left.lines left.luts left.least at some (sym ruled ∙ e))
        (line_end due s at (sym ruled ∙ e))
        (omega (arith, some))

  -- a LUT's turn
  module _ (at : ℕ) (left : Left) (none : left.lines ≤ 0) (some : 0 < left.luts) {r : Ruling} (ruled : r ≡ lut_ruling due s left.least at) where
    pub lut_stop : {f : Fault} → r ≡ Err f → Turned due s at left (Err f)
    lut_stop e = turn_ended due s at left (left_lut_stop due s left.lines left.luts left.least at none some (sym ruled ∙ e))

    pub lut_next : r ≡ Ok tt → {root : ℕ} → SmallAt s (value_at at) due.form.width root →
        Turned due s at left (Ok (left_of left.lines (left.luts - 1) (root + 1)))
    lut_next e {root} rooted =
        turn_on due s at left (left_of left.lines (left.luts - 1) (root + 1))
        (left_lut_next due s left.lines left.luts left.least at none some (sym ruled ∙ e)
        ∙ ap (λ (n : ℕ). left_ruling due s left.lines (left.luts - 1) (n + 1) (end_at s at)) (sym rooted.number))
        (lut_end due s left.least at (sym ruled ∙ e))
        (omega (arith, some))

  -- the turn behind the last LUT
  module _ (at : ℕ) (left : Left) (none : left.lines ≤ 0) (last : left.luts ≤ 0) where
    pub extra_stop : at < length s → FieldJudged due s at left (Err (Extra at))
    extra_stop more =
        field_ended due s at left (left_extra due s left.lines left.luts left.least at none last ∙ rw (lt-ltb at (length s) more))

    pub extra_none : length s ≤ at → FieldJudged due s at left (Ok None)
    extra_none done =
        record {
          same = left_extra due s left.lines left.luts left.least at none last ∙ rw (le-ltb at (length s) done);
          inside = λ o. absurd (none_not_some o);
          less = λ o. absurd (none_not_some o);
        }
