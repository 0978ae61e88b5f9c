-- `head_ruling` meets its contract: the frame's ruling, then length, then range.
use Prim.Native.Nat.{◌+◌}
use mathlib.Core.Path.{sym, ◌∙◌}
use native.Mathlib.Omega.{arith}
use borrow.Author.Tests.{eq-eqb, ne_eqb, not-true, not-false}
use Rattle.drawing.specs.paper.Bytes.{length_at}
use Rattle.std.proofs.lemmas.Result.{err_from_is_err_and}
use Rattle.sheet.specs.paper.Shape.{head_ruling}
use Rattle.shaping.specs.Terms.{due_of}
use Rattle.shaping.specs.Fields.{head_length_wrong, head_out_of_range}
use Rattle.shaping.proofs.Rulings.{frame_faulty, frame_sound}
use Rattle.shaping.proofs.fields.head_ruling.Goals as goal

pub returns-in_err-frame : goal.returns-in_err-frame
unfolding head_ruling
returns-in_err-frame c =
    let s = c.args.sheet.now in
    let due = due_of c.args.terms in
    let p = err_from_is_err_and c.from_residual.result c.from_residual.ensures.1 in
    rw (p.1, p.2)
    (frame_faulty s 0 due.form.head (head_length_wrong due s) (head_out_of_range due s) c.frame.ensures
    c.in_err-frame.was)

pub returns-then-length_at-width : goal.returns-then-length_at-width
unfolding head_ruling
returns-then-length_at-width c =
    let s = c.args.sheet.now in
    let due = due_of c.args.terms in
    let w = due.form.width in
    frame_sound s 0 due.form.head (head_length_wrong due s) (head_out_of_range due s) c.frame.ensures
    c.in_ok-frame.was (simp (ne_eqb (length_at s 0) (1 + w + w) (omega arith)))

pub returns-then-not-head_in_range : goal.returns-then-not-head_in_range
unfolding head_ruling
returns-then-not-head_in_range c =
    let s = c.args.sheet.now in
    let due = due_of c.args.terms in
    let w = due.form.width in
    frame_sound s 0 due.form.head (head_length_wrong due s) (head_out_of_range due s) c.frame.ensures
    c.in_ok-frame.was
    (rw (
      eq-eqb (length_at s 0) (1 + w + w) (omega arith),
      not-false (head_out_of_range due s)
          (sym c.head_in_range.ensures ∙ c.if-not-head_in_range.true),
    ))

pub returns : goal.returns
unfolding head_ruling
returns c =
    let s = c.args.sheet.now in
    let due = due_of c.args.terms in
    let w = due.form.width in
    frame_sound s 0 due.form.head (head_length_wrong due s) (head_out_of_range due s) c.frame.ensures
    c.in_ok-frame.was
    (rw (
      eq-eqb (length_at s 0) (1 + w + w) (omega arith),
      not-true (head_out_of_range due s)
          (sym c.head_in_range.ensures ∙ c.if-not-head_in_range.false),
    ))
