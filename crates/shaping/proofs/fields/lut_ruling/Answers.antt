-- `lut_ruling` meets its contract: the frame's ruling, then length, then range.
use Rattle.std.proofs.lemmas.Result.{err_from_is_err_and}
use Rattle.sheet.specs.paper.Shape.{lut_ruling, lut_length_wrong, lut_range, lut_at}
use Rattle.shaping.specs.Terms.{due_of}
use Rattle.shaping.proofs.Rulings.{frame_faulty, frame_sound, value_wrong, value_far, value_sound}
use Rattle.shaping.proofs.fields.lut_ruling.Goals as goal

pub returns-in_err-frame : goal.returns-in_err-frame
unfolding lut_ruling
returns-in_err-frame c =
    let s = c.args.sheet.now in
    let due = due_of c.args.terms in
    let at = c.args.at in
    let p = err_from_is_err_and c.from_residual.result c.from_residual.ensures.1 in
    rw (p.1, p.2)
    (frame_faulty s at due.form.lut (lut_length_wrong due s at)
    (lut_range due c.args.least (lut_at due s at)) c.frame.ensures c.in_err-frame.was)

pub returns-then-not-lut_uses : goal.returns-then-not-lut_uses
unfolding lut_ruling
returns-then-not-lut_uses c =
    let s = c.args.sheet.now in
    let due = due_of c.args.terms in
    let at = c.args.at in
    frame_sound s at due.form.lut (lut_length_wrong due s at) (lut_range due c.args.least (lut_at due s at))
    c.frame.ensures c.in_ok-frame.was
    (value_wrong at (lut_length_wrong due s at) (lut_range due c.args.least (lut_at due s at))
    c.lut_uses.ensures c.if-not-lut_uses.true)

pub returns-then-not-lut_in_range : goal.returns-then-not-lut_in_range
unfolding lut_ruling
returns-then-not-lut_in_range c =
    let s = c.args.sheet.now in
    let due = due_of c.args.terms in
    let at = c.args.at in
    frame_sound s at due.form.lut (lut_length_wrong due s at) (lut_range due c.args.least (lut_at due s at))
    c.frame.ensures c.in_ok-frame.was
    (value_far at (lut_length_wrong due s at) (lut_range due c.args.least (lut_at due s at))
    c.lut_uses.ensures c.lut_in_range.ensures
    c.if-not-lut_uses.false
    c.if-not-lut_in_range.true)

pub returns : goal.returns
unfolding lut_ruling
returns c =
    let s = c.args.sheet.now in
    let due = due_of c.args.terms in
    let at = c.args.at in
    frame_sound s at due.form.lut (lut_length_wrong due s at) (lut_range due c.args.least (lut_at due s at))
    c.frame.ensures c.in_ok-frame.was
    (value_sound at (lut_length_wrong due s at) (lut_range due c.args.least (lut_at due s at))
    c.lut_uses.ensures c.lut_in_range.ensures
    c.if-not-lut_uses.false
    c.if-not-lut_in_range.false)
