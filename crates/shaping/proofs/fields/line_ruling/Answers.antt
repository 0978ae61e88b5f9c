-- `line_ruling` meets its contract: the frame's ruling, then length, then range.
use Rattle.std.proofs.lemmas.Result.{err_from_is_err_and}
use Rattle.sheet.specs.paper.Shape.{line_ruling, line_length_wrong, line_range, line_at}
use Rattle.shaping.specs.Terms.{due_of}
use Rattle.shaping.proofs.Rulings.{frame_faulty, frame_sound, value_wrong, value_far, value_sound}
use Rattle.shaping.proofs.fields.line_ruling.Goals as goal

pub returns-in_err-frame : goal.returns-in_err-frame
unfolding line_ruling
returns-in_err-frame c =
    let s = c.args.sheet.now in
    let due = due_of c.args.terms in
    let at = c.args.at in
    let p = err_from_is_err_and c.from_residual.result c.from_residual.ensures.1 in
    rw (p.1, p.2)
    (frame_faulty s at due.form.line (line_length_wrong due s at) (line_range due (line_at due s at))
    c.frame.ensures c.in_err-frame.was)

pub returns-then-not-line_uses : goal.returns-then-not-line_uses
unfolding line_ruling
returns-then-not-line_uses c =
    let s = c.args.sheet.now in
    let due = due_of c.args.terms in
    let at = c.args.at in
    frame_sound s at due.form.line (line_length_wrong due s at) (line_range due (line_at due s at))
    c.frame.ensures c.in_ok-frame.was
    (value_wrong at (line_length_wrong due s at) (line_range due (line_at due s at)) c.line_uses.ensures
    c.if-not-line_uses.true)

pub returns-then-not-line_in_range : goal.returns-then-not-line_in_range
unfolding line_ruling
returns-then-not-line_in_range c =
    let s = c.args.sheet.now in
    let due = due_of c.args.terms in
    let at = c.args.at in
    frame_sound s at due.form.line (line_length_wrong due s at) (line_range due (line_at due s at))
    c.frame.ensures c.in_ok-frame.was
    (value_far at (line_length_wrong due s at) (line_range due (line_at due s at)) c.line_uses.ensures
    c.line_in_range.ensures
    c.if-not-line_uses.false
    c.if-not-line_in_range.true)

pub returns : goal.returns
unfolding line_ruling
returns c =
    let s = c.args.sheet.now in
    let due = due_of c.args.terms in
    let at = c.args.at in
    frame_sound s at due.form.line (line_length_wrong due s at) (line_range due (line_at due s at))
    c.frame.ensures c.in_ok-frame.was
    (value_sound at (line_length_wrong due s at) (line_range due (line_at due s at))
    c.line_uses.ensures c.line_in_range.ensures
    c.if-not-line_uses.false
    c.if-not-line_in_range.false)
