-- `output_ruling` meets its contract: the frame's ruling, and where that is sound the value's.
use lib.Dec.{eqb}
use Rattle.drawing.specs.paper.Fields.{frame_rules, output_rules, output_verdict}
use Rattle.std.proofs.lemmas.Result.{err_from_is_err_and}
use Rattle.drawing.proofs.Verdicts.{refused_first, sound_first}
use Rattle.drawing.proofs.fields.output_ruling.Goals as goal

-- src/fields.rt:160:1
pub returns-in_err-frame : goal.returns-in_err-frame
unfolding output_verdict
returns-in_err-frame c =
    let a = c.args in
    let s = a.s.now in
    let p = err_from_is_err_and c.from_residual.result c.from_residual.ensures.1 in
    rw (p.1, p.2)
    (refused_first (frame_rules s a.at a.form.output (eqb a.room 0))
    (output_rules a.form s a.at a.nodes) tt c.frame.ensures c.in_err-frame.was)

-- src/fields.rt:160:1
pub returns : goal.returns
unfolding output_verdict
returns c =
    let a = c.args in
    let s = a.s.now in
    sound_first (frame_rules s a.at a.form.output (eqb a.room 0))
    (output_rules a.form s a.at a.nodes) tt c.frame.ensures c.in_ok-frame.was
    c.output_value.ensures
