-- `gate_ruling` meets its contract: the frame's ruling, and where that is sound the value's.
use mathlib.Core.Bool.{false}
use Rattle.drawing.specs.paper.Fields.{frame_rules, gate_rules, gate_verdict}
use Rattle.std.proofs.lemmas.Result.{err_from_is_err_and}
use Rattle.drawing.proofs.Verdicts.{refused_first, sound_first}
use Rattle.drawing.proofs.fields.gate_ruling.Goals as goal

-- src/fields.rt:131:1
pub returns-in_err-frame : goal.returns-in_err-frame
unfolding gate_verdict
returns-in_err-frame c =
    let a = c.args in
    let s = a.s.now in
    let p = err_from_is_err_and c.from_residual.result c.from_residual.ensures.1 in
    rw (p.1, p.2)
    (refused_first (frame_rules s a.at a.form.gate false)
    (gate_rules a.form s a.at a.numbers.k.leaves a.numbers.nodes) tt c.frame.ensures
    c.in_err-frame.was)

-- src/fields.rt:131:1
pub returns : goal.returns
unfolding gate_verdict
returns c =
    let a = c.args in
    let s = a.s.now in
    sound_first (frame_rules s a.at a.form.gate false)
    (gate_rules a.form s a.at a.numbers.k.leaves a.numbers.nodes) tt c.frame.ensures
    c.in_ok-frame.was c.gate_value.ensures
