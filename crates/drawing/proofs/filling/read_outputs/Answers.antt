-- `read_outputs` meets its contract: reading from here gives what reading from the start gives.
use native.Mathlib.Omega.{arith}
use Prim.Native.Nat.{◌-◌}
use mathlib.Core.Path.{sym, ◌∙◌}
use lib.ListN.{length}
use borrow.Author.Tests.{ne_eqb}
use Rattle.std.proofs.lemmas.Result.{err_from_is_err_and}
use Rattle.drawing.specs.paper.Limits.{most_outputs}
use Rattle.drawing.proofs.SoundFields.{output_sound}
use Rattle.drawing.proofs.Filled.{outputs_stop, outputs_all, outputs_turn}
use Rattle.drawing.proofs.filling.read_outputs.Goals as goal

-- src/filling.rt:144:13
pub returns-in_err-output_ruling : goal.returns-in_err-output_ruling
returns-in_err-output_ruling c =
    let a = c.args in
    let l = c.loop-at in
    let begun = ne_eqb a.start (length a.s.now) c.if-start-s.false in
    let stop = outputs_stop a.form a.s.now a.nodes a.start a.outputs.now l.outputs l.at
    l.i l.invariant (omega arith)
    (sym c.output_ruling.ensures ∙ c.in_err-output_ruling.was) in
    let p = err_from_is_err_and c.from_residual.result c.from_residual.ensures.1 in
    rw (p.1, p.2) record { reply = rw begun stop.0; outputs = rw begun stop.1 }

-- src/filling.rt:146:22
pub small_at-requires-clause-width_in_bounds : goal.small_at-requires-clause-width_in_bounds
small_at-requires-clause-width_in_bounds c =
    let a = c.args in
    let l = c.loop-at in
    let sound = output_sound a.form a.s.now l.at (most_outputs - l.i) a.nodes l.invariant.inside
    (sym c.output_ruling.ensures ∙ c.in_ok-output_ruling.was) in
    omega arith

-- src/filling.rt:146:9
pub bounds-outputs-i : goal.bounds-outputs-i
bounds-outputs-i c =
    let a = c.args in
    let l = c.loop-at in
    let sound = output_sound a.form a.s.now l.at (most_outputs - l.i) a.nodes l.invariant.inside
    (sym c.output_ruling.ensures ∙ c.in_ok-output_ruling.was) in
    omega arith

-- src/filling.rt:141:5
pub loop-at-preserved : goal.loop-at-preserved
loop-at-preserved c =
    let a = c.args in
    let l = c.loop-at in
    rw c.small_at.ensures.number
    (outputs_turn a.form a.s.now a.nodes a.start a.outputs.now l.outputs l.at l.i
    l.invariant (omega arith) (sym c.output_ruling.ensures ∙ c.in_ok-output_ruling.was))

-- src/filling.rt:129:1
pub returns : goal.returns
returns c =
    let a = c.args in
    let l = c.loop-at in
    let begun = ne_eqb a.start (length a.s.now) c.if-start-s.false in
    let all = outputs_all a.form a.s.now a.nodes a.start a.outputs.now l.outputs l.at
    l.i l.invariant (omega arith) in
    record { reply = rw begun all.0; outputs = rw begun all.1 }
