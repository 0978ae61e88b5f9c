-- `read_gates` meets its contract: reading from here gives what reading from the start gives.
use native.Mathlib.Omega.{arith}
use mathlib.Core.Path.{ap, sym, ◌∙◌}
use Rattle.std.proofs.lemmas.Result.{err_from_is_err_and}
use Rattle.drawing.specs.Reading.{lines_of}
use Rattle.drawing.specs.Filling.{GatesDone, end_of}
use Rattle.drawing.proofs.Filled.{gates_none, gates_stop, gates_turn, not_ended, same_end}
use Rattle.drawing.proofs.filling.read_gates.Goals as goal

pub returns-in_err-at : goal.returns-in_err-at
returns-in_err-at c =
    let a = c.args in
    let l = c.loop-v in
    let stop = l.invariant.same
    ∙ gates_stop a.form a.s.now a.numbers.k.leaves a.numbers.nodes (lines_of l.fanins l.rows)
    l.v l.at c.read_gate.ensures (omega arith) c.in_err-at.was in
    let p = err_from_is_err_and c.from_residual.result c.from_residual.ensures.1 in
    rw (p.1, p.2)
    record {
      reply = sym (ap (λ (d : GatesDone). end_of d.verdict d.next) stop);
      lines = sym (ap (λ (d : GatesDone). d.lines) stop);
      inside = λ next e. absurd (not_ended e);
    }

pub loop-v-preserved : goal.loop-v-preserved
loop-v-preserved c =
    let a = c.args in
    let l = c.loop-v in
    let turn = gates_turn a.form a.s.now a.numbers.k.leaves a.numbers.nodes
    (lines_of l.fanins l.rows) l.v l.at c.read_gate.ensures (omega arith)
    c.requires.formed l.invariant.inside c.in_ok-at.was in
    record { inside = turn.1; same = l.invariant.same ∙ turn.0 }

pub returns : goal.returns
returns c =
    let a = c.args in
    let l = c.loop-v in
    let all = l.invariant.same
    ∙ gates_none a.form a.s.now a.numbers.k.leaves a.numbers.nodes (lines_of l.fanins l.rows)
    l.v l.at (omega arith) in
    record {
      reply = sym (ap (λ (d : GatesDone). end_of d.verdict d.next) all);
      lines = sym (ap (λ (d : GatesDone). d.lines) all);
      inside = λ next e. omega (arith, same_end e);
    }
