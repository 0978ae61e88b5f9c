-- `first_broken` meets its contract: the gates before t keep their rules.
use native.Mathlib.Omega.{arith}
use mathlib.Core.Path.{refl}
use Rattle.std.proofs.lemmas.Result.{err_from_is_err_and}
use Rattle.judging.proofs.Passes.{trying_starts, gate_asked, trying_more, trying_stops, trying_ends}
use Rattle.judging.proofs.first_broken.Goals as goal

pub loop-t-init : goal.loop-t-init
loop-t-init c =
    trying_starts c.requires

pub judge_gate-requires : goal.judge_gate-requires
judge_gate-requires c = gate_asked c.requires c.loop-t.invariant _ refl (omega arith)

pub returns-in_err-judge_gate : goal.returns-in_err-judge_gate
returns-in_err-judge_gate c =
    let p = err_from_is_err_and c.from_residual.result c.from_residual.ensures.1 in
    rw (p.1, p.2) (trying_stops c.requires c.loop-t.invariant c.judge_gate.ensures (omega arith) c.in_err-judge_gate.was)

pub loop-t-preserved : goal.loop-t-preserved
loop-t-preserved c =
    trying_more c.requires c.loop-t.invariant c.judge_gate.ensures (omega arith) c.in_ok-judge_gate.was

pub returns : goal.returns
returns c = trying_ends c.requires c.loop-t.invariant (omega arith)
