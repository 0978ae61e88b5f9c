-- `judge_gates` meets its contract: the gates are tried, and the roles are cleared.
use native.Mathlib.Omega.{arith}
use Rattle.judging.proofs.Passes.{all_judged}
use Rattle.judging.proofs.judge_gates.Goals as goal

pub fill-requires : goal.fill-requires
fill-requires c =
    let asked = c.requires in
    omega (arith, asked.roles_long, c.first_broken-found.ensures.rest.size)

pub returns : goal.returns
returns c =
    all_judged c.first_broken-found.ensures c.fill.ensures
