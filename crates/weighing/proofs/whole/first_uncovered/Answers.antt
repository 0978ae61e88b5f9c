-- `first_uncovered` meets its contract: at the gates passed roots and marks agree.
use native.Mathlib.Omega.{arith}
use Rattle.weighing.specs.PassFour.{Compared}
use Rattle.weighing.proofs.Wanted.{same_more}
use Rattle.weighing.proofs.whole.first_uncovered.Goals as goal

pub loop-v-init : goal.loop-v-init
loop-v-init c = λ w above low. absurd (omega arith)

pub bounds-luts-v : goal.bounds-luts-v
bounds-luts-v c =
    omega (arith, c.requires.luts_long)

pub bounds-wanted-v : goal.bounds-wanted-v
bounds-wanted-v c =
    let pre = c.requires in
    omega (arith, pre.wanted_long)

pub returns-then-luts-v : goal.returns-then-luts-v
returns-then-luts-v c =
    let loop-test = c.loop-v-test in
    let l = c.loop-v in
    Compared.differ l.auto.v loop-test.true l.invariant (λ e. omega (arith, e, c.if-luts-v.true))

pub loop-v-preserved : goal.loop-v-preserved
loop-v-preserved c =
    let a = c.args in
    let l = c.loop-v in
    same_more a.numbers.inputs a.luts.now a.wanted.now l.v l.invariant (omega (arith, c.if-luts-v.false))

pub returns : goal.returns
returns c = Compared.same (λ w above below. c.loop-v.invariant w above (omega (arith, c.loop-v-test.false)))
