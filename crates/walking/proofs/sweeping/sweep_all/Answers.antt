-- `sweep_all` meets its contract: the sweeps from here on give what all sweeps give.
use native.Mathlib.Omega.{arith}
use Rattle.walking.proofs.SweepLoops.{sweeps_start, sweeps_grow, sweeps_turn, sweeps_stop}
use Rattle.walking.proofs.SweepLoops.{sweeps_end}
use Rattle.walking.proofs.sweeping.sweep_all.Goals as goal

pub loop-placed-init : goal.loop-placed-init
loop-placed-init c =
    sweeps_start c.requires

pub returns-then-next-placed : goal.returns-then-next-placed
returns-then-next-placed c =
    sweeps_stop c.loop-placed.invariant c.sweep-next.ensures c.if-next-placed.true

pub loop-placed-smaller : goal.loop-placed-smaller
loop-placed-smaller c =
    let swept = c.sweep-next.ensures in
    omega (arith, swept.listing.few, sweeps_grow c.loop-placed.invariant swept, c.if-next-placed.false, c.loop-placed-test.true)

pub loop-placed-preserved : goal.loop-placed-preserved
loop-placed-preserved c =
    sweeps_turn c.loop-placed.invariant c.sweep-next.ensures
    (omega (arith, c.requires.few, c.loop-placed-test.true)) c.if-next-placed.false

pub returns : goal.returns
returns c = sweeps_end c.loop-placed.invariant (omega (arith, c.loop-placed-test.false))
