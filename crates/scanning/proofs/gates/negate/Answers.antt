-- `negate` meets its contract.
use native.Mathlib.Omega.{arith}
use mathlib.Core.Path.{refl, ◌∙◌}
use Rattle.scanning.proofs.Holding.{negated_none, negated_more}
use Rattle.scanning.proofs.gates.negate.Goals as goal

pub loop-init : goal.loop-init
loop-init c = (refl, omega arith, negated_none _ _)

pub loop-preserved : goal.loop-preserved
loop-preserved c = (
  c.put_gate-last.auto.gates ∙ c.loop.invariant.0,
  omega (arith, c.put_gate-last.ensures.made),
  negated_more c.loop.invariant.2 c.put_gate-last.ensures,
)
