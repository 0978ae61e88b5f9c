-- `read_equations` meets its contract: each turn reads an equation more.
use Rattle.scanning.proofs.Exits.{goes_on}
use Rattle.scanning.proofs.EquationLines.{sofar_none, sofar_more, sofar_stops}
use Rattle.scanning.proofs.equations.read_equations.Goals as goal

pub loop-moved-init : goal.loop-moved-init
loop-moved-init c = sofar_none c.requires

pub loop-moved-preserved : goal.loop-moved-preserved
loop-moved-preserved c = sofar_more c.requires c.loop-moved.invariant (rw c.in-Equation.is at c.in_ok-moved.ensures)

pub returns-in_err-moved : goal.returns-in_err-moved
returns-in_err-moved c = rw (goes_on c.from_residual.ensures.1) (sofar_stops c.requires c.loop-moved.invariant c.in_err-moved.ensures)
