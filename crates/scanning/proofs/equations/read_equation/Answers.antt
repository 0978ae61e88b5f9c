-- `read_equation` meets its contract: its left side, its right side, and its name kept.
use Rattle.scanning.proofs.Exits.{goes_on}
use Rattle.scanning.proofs.EquationLines.{count_some, equation_here, equation_stops}
use Rattle.scanning.proofs.equations.read_equation.Goals as goal

pub overflow_sub-inputs : goal.overflow_sub-inputs
overflow_sub-inputs c = count_some c.requires (rw c.in-Equation.is at c.in_ok-place.ensures) c.in_ok-moved-in-Equation.ensures

pub returns-in_err-moved-in-Equation : goal.returns-in_err-moved-in-Equation
returns-in_err-moved-in-Equation c =
    rw (goes_on c.from_residual-in_err-moved-in-Equation.ensures.1)
    (equation_stops c.args.names.now (rw c.in-Equation.is at c.in_ok-place.ensures) c.in_err-moved-in-Equation.ensures)

pub returns-in_ok-moved-in-Equation : goal.returns-in_ok-moved-in-Equation
returns-in_ok-moved-in-Equation c =
    equation_here c.requires (rw c.in-Equation.is at c.in_ok-place.ensures) c.in_ok-moved-in-Equation.ensures c.keep_equation.ensures
