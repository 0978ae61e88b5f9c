-- `read_right` meets its contract: an expression, and what ends it.
use Rattle.scanning.proofs.RightSides.{right_read}
use Rattle.scanning.proofs.equations.read_right.Goals as goal

pub returns : goal.returns
returns c = right_read c.end_equation.new.gates c.end_equation.result c.in_ok-piece.ensures c.end_equation.ensures
