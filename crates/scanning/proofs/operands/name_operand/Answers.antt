-- `name_operand` meets its contract.
use Rattle.scanning.proofs.Taken.{name_taken}
use Rattle.scanning.proofs.operands.name_operand.Goals as goal

pub returns : goal.returns
returns c = name_taken c.in_ok-end.ensures c.skip_blanks.ensures c.negate.ensures
