-- `undefined_operand` meets its contract.
use Rattle.naming.proofs.Singles.{operand_name, operand_gate}
use Rattle.naming.proofs.checks.undefined_operand.Goals as goal

pub returns-then-operand-lt-MOST_TEXT : goal.returns-then-operand-lt-MOST_TEXT
returns-then-operand-lt-MOST_TEXT c = operand_name c.if-operand-lt-MOST_TEXT.true c.undefined_at.ensures

pub returns : goal.returns
returns c = operand_gate c.if-operand-lt-MOST_TEXT.false
