-- `operand_node` meets its contract.
use mathlib.Core.Path.{sym, ◌∙◌}
use Rattle.naming.proofs.NodesNamed.{operand_named, operand_numbered}
use Rattle.naming.proofs.nodes.operand_node.Goals as goal

pub returns-then-operand-lt-MOST_TEXT : goal.returns-then-operand-lt-MOST_TEXT
returns-then-operand-lt-MOST_TEXT c = c.node_of.ensures ∙ sym (operand_named _ _ c.if-operand-lt-MOST_TEXT.true)

pub returns : goal.returns
returns c = sym (operand_numbered _ _ c.if-operand-lt-MOST_TEXT.false)
