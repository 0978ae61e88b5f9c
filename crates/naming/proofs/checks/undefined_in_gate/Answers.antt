-- `undefined_in_gate` meets its contract.
use Rattle.naming.specs.Wrongs.{UndefinedOperand}
use mathlib.Core.Path.{sym, ◌∙◌}
use Rattle.naming.proofs.Leasts.{least_of_two, least_twice}
use Rattle.naming.proofs.checks.undefined_in_gate.Goals as goal

-- src/checks.rt:95:9
pub returns-then-left-right : goal.returns-then-left-right
returns-then-left-right c =
    let first = rw c.left_at-left.ensures at c.undefined_operand-first.ensures in
    least_twice (UndefinedOperand c.args.equations.text.now c.args.equations.names.now c.args.equations.counts.definitions)
    (sym c.left_at-left.ensures ∙ c.if-left-right.true ∙ c.right_at-right.ensures) first

-- src/checks.rt:80:1
pub returns : goal.returns
returns c =
    let first = rw c.left_at-left.ensures at c.undefined_operand-first.ensures in
    let second = rw c.right_at-right.ensures at c.undefined_operand.ensures in
    rw c.earlier.ensures (least_of_two first second)
