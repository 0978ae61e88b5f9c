-- The three readers of expressions end because only a bracket's call lowers the nesting, and the others go down in rank. In a loop's invariant
-- stands what was read so far: whatever the array was before the first operand, its gates are in it now.
use Rattle.std.proofs.Common.{◌≡◌, ◌+◌, ◌-◌, ◌*◌, List, ℕ, length}
use Rattle.scanning.specs.Reading.{Got, OpenTerm, OpenExpression}
use Rattle.scanning.proofs.expressions.+expression_factor_term.Given as goal

abbrev pub decreases-expression : goal.decreases-expression
decreases-expression l = 3 * l.nesting + 2

abbrev pub decreases-factor : goal.decreases-factor
decreases-factor l = 3 * l.nesting

abbrev pub decreases-term : goal.decreases-term
decreases-term l = 3 * l.nesting + 1

abbrev pub invariant-expression-loop-start : goal.invariant-expression-loop-start
invariant-expression-loop-start l =
    (length l.gates ≡ length l.initial.gates)
    × ((before : List ℕ) → Got l.text (OpenExpression l.text l.nesting l.at) l.nesting l.at before l.made l.initial.gates l.initial.left →
    Got l.text (OpenExpression l.text l.nesting l.at) l.nesting l.at before l.made l.gates l.left)

abbrev pub decreases-expression-loop-start : goal.decreases-expression-loop-start
decreases-expression-loop-start l = length l.text - l.left.next

abbrev pub invariant-term-loop-start : goal.invariant-term-loop-start
invariant-term-loop-start l =
    (length l.gates ≡ length l.initial.gates)
    × ((before : List ℕ) → Got l.text (OpenTerm l.text l.nesting l.at) l.nesting l.at before l.made l.initial.gates l.initial.left →
    Got l.text (OpenTerm l.text l.nesting l.at) l.nesting l.at before l.made l.gates l.left)

abbrev pub decreases-term-loop-start : goal.decreases-term-loop-start
decreases-term-loop-start l = length l.text - l.left.next
