-- `digit` meets its contract.
use native.Mathlib.Omega.{arith}
use mathlib.Core.Path.{◌∙◌}
use Rattle.telling.proofs.Digits.{not_one_byte, below_digits, above_digits, a_digit}
use Rattle.telling.proofs.digit.Goals as goal

pub returns-in-48-to-57 : goal.returns-in-48-to-57
returns-in-48-to-57 c = c.from.ensures ∙ a_digit c.args.word.now (omega arith) (omega arith) (omega arith)

pub returns-in_default : goal.returns-in_default
returns-in_default c = not_one_byte c.args.word.now (λ one. omega arith)

pub returns-in_default-2 : goal.returns-in_default-2
returns-in_default-2 c = below_digits c.args.word.now (omega arith) (omega arith)

pub returns-in_default-3 : goal.returns-in_default-3
returns-in_default-3 c = above_digits c.args.word.now (omega arith) (omega arith)

pub returns-in_default-4 : goal.returns-in_default-4
returns-in_default-4 c = not_one_byte c.args.word.now (λ one. omega arith)
