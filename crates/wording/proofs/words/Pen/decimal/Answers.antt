-- `Pen::decimal` meets its contract.
use native.Mathlib.Omega.{arith}
use Rattle.wording.specs.paper.Text.{decimal}
use Rattle.wording.proofs.Numbers.{decimal_size}
use Rattle.wording.proofs.words.Pen.decimal.Goals as goal

pub digits-requires-clause-count_in_bounds : goal.digits-requires-clause-count_in_bounds
digits-requires-clause-count_in_bounds c = omega (arith, decimal_size c.args.n)

pub returns : goal.returns
unfolding decimal
returns c =
    rw c.places_of.ensures at c.digits.ensures
