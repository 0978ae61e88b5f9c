-- `Pen::hex16` meets its contract.
use native.Mathlib.Omega.{arith}
use Rattle.wording.specs.paper.Text.{hex16}
use Rattle.wording.proofs.Numbers.{hex16_size}
use Rattle.wording.proofs.words.Pen.hex16.Goals as goal

pub digits-requires-clause-count_in_bounds : goal.digits-requires-clause-count_in_bounds
digits-requires-clause-count_in_bounds c = omega (arith, hex16_size c.args.n)

pub returns : goal.returns
unfolding hex16
returns c = c.digits.ensures
