-- `places_of` meets its contract: each division takes one digit off.
use native.Mathlib.Omega.{arith}
use Rattle.wording.proofs.Numbers.{places_small, places_large, places_most}
use Rattle.wording.proofs.words.places_of.Goals as goal

pub overflow_add-count : goal.overflow_add-count
overflow_add-count c = omega (arith, places_most 19 c.args.n (omega arith))

pub loop-rest-preserved : goal.loop-rest-preserved
loop-rest-preserved c = omega (arith, places_large c.loop-rest.rest (omega arith))

pub returns : goal.returns
returns c = omega (arith, places_small c.loop-rest.rest (omega arith))
