-- `put_number` meets its contract: the low bytes passed stand at the end of the number's place.
use native.Mathlib.Omega.{arith}
use Rattle.sheet.proofs.Writes.{low_none, low_more, low_all}
use Rattle.sheet.proofs.bytes.put_number.Goals as goal

pub loop-place-init : goal.loop-place-init
loop-place-init c = low_none c.args.sheet.now c.args.at c.args.number c.args.width c.requires

pub loop-place-preserved : goal.loop-place-preserved
loop-place-preserved c = low_more c.loop-place.invariant c.loop-place-test.true c.loop-place.auto.place

pub shape_of-sheet : goal.shape_of-sheet
shape_of-sheet c = c.loop-place.invariant.size

pub returns : goal.returns
returns c = low_all (omega (arith, c.loop-place-test.false)) c.loop-place.invariant
