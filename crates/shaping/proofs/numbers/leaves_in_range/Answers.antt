-- `leaves_in_range` meets its contract: the range rules of leaves, one after the other.
use Rattle.shaping.specs.Terms.{due_of}
use Rattle.shaping.proofs.Ids.{leaves_many, leaves_told}
use native.Mathlib.Omega.{arith}
use Rattle.shaping.proofs.numbers.leaves_in_range.Goals as goal

pub returns-then-terms-size : goal.returns-then-terms-size
returns-then-terms-size c =
    leaves_many (due_of c.args.terms) c.args.sheet.now c.args.at
    c.size_at-size.ensures (omega arith) (omega arith)

pub returns : goal.returns
returns c =
    leaves_told (due_of c.args.terms) c.args.sheet.now c.args.at
    c.size_at-size.ensures (omega (arith, c.if-size-lt1.false)) (omega (arith, c.if-terms-size.false))
    c.ids_rise.ensures
    c.if-not-ids_rise.false c.ids_below.ensures
