-- `small_at` meets its contract: one byte, or two with the high byte first.
use native.Mathlib.Omega.{arith}
use Rattle.drawing.proofs.Ids.{small_one, small_two}
use Rattle.drawing.proofs.bytes.small_at.Goals as goal

-- src/bytes.rt:42:9
pub returns-then-width-eq1 : goal.returns-then-width-eq1
returns-then-width-eq1 c =
    let a = c.args in
    small_one a.s.now a.at (omega arith) (omega arith) c.byte_at-high.ensures

-- src/bytes.rt:35:1
pub returns : goal.returns
returns c =
    let a = c.args in
    small_two a.s.now a.at c.requires.narrow c.if-width-eq1.false (omega arith)
    c.byte_at-high.ensures c.byte_at.ensures
