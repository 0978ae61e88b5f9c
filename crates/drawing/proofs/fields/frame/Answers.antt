-- `frame` meets its contract: at each `return` the tests passed so far say which rule is the first.
use native.Mathlib.Omega.{arith}
use Prim.Native.Nat.{◌-◌}
use mathlib.Core.Path.{◌∙◌}
use lib.ListN.{length, get_or}
use borrow.Author.Tests.{lt-ltb, le-ltb, eq-eqb, ne_eqb}
use Rattle.drawing.specs.paper.Limits.{frame_size}
use Rattle.drawing.specs.paper.Bytes.{value_at, length_at}
use Rattle.drawing.proofs.fields.frame.Goals as goal

-- src/fields.rt:24:9
pub returns-then-s-at-lt-FRAME : goal.returns-then-s-at-lt-FRAME
returns-then-s-at-lt-FRAME c =
    let a = c.args in
    let s = a.s.now in
    simp (lt-ltb (length s - a.at) frame_size (omega arith))

-- src/fields.rt:27:9
pub returns-then-byte_at-due : goal.returns-then-byte_at-due
returns-then-byte_at-due c =
    let a = c.args in
    let s = a.s.now in
    simp (
      le-ltb (length s - a.at) frame_size (omega arith),
      ne_eqb (get_or s a.at 0) a.due (λ e. c.if-byte_at-due.true (c.byte_at.ensures.byte ∙ e)),
    )

-- src/fields.rt:30:9
pub returns-then-surplus : goal.returns-then-surplus
returns-then-surplus c =
    let a = c.args in
    let s = a.s.now in
    simp (
      le-ltb (length s - a.at) frame_size (omega arith),
      eq-eqb (get_or s a.at 0) a.due (omega arith),
      c.if-surplus.true,
    )

-- src/fields.rt:33:9
pub returns-then-s-at : goal.returns-then-s-at
returns-then-s-at c =
    let a = c.args in
    let s = a.s.now in
    simp (
      le-ltb (length s - a.at) frame_size (omega arith),
      eq-eqb (get_or s a.at 0) a.due (omega arith),
      c.if-surplus.false,
      lt-ltb (length s - value_at a.at) (length_at s a.at) (omega arith),
    )

-- src/fields.rt:19:1
pub returns : goal.returns
returns c =
    let a = c.args in
    let s = a.s.now in
    simp (
      le-ltb (length s - a.at) frame_size (omega arith),
      eq-eqb (get_or s a.at 0) a.due (omega arith),
      c.if-surplus.false,
      le-ltb (length s - value_at a.at) (length_at s a.at) (omega arith),
    )
