-- `put_lut_line` meets its contract.
use native.Mathlib.Omega.{arith}
use lib.ListN.{length-append}
use Rattle.wording.specs.paper.Text.{lut_line}
use Rattle.wording.proofs.Puts.{put_then}
use Rattle.wording.proofs.lines.put_lut_line.Goals as goal

pub named-requires : goal.named-requires
unfolding lut_line
named-requires c =
    omega (arith, simp length-append at c.requires)

pub named-requires-2 : goal.named-requires-2
unfolding lut_line
named-requires-2 c =
    omega (arith, simp length-append at c.requires)

pub word-requires : goal.word-requires
unfolding lut_line
word-requires c =
    omega (arith, simp length-append at c.requires)

pub put_leaves-requires : goal.put_leaves-requires
unfolding lut_line
put_leaves-requires c =
    omega (arith, simp length-append at c.requires)

pub word-requires-2 : goal.word-requires-2
unfolding lut_line
word-requires-2 c =
    omega (arith, simp length-append at c.requires)

pub hex16-requires : goal.hex16-requires
unfolding lut_line
hex16-requires c =
    omega (
      arith,
      simp length-append at
          c.requires,
    )

pub end_line-requires : goal.end_line-requires
unfolding lut_line
end_line-requires c =
    omega (
      arith,
      simp length-append at
          c.requires,
    )

pub returns : goal.returns
unfolding lut_line
returns c =
    put_then
    (put_then
    (put_then
    (put_then
    (put_then (put_then c.named.ensures c.named-2.ensures)
    c.word.ensures)
    c.put_leaves.ensures)
    c.word-2.ensures)
    c.hex16.ensures)
    c.end_line.ensures
