-- `put_head` meets its contract.
use native.Mathlib.Omega.{arith}
use lib.ListN.{length-append}
use Rattle.wording.specs.paper.Text.{head_line}
use Rattle.wording.proofs.Puts.{put_then}
use Rattle.wording.proofs.lines.put_head.Goals as goal

pub named-requires : goal.named-requires
unfolding head_line
named-requires c =
    omega (arith, simp length-append at c.requires)

pub named-requires-2 : goal.named-requires-2
unfolding head_line
named-requires-2 c =
    omega (arith, simp length-append at c.requires)

pub named-requires-3 : goal.named-requires-3
unfolding head_line
named-requires-3 c =
    omega (arith, simp length-append at c.requires)

pub named-requires-4 : goal.named-requires-4
unfolding head_line
named-requires-4 c =
    omega (arith, simp length-append at c.requires)

pub named-requires-5 : goal.named-requires-5
unfolding head_line
named-requires-5 c =
    omega (arith, simp length-append at c.requires)

pub end_line-requires : goal.end_line-requires
unfolding head_line
end_line-requires c =
    omega (
      arith,
      simp length-append at
          c.requires,
    )

pub returns : goal.returns
unfolding head_line
returns c =
    put_then
    (put_then
    (put_then
    (put_then (put_then c.named.ensures c.named-2.ensures)
    c.named-3.ensures)
    c.named-4.ensures)
    c.named-5.ensures)
    c.end_line.ensures
