-- `put_output_line` meets its contract.
use native.Mathlib.Omega.{arith}
use lib.ListN.{length-append}
use Rattle.wording.specs.paper.Text.{output_line}
use Rattle.wording.proofs.Puts.{put_then}
use Rattle.wording.proofs.lines.put_output_line.Goals as goal

pub named-requires : goal.named-requires
unfolding output_line
named-requires c =
    omega (arith, simp length-append at c.requires)

pub named-requires-2 : goal.named-requires-2
unfolding output_line
named-requires-2 c =
    omega (arith, simp length-append at c.requires)

pub end_line-requires : goal.end_line-requires
unfolding output_line
end_line-requires c =
    omega (arith, simp length-append at c.requires)

pub returns : goal.returns
unfolding output_line
returns c =
    put_then (put_then c.named.ensures c.named-2.ensures)
    c.end_line.ensures
