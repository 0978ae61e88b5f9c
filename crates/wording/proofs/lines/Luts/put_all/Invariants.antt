-- `Luts::put_all` meets its contract: what is left to put is the text of the other roots.
use lib.ListN.{drop}
use Rattle.wording.specs.paper.Text.{each}
use Rattle.wording.specs.Arrays.{marked_from}
use Rattle.wording.specs.Luts.{line_at}
use Rattle.wording.proofs.Puts.{Left}
use Rattle.wording.proofs.lines.Luts.put_all.Given as goal

abbrev pub invariant-loop-v : goal.invariant-loop-v
invariant-loop-v l = Left l.initial.pen (each (line_at l.self) (marked_from 0 l.marks)) l.pen
    (each (line_at l.self) (marked_from l.v (drop l.v l.marks)))
