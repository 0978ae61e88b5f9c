-- `row_of` meets its contract: from the last node back, each value is one digit more.
use mathlib.Core.Path.{◌≡◌}
use Rattle.covering.proofs.Sweeps.{row_from}
use Rattle.covering.proofs.cones.row_of.Given as goal

abbrev pub invariant-loop-i : goal.invariant-loop-i
invariant-loop-i l = l.row ≡ row_from l.ids l.at l.many l.values l.i

abbrev pub decreases-loop-i : goal.decreases-loop-i
decreases-loop-i l = l.i
