-- `ids_below` meets its contract: what the ids from here on say is what all of them do.
use mathlib.Core.Path.{◌≡◌}
use Rattle.drawing.specs.paper.Bytes.{ids_at, some_from}
use Rattle.drawing.proofs.Ids.{ids_left}
use Rattle.drawing.proofs.bytes.ids_below.Given as goal

abbrev pub invariant-loop-i : goal.invariant-loop-i
invariant-loop-i l = some_from l.nodes (ids_at l.s l.at l.width l.count) ≡ some_from l.nodes (ids_left l.s l.at l.width l.count l.i)
