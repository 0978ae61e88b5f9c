-- `peak` meets its contract: so far, the greatest label of the fanins passed.
use mathlib.Core.Path.{◌≡◌}
use mathlib.Core.List.{map}
use lib.ListN.{take}
use Rattle.theory.specs.paper.Lists.{greatest}
use Rattle.area.specs.Area.{label_in}
use Rattle.area.proofs.peak.Given as goal

abbrev pub invariant-loop-id : goal.invariant-loop-id
invariant-loop-id l = l.best.depth ≡ greatest (map (label_in l.labels) (take l.id-index l.id-items))
