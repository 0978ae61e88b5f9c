-- `depth` meets its contract: the label kept is the greatest of the outputs passed.
use mathlib.Core.Path.{◌≡◌}
use mathlib.Core.List.{map}
use lib.ListN.{get_or, take}
use Rattle.theory.specs.paper.Lists.{greatest}
use Rattle.covering.proofs.covers.depth.Given as goal

abbrev pub invariant-loop-id : goal.invariant-loop-id
invariant-loop-id l = l.best.depth ≡ greatest (map (λ v. get_or l.labels v 0) (take l.id-index l.outputs))
