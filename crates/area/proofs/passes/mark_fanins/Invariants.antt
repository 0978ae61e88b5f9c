-- `mark_fanins` meets its contract: the fanins passed that lay in the area are ends.
use lib.ListN.{take}
use Rattle.area.specs.Passes.{FaninsMarked}
use Rattle.area.proofs.passes.mark_fanins.Given as goal

abbrev pub invariant-loop-id : goal.invariant-loop-id
invariant-loop-id l = FaninsMarked (take l.id-index l.id-items) l.initial.roles l.roles
