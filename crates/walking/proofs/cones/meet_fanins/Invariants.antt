-- `meet_fanins` meets its contract: meeting the fanins from here on gives what meeting all of them gives.
use Rattle.walking.proofs.Walks.{MeetsLeft}
use Rattle.walking.proofs.cones.meet_fanins.Given as goal

abbrev pub invariant-loop-id : goal.invariant-loop-id
invariant-loop-id l = MeetsLeft l.leaves l.id-items l.initial.roles l.roles l.id-index
