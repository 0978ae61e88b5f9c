-- `meet_fanins` meets its contract: meeting the fanins from here on gives what meeting all of them gives.
use native.Mathlib.Omega.{arith}
use mathlib.Core.Path.{refl}
use Rattle.storage.proofs.Drawings.{fed_entry}
use Rattle.walking.proofs.Walks.{meets_turn, meets_end}
use Rattle.walking.proofs.cones.meet_fanins.Goals as goal

pub meet-requires : goal.meet-requires
meet-requires c =
    omega (arith, c.loop-id.invariant.size, fed_entry c.requires c.list_at-id-items.ensures c.loop-id-test.true)

pub loop-id-preserved : goal.loop-id-preserved
loop-id-preserved c = meets_turn _ c.loop-id.invariant c.loop-id-test.true refl c.meet.ensures

pub returns : goal.returns
returns c = rw c.list_at-id-items.ensures at (meets_end _ c.loop-id.invariant c.loop-id-test.false)
