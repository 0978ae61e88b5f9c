-- `sweep` meets its contract: the turns from here on give what all turns give.
use native.Mathlib.Omega.{arith}
use lib.ListN.{length}
use Rattle.storage.proofs.Drawings.{fed_in}
use Rattle.walking.proofs.Gatherings.{add_room}
use Rattle.walking.proofs.SweepLoops.{sweep_start, sweep_turn, sweep_end}
use Rattle.walking.proofs.sweeping.sweep.Goals as goal

pub loop-v-init : goal.loop-v-init
loop-v-init c =
    sweep_start c.requires

pub place-placed-requires : goal.place-placed-requires
place-placed-requires c =
    let l = c.loop-v.invariant.listed.listing in record { fed = fed_in l.drawn c.loop-v.v (omega arith) (length c.loop-v.marks) l.marks_long; add_room = add_room l c.loop-v.v (omega arith) }

pub loop-v-preserved : goal.loop-v-preserved
loop-v-preserved c =
    sweep_turn c.loop-v.invariant (omega arith) c.place-placed.ensures

pub returns : goal.returns
returns c = sweep_end c.loop-v.invariant (omega arith)
