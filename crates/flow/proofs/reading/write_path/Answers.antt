-- `write_path` meets its contract: what was followed stands in the third column.
use native.Mathlib.Omega.{arith}
use mathlib.Core.Path.{refl}
use Rattle.flow.proofs.Listing.{follow_stops, follow_turn, follow_full}
use Rattle.flow.proofs.Ways.{no_node}
use Rattle.flow.proofs.reading.write_path.Goals as goal

pub returns-in_default : goal.returns-in_default
returns-in_default c =
    rw c.start_of-start.ensures
    (follow_stops c.loop-j.invariant c.loop-j-test.true (rw c.start_of-start.ensures at c.link_of.ensures) (no_node _ c.in_default.not-To))

pub loop-j-preserved : goal.loop-j-preserved
loop-j-preserved c =
    let leads = c.in-To.ensures in
    rw c.start_of-start.ensures (follow_turn c.loop-j.invariant c.loop-j-test.true (rw c.start_of-start.ensures at leads) refl)

pub returns : goal.returns
returns c = follow_full c.loop-j.invariant (omega arith)
