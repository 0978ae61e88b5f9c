-- `note_fanins` meets its contract: noting the fanins from here on gives what noting all of them gives.
use native.Mathlib.Omega.{arith}
use mathlib.Core.Path.{refl}
use Rattle.storage.proofs.Drawings.{fed_in, fed_entry}
use Rattle.walking.proofs.Gatherings.{add_room}
use Rattle.walking.proofs.Searches.{notes_turn, notes_end}
use Rattle.walking.proofs.loops.note_fanins.Goals as goal

pub add-listed-requires : goal.add-listed-requires
add-listed-requires c =
    let p = c.requires in
    let fed = fed_in p.listing.drawn c.args.gate.id p.id_lt_nodes c.args.numbers.nodes (omega arith) in
    add_room c.loop-id.invariant.now.listing _ (fed_entry fed c.list_at-id-items.ensures c.loop-id-test.true)

pub loop-id-preserved : goal.loop-id-preserved
loop-id-preserved c =
    let p = c.requires in
    let fed = fed_in p.listing.drawn c.args.gate.id p.id_lt_nodes c.args.numbers.nodes (omega arith) in
    notes_turn _ c.loop-id.invariant c.loop-id-test.true refl (fed_entry fed c.list_at-id-items.ensures c.loop-id-test.true) c.add-listed.ensures

pub returns : goal.returns
returns c = rw c.list_at-id-items.ensures at (notes_end _ c.loop-id.invariant c.loop-id-test.false)
