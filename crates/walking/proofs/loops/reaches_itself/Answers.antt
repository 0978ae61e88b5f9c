-- `reaches_itself` meets its contract: what is listed lies behind the gate, and what was passed has its fanins listed.
use Rattle.walking.proofs.Fills.{start_listing, kept_started}
use Rattle.walking.proofs.Gatherings.{kept_same, kept_on}
use Rattle.walking.proofs.Searches.{search_start, search_turn, search_tells, next_gate}
use Rattle.walking.proofs.loops.reaches_itself.Goals as goal

pub note_fanins-size-requires : goal.note_fanins-size-requires
note_fanins-size-requires c =
    record { listing = rw c.start.ensures (start_listing c.requires.order_room); id_lt_nodes = c.requires.id_lt_nodes }

pub loop-done-init : goal.loop-done-init
loop-done-init c =
    (search_start c.args.gate.id c.requires.id_lt_nodes c.note_fanins-size.ensures, kept_same)

pub note_fanins-size-requires-in-loop-done : goal.note_fanins-size-requires-in-loop-done
note_fanins-size-requires-in-loop-done c =
    let left = c.loop-done.invariant.0 in record {
      listing = left.listing;
      id_lt_nodes = rw c.node_at-next.ensures
          (next_gate c.args.gate.id c.requires.id_lt_nodes left c.loop-done-test.true).1;
    }

pub loop-done-preserved : goal.loop-done-preserved
loop-done-preserved c =
    let left = c.loop-done.invariant in
    let noted = c.note_fanins-size-in-loop-done.ensures in (
      search_turn c.args.gate.id c.requires.id_lt_nodes left.0 c.loop-done-test.true
          c.node_at-next.ensures noted,
      kept_on left.1 noted.kept,
    )

pub returns : goal.returns
returns c =
    let started = kept_started c.requires.order_room c.start.ensures in
    record {
      reply =
          search_tells c.args.gate.id c.requires.id_lt_nodes c.loop-done.invariant.0 c.requires.inputs_le_id
          c.loop-done-test.false c.is_marked.ensures;
      kept = kept_on started (kept_on c.note_fanins-size.ensures.kept c.loop-done.invariant.1);
    }
