-- `order_gates` meets its contract: by what the sweeps and the search leave.
use Rattle.storage.proofs.Drawings.{drawn_span}
use Rattle.walking.proofs.Fills.{start_listing}
use Rattle.walking.proofs.Outcomes.{made_whole, loop_found, made_loop}
use Rattle.walking.proofs.order_gates.Goals as goal

pub overflow_sub-gates : goal.overflow_sub-gates
overflow_sub-gates c =
    drawn_span c.requires.drawn

pub start-requires : goal.start-requires
start-requires c =
    record { inputs_le_nodes = drawn_span c.requires.drawn; nodes_in_bounds = c.requires.marks_long }

pub sweep_all-requires : goal.sweep_all-requires
sweep_all-requires c =
    rw c.start.ensures (start_listing c.requires)

pub returns-then-sweep_all-gates : goal.returns-then-sweep_all-gates
returns-then-sweep_all-gates c =
    made_whole c.requires c.start.ensures c.sweep_all.ensures c.if-sweep_all-gates.true
    c.fill.ensures

pub unwrap-requires : goal.unwrap-requires
unwrap-requires c =
    loop_found c.requires c.start.ensures c.sweep_all.ensures c.lowest_loop-found.ensures c.if-sweep_all-gates.false

pub returns : goal.returns
returns c =
    made_loop c.requires c.start.ensures c.sweep_all.ensures c.lowest_loop-found.ensures c.unwrap.ensures
    c.fill-2.ensures c.fill-3.ensures
