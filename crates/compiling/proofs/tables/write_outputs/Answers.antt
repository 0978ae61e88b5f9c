-- `write_outputs` meets its contract: each turn writes an output more.
use native.Mathlib.Omega.{arith}
use mathlib.Core.Path.{ap, ◌∙◌}
use Rattle.naming.specs.Stored.{node_named}
use Rattle.compiling.proofs.TablesWritten.{outputs_sofar_none, outputs_sofar_more, output_fits, outputs_written}
use Rattle.compiling.proofs.tables.write_outputs.Goals as goal

pub loop-i-init : goal.loop-i-init
loop-i-init c = outputs_sofar_none

pub overflow_add-counts : goal.overflow_add-counts
overflow_add-counts c =
    let long = c.requires.ready.right.scanned.names_long in
    omega arith

pub place_at-requires : goal.place_at-requires
place_at-requires c =
    let long = c.requires.ready.right.scanned.names_long in
    omega (arith, c.loop-i-test.true)

pub node_of-node-requires : goal.node_of-node-requires
node_of-node-requires c =
    let long = c.requires.ready.right.scanned.names_long in
    omega arith

pub put_output-at-requires : goal.put_output-at-requires
put_output-at-requires c =
    let asked = c.requires in
    let found = ap
    (node_named c.args.equations.text.now c.args.equations.names.now c.args.equations.counts.definitions)
    c.place_at.ensures in
    output_fits asked.ready asked.before asked.room c.loop-i-test.true
    (c.loop-i.invariant.written asked.k asked.gates asked.ready asked.before asked.room asked.written)
    (c.node_of-node.ensures ∙ found)

pub loop-i-preserved : goal.loop-i-preserved
loop-i-preserved c =
    let found = ap
    (node_named c.args.equations.text.now c.args.equations.names.now c.args.equations.counts.definitions)
    c.place_at.ensures in
    outputs_sofar_more c.loop-i.invariant c.loop-i-test.true (c.node_of-node.ensures ∙ found)
    c.put_output-at.ensures

pub shape_of-table : goal.shape_of-table
shape_of-table c = c.loop-i.invariant.size

pub returns : goal.returns
returns c =
    λ asked.
    outputs_written asked.ready asked.before asked.room c.loop-i.i (omega arith)
    (c.loop-i.invariant.written asked.k asked.gates asked.ready asked.before asked.room asked.written)
