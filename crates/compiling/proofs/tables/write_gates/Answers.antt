-- `write_gates` meets its contract: the head, and each turn a gate more. What stood in the buffer before the head is
-- any list that the head was put into.
use mathlib.Core.Path.{◌∙◌}
use Rattle.compiling.proofs.TablesWritten.{gates_sofar_none, gates_sofar_more, head_fits, head_written, gate_asked, gates_written}
use native.Mathlib.Omega.{arith}
use Rattle.compiling.proofs.tables.write_gates.Goals as goal

pub put_table_head-at-requires : goal.put_table_head-at-requires
put_table_head-at-requires c =
    head_fits c.requires.ready c.args.table.now c.requires.table_room_in_bounds

pub loop-gate-init : goal.loop-gate-init
loop-gate-init c = gates_sofar_none

pub write_gate-at-requires : goal.write_gate-at-requires
write_gate-at-requires c =
    let before = c.args.table.now in
    let head = head_written c.requires.ready before c.requires.table_room_in_bounds c.put_table_head-at.ensures in
    gate_asked c.requires.ready before c.requires.table_room_in_bounds c.loop-gate-test.true
    (c.loop-gate.invariant.written c.args.k.leaves c.requires.ready before
    c.requires.table_room_in_bounds head)

pub loop-gate-preserved : goal.loop-gate-preserved
loop-gate-preserved c =
    gates_sofar_more c.loop-gate.invariant c.loop-gate-test.true c.write_gate-at.ensures

pub shape_of-table : goal.shape_of-table
shape_of-table c =
    c.loop-gate.invariant.size ∙ c.put_table_head-at.auto.table

pub returns : goal.returns
returns c =
    λ ready. let before = c.args.table.now in
    let head = head_written ready before c.requires.table_room_in_bounds c.put_table_head-at.ensures in
    gates_written ready before c.requires.table_room_in_bounds c.loop-gate.gate (omega arith)
    (c.loop-gate.invariant.written c.args.k.leaves ready before
    c.requires.table_room_in_bounds head)
