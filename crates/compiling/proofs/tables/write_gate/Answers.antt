-- `write_gate` meets its contract: the line of the gate's three.
use Rattle.compiling.proofs.TablesWritten.{same_line}
use native.Mathlib.Omega.{arith}
use mathlib.Core.Path.{sym, subst}
use Rattle.drawing.specs.paper.Table.{GateLine}
use Rattle.drawing.specs.paper.Forms.{narrow_table}
use Rattle.tabling.specs.paper.Encoding.{gate_field}
use Rattle.sheet.specs.Writing.{Room, Written}
use Rattle.naming.specs.Stored.{node_named}
use Rattle.naming.specs.Lines.{three_in}
use Rattle.compiling.proofs.tables.write_gate.Goals as goal

pub operand_node-left-requires : goal.operand_node-left-requires
operand_node-left-requires c =
    omega (arith, c.requires.left_low, c.left_at.ensures)

pub operand_node-right-requires : goal.operand_node-right-requires
operand_node-right-requires c =
    omega (arith, c.requires.right_low, c.right_at.ensures)

pub put_gate-requires : goal.put_gate-requires
put_gate-requires c =
    let three = three_in c.args.equations.gates.now c.args.gate in
    let node = node_named c.args.equations.text.now c.args.equations.names.now c.args.equations.counts.definitions in
    let same = same_line node c.args.equations.counts.inputs three c.left_at.result
    c.right_at.result c.operand_node-left.ensures c.left_at.ensures
    c.operand_node-right.ensures c.right_at.ensures
    c.table_at-rows.ensures in
    subst (λ (g : GateLine). Room c.args.table.now c.args.at (gate_field narrow_table g)) (sym same)
    c.requires.room

pub returns : goal.returns
returns c =
    let three = three_in c.args.equations.gates.now c.args.gate in
    let node = node_named c.args.equations.text.now c.args.equations.names.now c.args.equations.counts.definitions in
    let same = same_line node c.args.equations.counts.inputs three c.left_at.result
    c.right_at.result c.operand_node-left.ensures c.left_at.ensures
    c.operand_node-right.ensures c.right_at.ensures
    c.table_at-rows.ensures in
    subst
    (λ (g : GateLine).
    Written c.args.table.now c.args.at (gate_field narrow_table g)
    c.put_gate.new.table c.put_gate.result)
    same c.put_gate.ensures
