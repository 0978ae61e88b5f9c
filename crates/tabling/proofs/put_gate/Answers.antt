-- `put_gate` meets its contract: the table tells which of the two gates it is.
use Rattle.tabling.proofs.Fields.{one_fanin, two_fanins, gate_room, gate_written}
use Rattle.tabling.proofs.put_gate.Goals as goal

pub put_gate_line-requires : goal.put_gate_line-requires
put_gate_line-requires c =
    let a = c.args in
    gate_room (one_fanin a.left.id a.right.id a.rows c.if-rows-lt-UNARY_TABLES.true) a.table.now a.at
    c.requires

pub put_gate_line-requires-else-rows-lt-UNARY_TABLES : goal.put_gate_line-requires-else-rows-lt-UNARY_TABLES
put_gate_line-requires-else-rows-lt-UNARY_TABLES c =
    let a = c.args in
    gate_room (two_fanins a.left.id a.right.id a.rows c.if-rows-lt-UNARY_TABLES.false) a.table.now a.at
    c.requires

pub returns-then-rows-lt-UNARY_TABLES : goal.returns-then-rows-lt-UNARY_TABLES
returns-then-rows-lt-UNARY_TABLES c =
    let a = c.args in
    gate_written (one_fanin a.left.id a.right.id a.rows c.if-rows-lt-UNARY_TABLES.true)
    c.put_gate_line.ensures

pub returns-else-rows-lt-UNARY_TABLES : goal.returns-else-rows-lt-UNARY_TABLES
returns-else-rows-lt-UNARY_TABLES c =
    let a = c.args in
    gate_written (two_fanins a.left.id a.right.id a.rows c.if-rows-lt-UNARY_TABLES.false)
    c.put_gate_line-else-rows-lt-UNARY_TABLES.ensures
