-- `put_table_head` meets its contract: four numbers behind an open tag, and the length.
use mathlib.Core.List.{◌++◌}
use Rattle.sheet.specs.paper.Encoding.{digits, byte}
use Rattle.sheet.proofs.Writes.{then, field_room, opening_room, second_room, third_room, three_written, closing_room}
use Rattle.sheet.proofs.Writes.{closed}
use Rattle.tabling.proofs.Fields.{front_room, behind_room}
use Rattle.tabling.proofs.put_table_head.Goals as goal

pub open_field-version_at-requires : goal.open_field-version_at-requires
open_field-version_at-requires c =
    let a = c.args in
    let k = byte a.k.leaves in
    let inputs = byte a.inputs in
    let gates = digits 1 a.gates in
    let room = field_room a.table.now 0 1 (byte 1 ++ k ++ inputs ++ gates) c.requires in
    opening_room a.table.now 0 1 (byte 1 ++ k) inputs gates room

pub put_number-k_at-requires : goal.put_number-k_at-requires
put_number-k_at-requires c =
    let a = c.args in
    let k = byte a.k.leaves in
    let inputs = byte a.inputs in
    let gates = digits 1 a.gates in
    let room = field_room a.table.now 0 1 (byte 1 ++ k ++ inputs ++ gates) c.requires in
    front_room a.table.now 0 1 (byte 1) k inputs gates room c.open_field-version_at.ensures

pub put_number-inputs_at-requires : goal.put_number-inputs_at-requires
put_number-inputs_at-requires c =
    let a = c.args in
    let k = byte a.k.leaves in
    let inputs = byte a.inputs in
    let gates = digits 1 a.gates in
    let room = field_room a.table.now 0 1 (byte 1 ++ k ++ inputs ++ gates) c.requires in
    behind_room a.table.now 0 1 (byte 1) k inputs gates room c.open_field-version_at.ensures
    c.put_number-k_at.ensures

pub put_number-gates_at-requires : goal.put_number-gates_at-requires
put_number-gates_at-requires c =
    let a = c.args in
    let k = byte a.k.leaves in
    let inputs = byte a.inputs in
    let gates = digits 1 a.gates in
    let room = field_room a.table.now 0 1 (byte 1 ++ k ++ inputs ++ gates) c.requires in
    second_room a.table.now 0 1 (byte 1 ++ k) inputs gates room c.open_field-version_at.ensures
    (then c.put_number-k_at.ensures c.put_number-inputs_at.ensures)

pub put_number-next-requires : goal.put_number-next-requires
put_number-next-requires c =
    let a = c.args in
    let k = byte a.k.leaves in
    let inputs = byte a.inputs in
    let gates = digits 1 a.gates in
    let room = field_room a.table.now 0 1 (byte 1 ++ k ++ inputs ++ gates) c.requires in
    third_room a.table.now 0 1 (byte 1 ++ k) inputs gates room c.open_field-version_at.ensures
    (then c.put_number-k_at.ensures c.put_number-inputs_at.ensures)
    c.put_number-gates_at.ensures

pub close_field-requires : goal.close_field-requires
close_field-requires c =
    let a = c.args in
    let k = byte a.k.leaves in
    let inputs = byte a.inputs in
    let gates = digits 1 a.gates in
    let room = field_room a.table.now 0 1 (byte 1 ++ k ++ inputs ++ gates) c.requires in let asked =
    closing_room 1 (byte 1 ++ k ++ inputs ++ gates)
    (three_written a.table.now 0 1 (byte 1 ++ k) inputs gates room c.open_field-version_at.ensures
    (then c.put_number-k_at.ensures c.put_number-inputs_at.ensures)
    c.put_number-gates_at.ensures c.put_number-next.ensures)
    room in record { at_bound = asked.0; next_in_bounds = asked.1 }

pub returns : goal.returns
returns c =
    let a = c.args in
    let k = byte a.k.leaves in
    let inputs = byte a.inputs in
    let gates = digits 1 a.gates in
    let room = field_room a.table.now 0 1 (byte 1 ++ k ++ inputs ++ gates) c.requires in
    closed 1 (byte 1 ++ k ++ inputs ++ gates)
    (three_written a.table.now 0 1 (byte 1 ++ k) inputs gates room c.open_field-version_at.ensures
    (then c.put_number-k_at.ensures c.put_number-inputs_at.ensures)
    c.put_number-gates_at.ensures c.put_number-next.ensures)
    c.close_field.ensures
