-- `put_lut` meets its contract: root, leaves and table behind an open tag, and the length.
use mathlib.Core.List.{◌++◌}
use Rattle.sheet.specs.paper.Encoding.{digits, leaves_bytes}
use Rattle.sheet.proofs.Writes.{field_room, opening_room, first_room, second_room, third_room, three_written}
use Rattle.sheet.proofs.Writes.{closing_room, closed}
use Rattle.sheet.proofs.put_lut.Goals as goal

pub returns : goal.returns
returns c =
    let a = c.args in
    let root = digits a.form.width a.root.id in
    let leaves = leaves_bytes a.form.width a.leaves.now in
    let value = root ++ leaves ++ digits 8 a.table in
    let room = field_room a.sheet.now a.at a.form.lut value c.requires in
    closed a.form.lut value
    (three_written a.sheet.now a.at a.form.lut root leaves (digits 8 a.table) room
    c.open_field-root_at.ensures c.put_number-leaves_at.ensures
    c.put_leaves-table_at.ensures c.put_number-next.ensures)
    c.close_field.ensures

pub open_field-root_at-requires : goal.open_field-root_at-requires
open_field-root_at-requires c =
    let a = c.args in
    let root = digits a.form.width a.root.id in
    let leaves = leaves_bytes a.form.width a.leaves.now in
    let value = root ++ leaves ++ digits 8 a.table in
    let room = field_room a.sheet.now a.at a.form.lut value c.requires in
    opening_room a.sheet.now a.at a.form.lut root leaves (digits 8 a.table) room

pub put_number-leaves_at-requires : goal.put_number-leaves_at-requires
put_number-leaves_at-requires c =
    let a = c.args in
    let root = digits a.form.width a.root.id in
    let leaves = leaves_bytes a.form.width a.leaves.now in
    let value = root ++ leaves ++ digits 8 a.table in
    let room = field_room a.sheet.now a.at a.form.lut value c.requires in
    first_room a.sheet.now a.at a.form.lut root leaves (digits 8 a.table) room
    c.open_field-root_at.ensures

pub put_leaves-table_at-requires : goal.put_leaves-table_at-requires
put_leaves-table_at-requires c =
    let a = c.args in
    let root = digits a.form.width a.root.id in
    let leaves = leaves_bytes a.form.width a.leaves.now in
    let value = root ++ leaves ++ digits 8 a.table in
    let room = field_room a.sheet.now a.at a.form.lut value c.requires in
    second_room a.sheet.now a.at a.form.lut root leaves (digits 8 a.table) room
    c.open_field-root_at.ensures c.put_number-leaves_at.ensures

pub put_number-next-requires : goal.put_number-next-requires
put_number-next-requires c =
    let a = c.args in
    let root = digits a.form.width a.root.id in
    let leaves = leaves_bytes a.form.width a.leaves.now in
    let value = root ++ leaves ++ digits 8 a.table in
    let room = field_room a.sheet.now a.at a.form.lut value c.requires in
    third_room a.sheet.now a.at a.form.lut root leaves (digits 8 a.table) room
    c.open_field-root_at.ensures c.put_number-leaves_at.ensures
    c.put_leaves-table_at.ensures

pub close_field-requires : goal.close_field-requires
close_field-requires c =
    let a = c.args in
    let root = digits a.form.width a.root.id in
    let leaves = leaves_bytes a.form.width a.leaves.now in
    let value = root ++ leaves ++ digits 8 a.table in
    let room = field_room a.sheet.now a.at a.form.lut value c.requires in let asked =
    closing_room a.form.lut value
    (three_written a.sheet.now a.at a.form.lut root leaves (digits 8 a.table) room
    c.open_field-root_at.ensures c.put_number-leaves_at.ensures
    c.put_leaves-table_at.ensures c.put_number-next.ensures)
    room in record { at_bound = asked.0; next_in_bounds = asked.1 }
