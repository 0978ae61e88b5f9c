-- `put_gate_line` meets its contract: the count, the fanins and the table behind an open tag, and the length.
use mathlib.Core.List.{◌++◌}
use lib.ListN.{length}
use Rattle.sheet.specs.paper.Encoding.{digits, byte, id_bytes}
use Rattle.sheet.proofs.Writes.{opening_room, first_room, second_room, third_room, three_written}
use Rattle.sheet.proofs.Writes.{closing_room, closed}
use Rattle.tabling.proofs.Fields.{line_room, line_written}
use Rattle.tabling.proofs.put_gate_line.Goals as goal

pub open_field-count_at-requires : goal.open_field-count_at-requires
open_field-count_at-requires c =
    let a = c.args in
    let fanins = id_bytes 1 a.fanins.now in
    let rows = digits 8 a.rows in
    let room = line_room a.table.now a.at a.fanins.now a.rows c.requires in
    opening_room a.table.now a.at 2 (byte (length a.fanins.now)) fanins rows room

pub put_number-fanins_at-requires : goal.put_number-fanins_at-requires
put_number-fanins_at-requires c =
    let a = c.args in
    let fanins = id_bytes 1 a.fanins.now in
    let rows = digits 8 a.rows in
    let room = line_room a.table.now a.at a.fanins.now a.rows c.requires in
    first_room a.table.now a.at 2 (byte (length a.fanins.now)) fanins rows room c.open_field-count_at.ensures

pub put_ids-rows_at-requires : goal.put_ids-rows_at-requires
put_ids-rows_at-requires c =
    let a = c.args in
    let fanins = id_bytes 1 a.fanins.now in
    let rows = digits 8 a.rows in
    let room = line_room a.table.now a.at a.fanins.now a.rows c.requires in
    second_room a.table.now a.at 2 (byte (length a.fanins.now)) fanins rows room c.open_field-count_at.ensures
    c.put_number-fanins_at.ensures

pub put_number-next-requires : goal.put_number-next-requires
put_number-next-requires c =
    let a = c.args in
    let fanins = id_bytes 1 a.fanins.now in
    let rows = digits 8 a.rows in
    let room = line_room a.table.now a.at a.fanins.now a.rows c.requires in
    third_room a.table.now a.at 2 (byte (length a.fanins.now)) fanins rows room c.open_field-count_at.ensures
    c.put_number-fanins_at.ensures c.put_ids-rows_at.ensures

pub close_field-requires : goal.close_field-requires
close_field-requires c =
    let a = c.args in
    let fanins = id_bytes 1 a.fanins.now in
    let rows = digits 8 a.rows in
    let room = line_room a.table.now a.at a.fanins.now a.rows c.requires in let asked =
    closing_room 2 (byte (length a.fanins.now) ++ fanins ++ rows)
    (three_written a.table.now a.at 2 (byte (length a.fanins.now)) fanins rows room c.open_field-count_at.ensures
    c.put_number-fanins_at.ensures c.put_ids-rows_at.ensures
    c.put_number-next.ensures)
    room in record { at_bound = asked.0; next_in_bounds = asked.1 }

pub returns : goal.returns
returns c =
    let a = c.args in
    let fanins = id_bytes 1 a.fanins.now in
    let rows = digits 8 a.rows in
    let room = line_room a.table.now a.at a.fanins.now a.rows c.requires in
    line_written a.table.now a.at a.fanins.now a.rows
    (closed 2 (byte (length a.fanins.now) ++ fanins ++ rows)
    (three_written a.table.now a.at 2 (byte (length a.fanins.now)) fanins rows room c.open_field-count_at.ensures
    c.put_number-fanins_at.ensures c.put_ids-rows_at.ensures
    c.put_number-next.ensures)
    c.close_field.ensures)
