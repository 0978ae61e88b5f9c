-- `put_output` meets its contract: the id behind an open tag, and the length.
use Rattle.sheet.specs.paper.Encoding.{digits}
use Rattle.sheet.specs.Writing.{opened}
use Rattle.sheet.proofs.Writes.{then, room_first, room_then, field_room, closing_room, closed}
use Rattle.tabling.proofs.put_output.Goals as goal

pub open_field-id_at-requires : goal.open_field-id_at-requires
open_field-id_at-requires c =
    let a = c.args in
    let id = digits 1 a.node.id in
    let room = field_room a.table.now a.at 3 id c.requires in
    room_first a.table.now a.at (opened 3) id room

pub put_number-next-requires : goal.put_number-next-requires
put_number-next-requires c =
    let a = c.args in
    let id = digits 1 a.node.id in
    let room = field_room a.table.now a.at 3 id c.requires in
    room_then c.open_field-id_at.ensures id room

pub close_field-requires : goal.close_field-requires
close_field-requires c =
    let a = c.args in
    let id = digits 1 a.node.id in
    let room = field_room a.table.now a.at 3 id c.requires in let asked =
    closing_room 3 id (then c.open_field-id_at.ensures c.put_number-next.ensures) room in record { at_bound = asked.0; next_in_bounds = asked.1 }

pub returns : goal.returns
returns c =
    closed 3 (digits 1 c.args.node.id)
    (then c.open_field-id_at.ensures c.put_number-next.ensures)
    c.close_field.ensures
