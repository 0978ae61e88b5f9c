-- `tell` meets its contract: a table's listing, or the line of a refusal.
use Rattle.telling.proofs.Told.{compiled_as, table_front, told_table, told_refusal, told_nothing}
use Rattle.telling.proofs.tell.Goals as goal

pub returns-then-lines-lt-TEXT_ROOM : goal.returns-then-lines-lt-TEXT_ROOM
returns-then-lines-lt-TEXT_ROOM c = let asked = told_nothing c.if-lines-lt-TEXT_ROOM.true in record { tells = asked.0; front = asked.1.0; front_2 = asked.1.1 }

pub slice_bounds-list-end : goal.slice_bounds-list-end
slice_bounds-list-end c =
    (table_front (compiled_as c.in-Ok.is c.compile-reply.ensures)).0

pub slice_bounds-list-end-in-Ok : goal.slice_bounds-list-end-in-Ok
slice_bounds-list-end-in-Ok c =
    (table_front (compiled_as c.in-Ok.is c.compile-reply.ensures)).1

pub returns-in-Ok : goal.returns-in-Ok
returns-in-Ok c = let asked =
    told_table c.if-lines-lt-TEXT_ROOM.false (compiled_as c.in-Ok.is c.compile-reply.ensures)
    (c.list-listed.ensures.lists, c.list-listed.ensures.front) in record { tells = asked.0; front = asked.1.0; front_2 = asked.1.1 }

pub returns-in-Err : goal.returns-in-Err
returns-in-Err c = let asked =
    told_refusal c.if-lines-lt-TEXT_ROOM.false c.compile-reply.result c.in-Err.is
    c.compile-reply.ensures c.number_of_reply-number.ensures
    c.place_of_reply-place.ensures c.write_refused-line.ensures in record { tells = asked.0; front = asked.1.0; front_2 = asked.1.1 }
