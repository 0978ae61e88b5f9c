-- `draw_up` meets its contract: the mapper's sheet, or the line of its refusal.
use Rattle.wording.proofs.Filled.{at_front, wrote_fits}
use Rattle.printing.proofs.Replies.{drew_sheet, drew_line}
use Rattle.printing.proofs.draw_up.Goals as goal

pub returns-in-Ok-clause-draws : goal.returns-in-Ok-clause-draws
returns-in-Ok-clause-draws c = drew_sheet c.if-text-lt-LINE_ROOM.false c.map-reply.ensures c.in-Ok.is

pub returns-in-Err : goal.returns-in-Err
returns-in-Err c =
    let wrote = c.write_refused.ensures in
    record {
      draws = drew_line c.if-text-lt-LINE_ROOM.false c.map-reply.ensures c.in-Err.is c.number_of_reply.ensures c.place_of_reply.ensures wrote;
      front = tt;
      front_2 = at_front _ (wrote_fits wrote);
    }
