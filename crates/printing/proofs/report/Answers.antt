-- `report` meets its contract: the line is that of the inspector's reply.
use Rattle.printing.proofs.Replies.{reported}
use Rattle.printing.proofs.report.Goals as goal

pub returns-clause-reports : goal.returns-clause-reports
returns-clause-reports c = reported c.if-text-lt-LINE_ROOM.false c.inspect-reply.ensures c.write_reply.ensures
