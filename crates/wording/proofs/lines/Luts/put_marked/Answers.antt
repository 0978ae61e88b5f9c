-- `Luts::put_marked` meets its contract.
use Rattle.wording.specs.Luts.{line_at}
use Rattle.wording.proofs.Puts.{put_none}
use Rattle.wording.proofs.Listed.{marked_root, marked_other}
use Rattle.wording.proofs.lines.Luts.put_marked.Goals as goal

pub put-requires-clause-line_in_bounds : goal.put-requires-clause-line_in_bounds
put-requires-clause-line_in_bounds c =
    rw
    (marked_root (line_at c.args.self.now)
    c.args.node.id c.args.mark c.if-mark-eq1.true)
    at c.requires.mark_in_bounds

pub returns-then-mark-eq1 : goal.returns-then-mark-eq1
returns-then-mark-eq1 c =
    rw
    (marked_root (line_at c.args.self.now)
    c.args.node.id c.args.mark c.if-mark-eq1.true)
    c.put.ensures

pub returns-else-mark-eq1 : goal.returns-else-mark-eq1
returns-else-mark-eq1 c =
    rw
    (marked_other (line_at c.args.self.now)
    c.args.node.id c.args.mark c.if-mark-eq1.false)
    (put_none c.args.pen.now)
