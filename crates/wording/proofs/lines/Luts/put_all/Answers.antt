-- `Luts::put_all` meets its contract: what is left to put is the text of the other roots.
use Rattle.wording.specs.Luts.{line_at}
use Rattle.wording.proofs.Listed.{marks_room, marks_turn, marks_end}
use Rattle.wording.proofs.lines.Luts.put_all.Goals as goal

pub put_marked-requires-clause-mark_in_bounds : goal.put_marked-requires-clause-mark_in_bounds
put_marked-requires-clause-mark_in_bounds c =
    let a = c.args in
    marks_room (line_at a.self.now) a.marks.now
    c.loop-v.invariant c.loop-v-test.true

pub loop-v-preserved : goal.loop-v-preserved
loop-v-preserved c =
    let a = c.args in
    marks_turn (line_at a.self.now) a.marks.now
    c.loop-v.invariant c.loop-v-test.true c.put_marked.ensures

pub returns : goal.returns
returns c =
    let a = c.args in
    marks_end (line_at a.self.now) a.marks.now
    c.loop-v.invariant c.loop-v-test.false
