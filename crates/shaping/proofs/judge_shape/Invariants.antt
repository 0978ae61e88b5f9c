-- What the loop keeps: a reader on the sheet, what is due where it stands, and the ruling to come; and its measure, how much is due.
use Rattle.std.proofs.Common.{◌≡◌, ◌≤◌}
use lib.ListN.{length}
use Rattle.sheet.specs.paper.Shape.{reading}
use Rattle.shaping.specs.Terms.{due_of}
use Rattle.shaping.specs.Runs.{due_ruling, turns_left}
use Rattle.shaping.proofs.judge_shape.Given as goal

abbrev pub invariant-loop-next : goal.invariant-loop-next
invariant-loop-next l =
    (l.reader.sheet.now ≡ l.sheet)
    × (l.reader.at ≤ length l.sheet)
    × ((reading (due_of l.terms) l.sheet).ruling ≡ due_ruling (due_of l.terms) l.sheet l.reader.at l.left)

abbrev pub decreases-loop-next : goal.decreases-loop-next
decreases-loop-next l = turns_left l.left
