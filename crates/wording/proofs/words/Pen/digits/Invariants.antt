-- `Pen::digits` meets its contract: the digits still to put are those in front.
use mathlib.Core.Path.{◌≡◌}
use lib.ListN.{length}
use lib.Seq.{sets}
use Rattle.wording.specs.paper.Text.{digits}
use Rattle.wording.proofs.words.Pen.digits.Given as goal

abbrev pub invariant-loop-i : goal.invariant-loop-i
invariant-loop-i l = (l.self.text.ghost_name ≡ l.initial.self.text.ghost_name)
    × (l.self.at ≡ l.initial.self.at)
    × (length l.self.text.now ≡ length l.initial.self.text.now)
    × (sets l.self.text.now l.self.at (digits l.base l.i l.rest) ≡ sets l.initial.self.text.now l.initial.self.at (digits l.base l.count l.n))

abbrev pub decreases-loop-i : goal.decreases-loop-i
decreases-loop-i l = l.i
