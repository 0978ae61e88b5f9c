-- `digit_byte` meets its contract.
use borrow.Author.Tests.{lt-ltb, le-ltb}
use Rattle.wording.specs.paper.Text.{digit}
use Rattle.wording.proofs.words.digit_byte.Goals as goal

pub returns-then-d-lt10 : goal.returns-then-d-lt10
unfolding digit
returns-then-d-lt10 c = simp (lt-ltb _ _ c.if-d-lt10.true)

pub returns-else-d-lt10 : goal.returns-else-d-lt10
unfolding digit
returns-else-d-lt10 c = simp (le-ltb _ _ c.if-d-lt10.false)
