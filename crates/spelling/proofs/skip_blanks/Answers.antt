-- `skip_blanks` meets its contract: all before `next` are blanks.
use Rattle.spelling.proofs.Bytes.{blanks_to_end}
use Rattle.spelling.proofs.skip_blanks.Goals as goal

pub returns : goal.returns
returns c = rw c.max.ensures (blanks_to_end _ c.loop-next.invariant c.loop-next.auto.next-end c.loop-next-test.false)
