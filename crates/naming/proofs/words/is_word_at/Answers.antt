-- `is_word_at` meets its contract: so far, the two words are walked side by side.
use native.Mathlib.Omega.{arith}
use Rattle.naming.proofs.Alike.{along_more, along_differ}
use Rattle.naming.proofs.words.is_word_at.Goals as goal

pub returns-then-byte_at : goal.returns-then-byte_at
returns-then-byte_at c =
    along_differ c.args.text.now c.loop-i.invariant c.loop-i-test.true
    (λ e. c.if-byte_at.true (omega (arith, e, c.byte_at.ensures, c.byte_at-in-loop-i.ensures)))

pub loop-i-preserved : goal.loop-i-preserved
loop-i-preserved c =
    along_more c.args.text.now c.loop-i.invariant c.loop-i-test.true
    (omega (arith, c.if-byte_at.false, c.byte_at.ensures, c.byte_at-in-loop-i.ensures))
