-- `is_word_at` meets its contract: so far, the two words are walked side by side.
use Rattle.naming.proofs.Alike.{Alongside}
use Rattle.naming.proofs.words.is_word_at.Given as goal

abbrev pub invariant-loop-i : goal.invariant-loop-i
invariant-loop-i l = Alongside l.text l.a l.b l.size l.i
