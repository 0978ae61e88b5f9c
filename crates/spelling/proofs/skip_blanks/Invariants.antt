-- `skip_blanks` meets its contract: all before `next` are blanks.
use Rattle.grammar.specs.paper.Grammar.{Blanks}
use Rattle.spelling.proofs.skip_blanks.Given as goal

abbrev pub invariant-loop-next : goal.invariant-loop-next
invariant-loop-next l = Blanks l.text l.at l.next
