-- `is_keyword` meets its contract.
use Rattle.grammar.specs.paper.Grammar.{between}
use Rattle.spelling.proofs.Keywords.{told_in, told_out}
use Rattle.spelling.proofs.is_keyword.Goals as goal

pub returns-then-eq : goal.returns-then-eq
returns-then-eq c = told_in (between c.args.text.now c.args.at c.args.end) (rw c.as_slice.ensures at c.eq.ensures) c.if-eq.true

pub returns-else-eq : goal.returns-else-eq
returns-else-eq c = told_out (between c.args.text.now c.args.at c.args.end) (rw c.as_slice.ensures at c.eq.ensures) c.if-eq.false (rw c.as_slice-else-eq.ensures at c.eq-else-eq.ensures)
