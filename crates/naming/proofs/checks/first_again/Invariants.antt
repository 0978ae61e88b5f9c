-- `first_again` meets its contract: so far, the least of the names passed.
use Rattle.naming.specs.Wrongs.{LeastOf, OneBelow, AgainAt}
use Rattle.naming.proofs.checks.first_again.Given as goal

abbrev pub invariant-loop-i : goal.invariant-loop-i
invariant-loop-i l = LeastOf (OneBelow l.i (AgainAt l.equations.text.now l.equations.names.now)) l.best
