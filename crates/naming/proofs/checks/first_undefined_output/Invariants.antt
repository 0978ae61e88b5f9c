-- `first_undefined_output` meets its contract: so far, the least of the outputs passed.
use Rattle.naming.specs.Wrongs.{LeastOf, OneBelow, UndefinedOutput}
use Rattle.naming.proofs.checks.first_undefined_output.Given as goal

abbrev pub invariant-loop-i : goal.invariant-loop-i
invariant-loop-i l = LeastOf (OneBelow l.i (UndefinedOutput l.equations.text.now l.equations.names.now l.equations.counts.definitions)) l.best
