-- `first_undefined_operand` meets its contract: so far, the least of the gates passed.
use Rattle.naming.specs.Wrongs.{LeastOf, OneBelow, UndefinedInGate}
use Rattle.naming.proofs.checks.first_undefined_operand.Given as goal

abbrev pub invariant-loop-gate : goal.invariant-loop-gate
invariant-loop-gate l = LeastOf (OneBelow l.gate (UndefinedInGate l.equations.text.now l.equations.names.now l.equations.counts.definitions l.equations.gates.now)) l.best
