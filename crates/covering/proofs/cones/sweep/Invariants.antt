-- `sweep` meets its contract: the gates passed have their results.
use Rattle.covering.specs.Cones.{Swept}
use Rattle.covering.proofs.cones.sweep.Given as goal

abbrev pub invariant-loop-i : goal.invariant-loop-i
invariant-loop-i l = Swept l.fanins l.rows l.order l.i l.initial.values l.values
