-- `mark_gates` meets its contract: the gates among the nodes passed are marked.
use Rattle.covering.specs.Covers.{GatesMarked}
use Rattle.covering.proofs.covers.mark_gates.Given as goal

abbrev pub invariant-loop-id : goal.invariant-loop-id
invariant-loop-id l = GatesMarked l.ids l.at l.id-index l.inputs l.initial.marks l.marks
