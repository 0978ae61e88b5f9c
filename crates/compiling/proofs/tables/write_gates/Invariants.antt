-- `write_gates` meets its contract: the head, and each turn a gate more. What stood in the buffer before the head is
-- any list that the head was put into.
use Rattle.compiling.proofs.TablesWritten.{GatesSofar}
use Rattle.compiling.proofs.tables.write_gates.Given as goal

abbrev pub invariant-loop-gate : goal.invariant-loop-gate
invariant-loop-gate l = GatesSofar l.equations.text.now l.equations.gates.now l.equations.names.now l.initial.table l.equations.counts l.initial.at l.table l.at l.gate
