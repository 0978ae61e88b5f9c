-- `write_outputs` meets its contract: each turn writes an output more.
use Rattle.compiling.proofs.TablesWritten.{OutputsSofar}
use Rattle.compiling.proofs.tables.write_outputs.Given as goal

abbrev pub invariant-loop-i : goal.invariant-loop-i
invariant-loop-i l = OutputsSofar l.equations.text.now l.equations.names.now l.initial.table l.start l.equations.counts l.table l.at l.i
