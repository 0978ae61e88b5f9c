-- `cone_table` meets its contract: row by row, the table is that of the cone.
use Rattle.covering.proofs.ConeRows.{RowsMade}
use Rattle.covering.proofs.cones.cone_table.Given as goal

abbrev pub invariant-loop-row : goal.invariant-loop-row
invariant-loop-row l = RowsMade l.net.numbers.inputs l.net.numbers.nodes l.net.fanins.now l.rows l.at l.leaves l.initial.values l.row l.table l.values
