-- `store_tables` meets its contract: the nodes passed have their tables.
use Rattle.packing.proofs.TablesStored.{TablesSoFar}
use Rattle.packing.proofs.store_tables.Given as goal

abbrev pub invariant-loop-v : goal.invariant-loop-v
invariant-loop-v l = TablesSoFar l.net.numbers.inputs l.net.numbers.nodes l.net.fanins.now l.rows l.cuts l.luts l.initial.words l.words l.v
