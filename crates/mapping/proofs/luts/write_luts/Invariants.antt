-- `write_luts` meets its contract: the LUTs of the nodes passed are written.
use Rattle.mapping.proofs.LutsWritten.{LutsSoFar}
use Rattle.mapping.proofs.luts.write_luts.Given as goal

abbrev pub invariant-loop-v : goal.invariant-loop-v
invariant-loop-v l = LutsSoFar l.form l.cuts l.luts l.tables l.nodes l.initial.sheet l.at l.sheet l.to l.v
