-- `write_path` meets its contract: what was followed stands in the third column.
use Rattle.flow.proofs.Listing.{Following}
use Rattle.flow.proofs.reading.write_path.Given as goal

abbrev pub invariant-loop-j : goal.invariant-loop-j
invariant-loop-j l = Following l.nodes l.initial.v.id l.initial.links l.links l.v.id l.j
