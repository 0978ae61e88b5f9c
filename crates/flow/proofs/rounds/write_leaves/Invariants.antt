-- `write_leaves` meets its contract: the leaves passed stand in the array.
use Rattle.flow.proofs.Rounded.{Written}
use Rattle.flow.proofs.rounds.write_leaves.Given as goal

abbrev pub invariant-loop-i : goal.invariant-loop-i
invariant-loop-i l = Written l.nodes l.links l.initial.cut l.cut l.j l.i
