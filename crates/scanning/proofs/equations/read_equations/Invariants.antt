-- `read_equations` meets its contract: each turn reads an equation more.
use Prim.Native.Nat.{◌-◌}
use lib.ListN.{length}
use Rattle.scanning.specs.Equations.{Sofar}
use Rattle.scanning.proofs.equations.read_equations.Given as goal

abbrev pub invariant-loop-moved : goal.invariant-loop-moved
invariant-loop-moved l = Sofar l.text l.at l.initial.gates l.initial.names l.inputs l.gates l.names l.next l.made l.listed

abbrev pub decreases-loop-moved : goal.decreases-loop-moved
decreases-loop-moved l = length l.text - l.next
