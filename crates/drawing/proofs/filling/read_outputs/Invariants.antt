-- `read_outputs` meets its contract: reading from here gives what reading from the start gives.
use Prim.Native.Nat.{◌-◌}
use lib.ListN.{length}
use Rattle.drawing.proofs.Filled.{OutputsLeft}
use Rattle.drawing.proofs.filling.read_outputs.Given as goal

abbrev pub invariant-loop-at : goal.invariant-loop-at
invariant-loop-at l = OutputsLeft l.form l.s l.nodes l.start l.initial.outputs l.outputs l.at l.i

abbrev pub decreases-loop-at : goal.decreases-loop-at
decreases-loop-at l = length l.s - l.at
