-- `skip_bangs` meets its contract.
use Prim.Native.Nat.{◌-◌}
use lib.ListN.{length}
use Rattle.scanning.proofs.Bangs.{SoFar}
use Rattle.scanning.proofs.operands.skip_bangs.Given as goal

abbrev pub invariant-loop-next : goal.invariant-loop-next
invariant-loop-next l = SoFar l.text l.at l.next l.count

abbrev pub decreases-loop-next : goal.decreases-loop-next
decreases-loop-next l = length l.text - l.next
