-- `read_names` meets its contract: the line so far is read, and each turn reads a name more.
use Prim.Native.Nat.{◌-◌}
use lib.ListN.{length}
use Rattle.scanning.specs.Lines.{Reading}
use Rattle.scanning.proofs.names.read_names.Given as goal

abbrev pub invariant-loop-span : goal.invariant-loop-span
invariant-loop-span l = Reading l.text l.outs l.at l.listed l.initial.names l.names l.end l.count

abbrev pub decreases-loop-span : goal.decreases-loop-span
decreases-loop-span l = length l.text - l.end
