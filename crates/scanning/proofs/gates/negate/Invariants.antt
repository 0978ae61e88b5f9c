-- `negate` meets its contract.
use Prim.Native.Nat.{◌+◌}
use mathlib.Core.Path.{◌≡◌}
use lib.ListN.{length}
use Rattle.scanning.specs.Reading.{Negated}
use Rattle.scanning.proofs.gates.negate.Given as goal

abbrev pub invariant-loop : goal.invariant-loop
invariant-loop l = (length l.gates ≡ length l.initial.gates) × (l.last.made ≡ l.initial.last.made + l.counter) × Negated l.counter l.initial.last l.initial.gates l.gates l.last
