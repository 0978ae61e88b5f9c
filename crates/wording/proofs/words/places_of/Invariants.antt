-- `places_of` meets its contract: each division takes one digit off.
use Prim.Native.Nat.{◌+◌}
use mathlib.Core.Path.{◌≡◌}
use Rattle.wording.specs.paper.Text.{places}
use Rattle.wording.proofs.words.places_of.Given as goal

abbrev pub invariant-loop-rest : goal.invariant-loop-rest
invariant-loop-rest l = 1 + places l.n ≡ l.count + places l.rest

abbrev pub decreases-loop-rest : goal.decreases-loop-rest
decreases-loop-rest l = l.rest
