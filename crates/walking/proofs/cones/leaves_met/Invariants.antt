-- `leaves_met` meets its contract: each leaf passed is a node that is met.
use Prim.Native.Nat.{ℕ, ◌<◌}
use mathlib.Core.Path.{◌≡◌}
use lib.ListN.{get_or}
use Rattle.storage.specs.Roles.{met_in}
use Rattle.walking.proofs.cones.leaves_met.Given as goal

abbrev pub invariant-loop-id : goal.invariant-loop-id
invariant-loop-id l =
    (j : ℕ) → j < l.id-index → (get_or l.leaves j 0 < l.nodes) × (get_or (met_in l.roles) (get_or l.leaves j 0) 0 ≡ 1)
