-- `inputs_stop` meets its contract: each input passed is a leaf if it is met.
use Prim.Native.Nat.{ℕ, ◌≤◌, ◌<◌}
use mathlib.Core.Path.{◌≡◌}
use mathlib.Core.List.{Memᴰ}
use lib.ListN.{get_or}
use Rattle.storage.specs.Roles.{met_in}
use Rattle.walking.proofs.cones.inputs_stop.Given as goal

abbrev pub invariant-loop-v : goal.invariant-loop-v
invariant-loop-v l = (l.v ≤ l.inputs) × ((u : ℕ) → u < l.v → get_or (met_in l.roles) u 0 ≡ 1 → Memᴰ u l.leaves)
