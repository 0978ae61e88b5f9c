-- `is_leaf` meets its contract: no leaf passed is the node.
use Prim.Native.Nat.{ℕ, ◌<◌}
use mathlib.Core.Path.{◌≡◌}
use lib.ListN.{get_or}
use Rattle.walking.proofs.cones.is_leaf.Given as goal

abbrev pub invariant-loop-id : goal.invariant-loop-id
invariant-loop-id l = (j : ℕ) → j < l.id-index → get_or l.leaves j 0 ≡ l.node.id → ⊥
