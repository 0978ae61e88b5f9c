-- `is_ready` meets its contract: each fanin passed is marked.
use Prim.Native.Nat.{ℕ, ◌<◌}
use mathlib.Core.Path.{◌≡◌}
use lib.ListN.{get_or}
use Rattle.walking.proofs.sweeping.is_ready.Given as goal

abbrev pub invariant-loop-id : goal.invariant-loop-id
invariant-loop-id l = (j : ℕ) → j < l.id-index → get_or l.marks (get_or l.id-items j 0) 0 ≡ 1
