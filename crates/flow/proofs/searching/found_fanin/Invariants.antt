-- `found_fanin` meets its contract: none of the fanins passed was found.
use Prim.Native.Nat.{ℕ, ◌<◌}
use mathlib.Core.Path.{◌≡◌}
use lib.ListN.{get_or}
use Rattle.storage.specs.Entries.{at}
use Rattle.flow.specs.Links.{outs_in}
use Rattle.flow.proofs.searching.found_fanin.Given as goal

abbrev pub invariant-loop-id : goal.invariant-loop-id
invariant-loop-id l = (j : ℕ) → j < l.id-index → at (outs_in l.nodes l.links) (get_or l.id-items j 0) ≡ 0
