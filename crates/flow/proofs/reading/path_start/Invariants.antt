-- `path_start` meets its contract: as many starts were seen as stand before.
use Prim.Native.Nat.{◌≤◌}
use mathlib.Core.Path.{◌≡◌}
use lib.ListN.{length}
use Rattle.flow.specs.Paths.{starts_in}
use Rattle.flow.proofs.reading.path_start.Given as goal

abbrev pub invariant-loop-v : goal.invariant-loop-v
invariant-loop-v l = (l.seen ≡ length (starts_in l.v l.nodes l.links)) × (l.seen ≤ l.i) × (l.seen ≤ l.v)
