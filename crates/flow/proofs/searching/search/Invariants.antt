-- `search` meets its contract: each sweep keeps the search's invariant, and one that gives no number leaves all
-- settled.
use Prim.Native.Nat.{◌*◌, ◌-◌}
use Rattle.flow.specs.Cells.{PathsKept}
use Rattle.flow.specs.Turns.{Searched}
use Rattle.flow.proofs.searching.search.Given as goal

abbrev pub invariant-loop-end : goal.invariant-loop-end
invariant-loop-end l = Searched l.net.numbers.inputs l.net.numbers.nodes l.net.fanins.now l.roles l.links l.number × PathsKept l.net.numbers.nodes l.initial.links l.links

abbrev pub decreases-loop-end : goal.decreases-loop-end
decreases-loop-end l = 2 * l.net.numbers.nodes - l.number
