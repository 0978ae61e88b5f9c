-- `cover` meets its contract: back along the order, what is marked is needed, and what had its turn has its leaves
-- marked.
use lib.ListN.{take}
use Rattle.covering.proofs.Backing.{Backed}
use Rattle.covering.proofs.covers.cover.Given as goal

abbrev pub invariant-loop-i : goal.invariant-loop-i
invariant-loop-i l = Backed l.inputs l.nodes l.order l.cuts (take l.number l.outputs) l.i l.initial.luts l.luts

abbrev pub decreases-loop-i : goal.decreases-loop-i
decreases-loop-i l = l.i
