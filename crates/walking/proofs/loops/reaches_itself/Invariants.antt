-- `reaches_itself` meets its contract: what is listed lies behind the gate, and what was passed has its fanins listed.
use Prim.Native.Nat.{◌-◌}
use Rattle.walking.specs.Gathering.{Kept}
use Rattle.walking.proofs.Searches.{SearchLeft}
use Rattle.walking.proofs.loops.reaches_itself.Given as goal

abbrev pub invariant-loop-done : goal.invariant-loop-done
invariant-loop-done l = SearchLeft l.numbers.inputs l.numbers.nodes l.fanins l.gate.id l.list l.marks l.size l.done
    × Kept l.numbers.inputs l.numbers.nodes l.initial.list l.initial.marks l.list l.marks

abbrev pub decreases-loop-done : goal.decreases-loop-done
decreases-loop-done l = l.numbers.nodes - l.done
