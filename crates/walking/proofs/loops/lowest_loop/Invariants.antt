-- `lowest_loop` meets its contract: no gate passed reaches itself.
use Rattle.walking.proofs.Searches.{LowestLeft}
use Rattle.walking.proofs.loops.lowest_loop.Given as goal

abbrev pub invariant-loop-v : goal.invariant-loop-v
invariant-loop-v l = LowestLeft l.numbers.inputs l.numbers.nodes l.fanins l.initial.list l.initial.marks l.list l.marks l.v
