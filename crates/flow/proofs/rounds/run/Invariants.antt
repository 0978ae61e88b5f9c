-- `run` meets its contract: as many paths as rounds.
use Rattle.flow.proofs.Rounded.{Running}
use Rattle.flow.proofs.rounds.run.Given as goal

abbrev pub invariant-loop-number : goal.invariant-loop-number
invariant-loop-number l = Running l.net.numbers.inputs l.net.numbers.nodes l.net.numbers.k.leaves l.net.fanins.now l.roles l.initial.links l.links l.number
