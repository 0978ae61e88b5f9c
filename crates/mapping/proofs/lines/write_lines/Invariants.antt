-- `write_lines` meets its contract: the lines of the gates passed are written.
use Rattle.mapping.proofs.LinesWritten.{LinesSoFar}
use Rattle.mapping.proofs.lines.write_lines.Given as goal

abbrev pub invariant-loop-v : goal.invariant-loop-v
invariant-loop-v l = LinesSoFar l.form l.net.numbers.inputs l.net.numbers.nodes l.net.numbers.k.leaves l.net.fanins.now l.labels l.cuts l.initial.roles l.initial.links l.initial.sheet l.at
    l.roles l.links l.sheet l.to l.v
