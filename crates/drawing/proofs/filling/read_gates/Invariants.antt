-- `read_gates` meets its contract: reading from here gives what reading from the start gives.
use Rattle.drawing.specs.Reading.{lines_of}
use Rattle.drawing.proofs.Filled.{GatesLeft}
use Rattle.drawing.proofs.filling.read_gates.Given as goal

abbrev pub invariant-loop-v : goal.invariant-loop-v
invariant-loop-v l = GatesLeft l.form l.s l.numbers.k.leaves l.numbers.inputs l.numbers.nodes (lines_of l.initial.fanins l.initial.rows)
    (lines_of l.fanins l.rows) l.v l.at
