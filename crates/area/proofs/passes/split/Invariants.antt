-- `split` meets its contract: the nodes passed have become what they should, and the others are as at the start.
use Rattle.area.specs.Passes.{Split}
use Rattle.area.proofs.passes.split.Given as goal

abbrev pub invariant-loop-v : goal.invariant-loop-v
invariant-loop-v l = Split l.fn.numbers.inputs l.v l.gate.id l.p.depth l.labels l.initial.roles l.roles
