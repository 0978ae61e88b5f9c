-- `first_broken` meets its contract: the gates before t keep their rules.
use Rattle.judging.specs.Gates.{lined_of}
use Rattle.judging.proofs.Passes.{Trying}
use Rattle.judging.proofs.first_broken.Given as goal

abbrev pub invariant-loop-t : goal.invariant-loop-t
invariant-loop-t l = Trying l.net.numbers.k.leaves l.net.numbers.inputs l.net.numbers.nodes l.net.fanins.now (lined_of l.form l.labels l.cuts l.places l.sheet)
    l.initial.roles l.t l.roles
