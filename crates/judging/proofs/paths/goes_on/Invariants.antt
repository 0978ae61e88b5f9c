-- `goes_on` meets its contract: each turn takes one node, and leaves the answer as it was.
use Prim.Native.Nat.{◌-◌}
use Rattle.judging.proofs.Runs.{Going}
use Rattle.judging.proofs.paths.goes_on.Given as goal

abbrev pub invariant-loop : goal.invariant-loop
invariant-loop l = Going l.fanins l.initial.last.id l.s l.at l.width l.size l.initial.roles l.last.id l.place (l.size - l.counter) l.roles
