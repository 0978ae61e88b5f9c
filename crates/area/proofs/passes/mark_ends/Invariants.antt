-- `mark_ends` meets its contract: the fanins of the members of D passed are ends, where they lie in the area.
use Rattle.area.specs.Passes.{EndsMarked}
use Rattle.area.proofs.passes.mark_ends.Given as goal

abbrev pub invariant-loop-d : goal.invariant-loop-d
invariant-loop-d l = EndsMarked l.d l.fanins l.initial.roles l.roles
