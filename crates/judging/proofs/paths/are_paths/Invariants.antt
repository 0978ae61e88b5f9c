-- `are_paths` meets its contract: each turn checks one path, and leaves the answer as it was.
use Prim.Native.Nat.{◌-◌}
use Rattle.judging.proofs.Runs.{Passing}
use Rattle.judging.proofs.paths.are_paths.Given as goal

abbrev pub invariant-loop : goal.invariant-loop
invariant-loop l = Passing l.fanins l.inputs l.s l.at l.width l.q l.initial.roles l.place (l.q - l.counter) l.roles
