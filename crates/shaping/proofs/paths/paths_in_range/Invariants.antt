-- `paths_in_range` meets its contract: what the range rules say of the paths from here on is what they say of all.
use Prim.Native.Nat.{◌-◌, ◌≤◌}
use mathlib.Core.Path.{◌≡◌}
use lib.ListN.{length}
use Rattle.shaping.specs.Numbers.{paths_end}
use Rattle.shaping.proofs.PathLists.{out_of_range}
use Rattle.shaping.proofs.paths.paths_in_range.Given as goal

abbrev pub invariant-loop : goal.invariant-loop
invariant-loop l = (paths_end l.sheet l.next l.width (l.count - l.counter) ≤ length l.sheet)
    × (out_of_range l.sheet l.width l.terms.numbers.nodes l.at l.count ≡ out_of_range l.sheet l.width l.terms.numbers.nodes l.next (l.count - l.counter))
