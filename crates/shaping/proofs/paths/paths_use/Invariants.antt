-- `paths_use` meets its contract: the paths use the value up if those from here on use up what is left.
use Prim.Native.Nat.{◌-◌, ◌≤◌}
use mathlib.Core.Path.{◌≡◌}
use Rattle.sheet.specs.paper.Shape.{paths_use}
use Rattle.shaping.proofs.paths.paths_use.Given as goal

abbrev pub invariant-loop : goal.invariant-loop
invariant-loop l = (l.next ≤ l.end) × (paths_use l.sheet l.at l.width l.count l.end ≡ paths_use l.sheet l.next l.width (l.count - l.counter) l.end)
