-- `put_list` meets its contract: the places passed are filled.
use Prim.Native.Nat.{◌+◌, ◌-◌}
use lib.ListN.{get_or}
use Rattle.drawing.specs.paper.Bytes.{ids_at}
use Rattle.shaping.specs.Loading.{Filled, counted}
use Rattle.shaping.proofs.storing.put_list.Given as goal

abbrev pub invariant-loop-i : goal.invariant-loop-i
invariant-loop-i l = Filled l.initial.cuts l.base (l.base + l.i) (λ j. get_or (counted (ids_at l.sheet l.at l.terms.form.width l.size.leaves)) (j - l.base) 0) l.cuts
