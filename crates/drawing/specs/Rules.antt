-- The first rule that holds, as a relation.
use Rattle.std.specs.Prelude.{true, false, List, [], ◌∷◌}
use Rattle.drawing.specs.paper.Rules.{Rule, ◌⇒◌}

-- `First done rules r`: r is the reply of the first rule that holds, and `done` where none does.
pub data First {R : Type 0} (done : R) : List (Rule R) → R → Type 0 where
  none : First done [] done
  here : {r : R} {rules : List (Rule R)} → First done ((true ⇒ r) ∷ rules) r
  later : {r reply : R} {rules : List (Rule R)} → First done rules reply → First done ((false ⇒ r) ∷ rules) reply
