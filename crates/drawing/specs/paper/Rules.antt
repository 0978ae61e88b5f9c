-- "The first fault is the reply": lists of rules in the paper's order.
use Rattle.std.specs.Prelude.{Bool, cond, List, [], ◌∷◌}

infix 40 ◌⇒◌
-- A rule: whether it holds, and the reply that it then gives.
pub data Rule (R : Type 0) : Type 0 where
  ◌⇒◌ : Bool → R → Rule R

-- That reply, worked out.
abbrev pub first : {R : Type 0} → R → List (Rule R) → R
first done [] = done
first done ((holds ⇒ r) ∷ rules) = cond holds r (first done rules)
