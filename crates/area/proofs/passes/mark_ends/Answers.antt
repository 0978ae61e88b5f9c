-- `mark_ends` meets its contract: the fanins of the members of D passed are ends, where they lie in the area.
use mathlib.Core.Logic.{inl, inr}
use Rattle.area.proofs.Ends.{ends_turn}
use Rattle.area.proofs.passes.mark_ends.Goals as goal
use Rattle.area.proofs.passes.mark_ends.Goals.{then-roles-d-eq-DEEP, else-roles-d-eq-DEEP}

pub loop-d-preserved : goal.loop-d-preserved
loop-d-preserved c =
    ends_turn c.loop-d.invariant
    (elim c.if-roles-d-eq-DEEP.branch [
      | then-roles-d-eq-DEEP w ↦ inl (w.if-roles-d-eq-DEEP.true, rw w.roles-is w.mark_fanins.auto.roles, rw w.roles-is w.mark_fanins.ensures)
      | else-roles-d-eq-DEEP w ↦ inr (w.if-roles-d-eq-DEEP.false, w.roles-is)
    ])
