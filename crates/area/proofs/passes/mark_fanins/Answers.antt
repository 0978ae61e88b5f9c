-- `mark_fanins` meets its contract: the fanins passed that lay in the area are ends.
use native.Mathlib.Omega.{arith}
use mathlib.Core.Path.{refl}
use mathlib.Core.Logic.{inl, inr}
use Rattle.storage.proofs.Drawings.{fed_entry}
use Rattle.area.proofs.Ends.{fanins_turn}
use Rattle.area.proofs.passes.mark_fanins.Goals as goal
use Rattle.area.proofs.passes.mark_fanins.Goals.{then-roles-v-eq-AREA, else-roles-v-eq-AREA}

pub bounds-roles-v : goal.bounds-roles-v
bounds-roles-v c =
    omega (arith, c.loop-id.auto.roles, fed_entry c.requires c.list_at-id-items.ensures c.loop-id-test.true)

pub loop-id-preserved : goal.loop-id-preserved
loop-id-preserved c =
    let l = c.loop-id in
    fanins_turn _ l.id-index c.loop-id-test.true l.invariant refl
    (omega (arith, l.auto.roles, fed_entry c.requires c.list_at-id-items.ensures c.loop-id-test.true))
    (elim c.if-roles-v-eq-AREA.branch [
      | then-roles-v-eq-AREA w ↦ inl (w.if-roles-v-eq-AREA.true, w.roles-is)
      | else-roles-v-eq-AREA w ↦ inr (w.if-roles-v-eq-AREA.false, w.roles-is)
    ])
