-- `put_leaf` meets its contract.
use native.Mathlib.Omega.{arith}
use Rattle.flow.proofs.Rounded.{is_leaf_lem}
use Rattle.flow.proofs.rounds.put_leaf.Goals as goal

pub overflow_add-result : goal.overflow_add-result
overflow_add-result c =
    omega (
      arith,
      c.well_formed,
      c.requires.room
          (is_leaf_lem c.at.ensures c.at-2.ensures c.if-at-eq-NOT_FOUND.false c.if-at-ne-NOT_FOUND.false),
    )
