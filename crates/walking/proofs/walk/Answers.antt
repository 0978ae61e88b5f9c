-- `walk` meets its contract: the gates from place i on had their turn.
use native.Mathlib.Omega.{arith}
use mathlib.Core.Path.{◌≡◌, refl}
use Rattle.storage.proofs.Drawings.{drawn_span}
use Rattle.walking.proofs.WalkLoops.{walk_begins, walk_made, turn_room, walk_turns}
use Rattle.walking.proofs.walk.Goals as goal

pub overflow_step-i : goal.overflow_step-i
overflow_step-i c =
    drawn_span c.requires.drawing.drawn

pub loop-i-init : goal.loop-i-init
loop-i-init c =
    (omega arith, walk_begins c.requires c.fill.ensures refl)

pub pass-requires : goal.pass-requires
pass-requires c = let asked =
    turn_room c.requires c.fill.ensures refl c.loop-i.invariant.1
    c.loop-i-test.true c.loop-i.invariant.0 c.node_at.ensures in record { fanins_in_bounds = asked.0; id_in_bounds = asked.1.0; id_bound = asked.1.1 }

pub loop-i-preserved : goal.loop-i-preserved
loop-i-preserved c =
    let held = c.loop-i.invariant in (
      omega (arith, held.0),
      walk_turns c.requires c.fill.ensures refl held.1 c.loop-i-test.true held.0
          c.node_at.ensures c.pass.ensures,
    )

pub returns : goal.returns
returns c =
    let none : c.loop-i.i ≡ 0 = omega (arith, c.loop-i-test.false) in
    walk_made c.requires c.fill.ensures refl (rw none at c.loop-i.invariant.1)
