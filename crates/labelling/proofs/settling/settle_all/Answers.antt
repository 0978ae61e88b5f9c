-- `settle_all` meets its contract: after the first i gates, these are settled.
use native.Mathlib.Omega.{arith}
use Rattle.labelling.proofs.Turns.{gates_number, along_none, along_all, labels_size, cuts_size, turn_asked}
use Rattle.labelling.proofs.Turns.{along_more}
use Rattle.labelling.proofs.settling.settle_all.Goals as goal

pub overflow_sub-gates : goal.overflow_sub-gates
overflow_sub-gates c =
    omega (arith, gates_number c.requires.drawing)

pub loop-id-init : goal.loop-id-init
loop-id-init c = along_none _ _ _ _ _ _ _ _ _

pub settle-requires : goal.settle-requires
settle-requires c = turn_asked c.requires (omega (arith, c.loop-id-test.true, gates_number c.requires.drawing)) c.loop-id.invariant

pub loop-id-preserved : goal.loop-id-preserved
loop-id-preserved c = along_more c.requires (omega (arith, gates_number c.requires.drawing)) c.loop-id.invariant c.settle.ensures

pub shape_of-labels : goal.shape_of-labels
shape_of-labels c = labels_size c.requires c.loop-id.invariant

pub shape_of-cuts : goal.shape_of-cuts
shape_of-cuts c = cuts_size c.requires c.loop-id.invariant

pub returns : goal.returns
returns c = along_all (omega (arith, gates_number c.requires.drawing)) c.loop-id.invariant
