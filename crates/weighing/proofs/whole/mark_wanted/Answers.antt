-- `mark_wanted` meets its contract: the marks are at the outputs and at the leaves of the roots passed.
use native.Mathlib.Omega.{arith}
use mathlib.Core.Path.{refl, ap, ◌∙◌}
use lib.ListN.{length}
use Rattle.storage.proofs.Clears.{cleared_size}
use Rattle.weighing.proofs.Wanted.{outputs_fit, wanted_begin, leaves_fit, wanted_root, wanted_other, wanted_all}
use Rattle.weighing.proofs.whole.mark_wanted.Goals.{then-luts-v-eq1, else-luts-v-eq1}
use Rattle.weighing.proofs.whole.mark_wanted.Goals as goal

pub fill-requires : goal.fill-requires
fill-requires c =
    let pre = c.requires in
    pre.wanted_long

pub mark_gates-requires : goal.mark_gates-requires
mark_gates-requires c =
    let a = c.args in
    let p = c.requires in
    let same = ap length c.fill.ensures ∙ cleared_size a.numbers.nodes a.wanted.now p.wanted_long in
    rw same (outputs_fit p)

pub loop-v-init : goal.loop-v-init
loop-v-init c =
    let args = c.args in
    let pre = c.requires in
    wanted_begin pre args.wanted.now refl c.fill.ensures c.mark_gates.ensures

pub mark_leaves-requires : goal.mark_leaves-requires
mark_leaves-requires c =
    let a = c.args in
    let p = c.requires in
    let l = c.loop-v in
    let same = ap length c.fill.ensures ∙ cleared_size a.numbers.nodes a.wanted.now p.wanted_long in
    rw (l.invariant.rest.size, c.mark_gates.ensures.long, same)
    (leaves_fit p l.auto.v c.loop-v-test.true)

pub loop-v-preserved : goal.loop-v-preserved
loop-v-preserved c =
    let p = c.requires in
    let l = c.loop-v in
    elim c.if-luts-v-eq1.branch [
      | then-luts-v-eq1 w ↦ rw w.wanted-is (wanted_root p l.auto.v c.loop-v-test.true l.invariant (omega (arith, w.if-luts-v-eq1.true)) w.mark_leaves.ensures)
      | else-luts-v-eq1 w ↦ rw w.wanted-is (wanted_other p l.auto.v c.loop-v-test.true l.invariant (λ listed. w.if-luts-v-eq1.false (omega (arith, listed))))
    ]

pub shape_of-wanted : goal.shape_of-wanted
shape_of-wanted c =
    let a = c.args in
    let p = c.requires in
    let same = ap length c.fill.ensures ∙ cleared_size a.numbers.nodes a.wanted.now p.wanted_long in
    c.loop-v.invariant.rest.size ∙ c.mark_gates.ensures.long ∙ same

pub returns : goal.returns
returns c =
    let args = c.args in
    let pre = c.requires in
    wanted_all pre args.wanted.now refl c.fill.ensures c.mark_gates.ensures
    (omega (arith, c.loop-v-test.false)) c.loop-v.invariant
