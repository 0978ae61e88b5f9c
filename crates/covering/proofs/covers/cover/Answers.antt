-- `cover` meets its contract: back along the order, what is marked is needed, and what had its turn has its leaves
-- marked.
use native.Mathlib.Omega.{arith}
use Prim.Native.Nat.{◌+◌, ◌-◌}
use mathlib.Core.Path.{◌≡◌, refl, ap, ◌∙◌}
use lib.ListN.{length}
use Rattle.storage.proofs.Clears.{cleared_size}
use Rattle.covering.proofs.Backing.{outputs_fit, gate_low, leaves_fit, backed_first, backed_root, backed_other}
use Rattle.covering.proofs.Backing.{cover_made}
use Rattle.covering.proofs.covers.cover.Goals as goal

pub mark_gates-requires : goal.mark_gates-requires
mark_gates-requires c =
    let a = c.args in
    let p = c.requires in
    let same = ap length c.fill.ensures ∙ cleared_size a.numbers.nodes a.luts.now p.luts_long in
    rw same (outputs_fit p)

pub loop-i-init : goal.loop-i-init
loop-i-init c =
    let args = c.args in
    let pre = c.requires in
    backed_first pre args.luts.now refl c.fill.ensures c.mark_gates.ensures

pub bounds-luts-gate : goal.bounds-luts-gate
bounds-luts-gate c =
    let a = c.args in
    let p = c.requires in
    let l = c.loop-i in
    let same = ap length c.fill.ensures ∙ cleared_size a.numbers.nodes a.luts.now p.luts_long in
    rw (c.node_at-gate.ensures, l.invariant.rest.size, c.mark_gates.ensures.long, same)
    (omega (arith, gate_low p (l.i - 1) (omega arith), p.luts_long))

pub mark_leaves-requires : goal.mark_leaves-requires
mark_leaves-requires c =
    let a = c.args in
    let p = c.requires in
    let l = c.loop-i in
    let same = ap length c.fill.ensures ∙ cleared_size a.numbers.nodes a.luts.now p.luts_long in
    rw (c.node_at-gate.ensures, l.invariant.rest.size, c.mark_gates.ensures.long, same)
    (leaves_fit p (l.i - 1) (omega arith))

pub loop-i-preserved-then-luts-gate-eq1 : goal.loop-i-preserved-then-luts-gate-eq1
loop-i-preserved-then-luts-gate-eq1 c =
    let pre = c.requires in
    let l = c.loop-i in
    let one : l.i ≡ l.i - 1 + 1 = omega arith in
    backed_root pre (l.i - 1) (omega arith) (rw one at l.invariant)
    (omega (arith, (rw c.node_at-gate.ensures at c.if-luts-gate-eq1.true))) (rw c.node_at-gate.ensures at c.mark_leaves.ensures)

pub loop-i-preserved : goal.loop-i-preserved
loop-i-preserved c =
    let pre = c.requires in
    let l = c.loop-i in
    let one : l.i ≡ l.i - 1 + 1 = omega arith in
    backed_other pre (l.i - 1) (omega arith) (rw one at l.invariant)
    (λ marked. (rw c.node_at-gate.ensures at c.if-luts-gate-eq1.false) (omega (arith, marked)))

pub returns : goal.returns
returns c =
    let args = c.args in
    let pre = c.requires in
    let l = c.loop-i in
    let none : l.i ≡ 0 = omega arith in
    cover_made pre (rw none at l.invariant) args.luts.now refl c.fill.ensures c.mark_gates.ensures
    c.count_marks.ensures
