-- `row_of` meets its contract: from the last node back, each value is one digit more.
use native.Mathlib.Omega.{arith}
use Prim.Native.Nat.{ℕ, ◌+◌, ◌*◌, ◌%◌, ◌-◌}
use mathlib.Core.Path.{◌≡◌, ap, sym, ◌∙◌}
use lib.ListN.{get_or}
use Rattle.covering.proofs.Sweeps.{row_from, row_from_end, row_from_more, row_from_small}
use Rattle.covering.proofs.cones.row_of.Goals as goal

pub loop-i-init : goal.loop-i-init
loop-i-init c =
    let a = c.args in
    sym (row_from_end a.ids.now a.at a.many a.values.now c.requires.inside)

pub overflow_mul-row : goal.overflow_mul-row
overflow_mul-row c =
    let a = c.args in
    let p = c.requires in
    let l = c.loop-i in
    omega (
      arith,
      row_from_small a.ids.now a.at a.many a.values.now p.inside l.i p.few,
      l.invariant,
    )

pub overflow_add-row-in-loop-i : goal.overflow_add-row-in-loop-i
overflow_add-row-in-loop-i c =
    let a = c.args in
    let p = c.requires in
    let l = c.loop-i in
    omega (
      arith,
      row_from_small a.ids.now a.at a.many a.values.now p.inside l.i p.few,
      l.invariant,
    )

pub loop-i-preserved : goal.loop-i-preserved
loop-i-preserved c =
    let a = c.args in
    let p = c.requires in
    let l = c.loop-i in
    let one : l.i - 1 + 1 ≡ l.i = omega arith in
    let turn = row_from_more a.ids.now a.at a.many a.values.now p.inside (l.i - 1) (omega arith) in
    let so_far = l.invariant ∙ ap (row_from a.ids.now a.at a.many a.values.now) (sym one) in
    let digit = get_or a.values.now (get_or a.ids.now (a.at + (l.i - 1)) 0) 0 % 2 in
    ap (λ (r : ℕ). 2 * r + digit) so_far ∙ sym turn
