-- `list_place` meets its contract: the first place has the count, and the others the ids.
use mathlib.Core.Path.{◌≡◌, ap, sym, ◌∙◌}
use Prim.Native.Nat.{ℕ, suc, ◌-◌}
use lib.ListN.{get_or}
use Rattle.drawing.specs.paper.Bytes.{ids_at}
use Rattle.shaping.specs.Loading.{counted}
use Rattle.drawing.proofs.Ids.{length_ids}
use Rattle.shaping.proofs.Ids.{id_at, id_past}
use native.Mathlib.Omega.{arith}
use Rattle.shaping.proofs.storing.list_place.Goals as goal

pub returns-then-i-eq0 : goal.returns-then-i-eq0
returns-then-i-eq0 c =
    let a = c.args in
    let ids = ids_at a.sheet.now a.at a.terms.form.width a.size.leaves in
    sym (length_ids a.sheet.now a.at a.terms.form.width a.size.leaves)
    ∙ ap (λ (n : ℕ). get_or (counted ids) n 0) (sym c.if-i-eq0.true)

pub returns-then-size-before : goal.returns-then-size-before
returns-then-size-before c =
    let a = c.args in
    let ids = ids_at a.sheet.now a.at a.terms.form.width a.size.leaves in
    let place : suc (a.i - 1) ≡ a.i = omega arith in
    sym (id_past a.sheet.now a.at a.terms.form.width a.size.leaves (a.i - 1) (omega arith))
    ∙ ap (λ (n : ℕ). get_or (counted ids) n 0) place

pub returns : goal.returns
returns c =
    let a = c.args in
    let ids = ids_at a.sheet.now a.at a.terms.form.width a.size.leaves in
    let place : suc (a.i - 1) ≡ a.i = omega arith in
    c.node_at.ensures.number
    ∙ sym (id_at a.sheet.now a.at a.terms.form.width a.size.leaves (a.i - 1) (omega arith))
    ∙ ap (λ (n : ℕ). get_or (counted ids) n 0) place
