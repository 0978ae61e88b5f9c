-- `is_path` meets its contract: the first node is taken, and the path goes on from there.
use native.Mathlib.Omega.{arith}
use borrow.Author.Tests.{lt-ltb, le-ltb}
use mathlib.Core.Path.{sym, ap, ◌∙◌}
use mathlib.Core.Bool.{Bool, ◌&&◌, and-false}
use lib.Dec.{ltb}
use Rattle.storage.specs.Roles.{area_in}
use Rattle.judging.specs.Paths.{is_marked}
use Rattle.judging.proofs.Runs.{id_asks, first_inside, path_refused, path_goes, path_told}
use Rattle.judging.proofs.paths.is_path.Goals as goal

pub id_at-first-requires : goal.id_at-first-requires
id_at-first-requires c =
    let p = c.requires in let asked = id_asks p.room p.stand p.some in record { width_bound = asked.0; width_in_bounds = asked.1.0; width_bound_2 = asked.1.1 }

pub returns-then-inputs-first : goal.returns-then-inputs-first
returns-then-inputs-first c =
    let asked = c.requires in
    let a = c.args in
    let v = c.id_at-first.result.id in
    let outside = le-ltb v a.inputs (omega (arith, c.if-inputs-first.true)) in
    path_refused a.inputs asked c.id_at-first.ensures
    (ap (λ (b : Bool). b && is_marked (area_in a.roles.now) v) outside)

pub is_free-requires : goal.is_free-requires
is_free-requires c =
    let a = c.args in
    let asked = c.requires in
    first_inside a.inputs asked c.id_at-first.ensures

pub returns-then-not-is_free : goal.returns-then-not-is_free
returns-then-not-is_free c =
    let asked = c.requires in
    let a = c.args in
    let v = c.id_at-first.result.id in
    let unfree = sym c.is_free.ensures ∙ c.if-not-is_free.true in
    path_refused a.inputs asked c.id_at-first.ensures
    (ap (λ (b : Bool). ltb v a.inputs && b) unfree ∙ and-false (ltb v a.inputs))

pub goes_on-requires : goal.goes_on-requires
goes_on-requires c =
    let a = c.args in
    let p = c.requires in
    path_goes a.inputs p c.id_at-first.ensures c.take.ensures

pub returns : goal.returns
returns c =
    let a = c.args in
    let p = c.requires in
    let v = c.id_at-first.result.id in
    let low = lt-ltb v a.inputs (omega (arith, c.if-inputs-first.false)) in
    let free = sym c.is_free.ensures ∙ c.if-not-is_free.false in
    path_told a.inputs p c.id_at-first.ensures c.take.ensures
    (ap (λ (b : Bool). b && is_marked (area_in a.roles.now) v) low ∙ free) c.goes_on.ensures
