-- `way_in` meets its contract.
use native.Mathlib.Omega.{arith}
use mathlib.Core.Path.{refl}
use Rattle.flow.specs.Links.{next_in, outs_in}
use Rattle.flow.proofs.Ways.{enter_fanin, enter_none}
use Rattle.flow.proofs.searching.way_in.Goals as goal

pub returns-in-Some : goal.returns-in-Some
returns-in-Some c =
    let a = c.args in
    let n = a.numbers.nodes in
    let l = a.links.now in
    enter_fanin a.numbers.inputs a.fanins.now (next_in n l) (outs_in n l) a.v.id
    c.in-Some.ensures (λ e. omega arith)

pub returns-in-Nowhere : goal.returns-in-Nowhere
returns-in-Nowhere c =
    let a = c.args in
    let n = a.numbers.nodes in
    let l = a.links.now in
    enter_none a.numbers.inputs a.fanins.now (next_in n l) (outs_in n l) a.v.id
    c.in_default.ensures refl c.requires.gate (λ used. absurd (omega (arith, c.in-Nowhere.ensures)))

pub returns-then-at-eq-NOT_FOUND : goal.returns-then-at-eq-NOT_FOUND
returns-then-at-eq-NOT_FOUND c =
    let a = c.args in
    let n = a.numbers.nodes in
    let l = a.links.now in
    enter_none a.numbers.inputs a.fanins.now (next_in n l) (outs_in n l) a.v.id
    c.in_default.ensures refl c.requires.gate (λ used. omega arith)
