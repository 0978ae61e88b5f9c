-- `way_out` meets its contract.
use native.Mathlib.Omega.{arith}
use mathlib.Core.Path.{sym}
use Rattle.flow.specs.Links.{next_in, ins_in}
use Rattle.flow.proofs.Ways.{left_through, left_sink, left_back}
use Rattle.flow.proofs.searching.way_out.Goals as goal

pub returns-in-Nowhere : goal.returns-in-Nowhere
returns-in-Nowhere c =
    let a = c.args in
    let l = a.links.now in
    left_through (next_in a.nodes l) (ins_in a.nodes l) a.v.id c.at.result (sym c.in-Nowhere.ensures) c.at.ensures

pub returns-in-Edge : goal.returns-in-Edge
returns-in-Edge c =
    let a = c.args in
    let l = a.links.now in
    left_sink (next_in a.nodes l) (ins_in a.nodes l) a.v.id (sym c.in-Edge.ensures)

pub at-requires-in-To : goal.at-requires-in-To
at-requires-in-To c =
    let p = c.requires in
    record { small = p.small; long = p.long; one_of_five = omega arith; node = p.leads _ (sym c.in-To.ensures) }

pub returns-in-To : goal.returns-in-To
returns-in-To c =
    let a = c.args in
    let l = a.links.now in
    left_back (next_in a.nodes l) (ins_in a.nodes l) a.v.id c.in-To.g.id _
    (sym c.in-To.ensures) (omega (arith, c.at-in-To.ensures))
