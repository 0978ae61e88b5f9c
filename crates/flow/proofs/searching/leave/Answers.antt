-- `leave` meets its contract.
use native.Mathlib.Omega.{arith}
use mathlib.Core.Path.{subst}
use native.Mathlib.Numerals.{add-one}
use Rattle.flow.specs.Links.{next_in, ins_in}
use Rattle.flow.specs.Turns.{Left, VisitedOut}
use Rattle.flow.proofs.Columns.{stored_next}
use Rattle.flow.proofs.searching.leave.Goals as goal

pub returns-then-way_out : goal.returns-then-way_out
returns-then-way_out c =
    let a = c.args in
    let l = a.links.now in
    VisitedOut.new (add-one a.number) (omega arith)
    (subst (Left (next_in a.nodes l) (ins_in a.nodes l) a.v.id) c.if-way_out.true
    c.way_out.ensures)
    (stored_next c.put.ensures)
