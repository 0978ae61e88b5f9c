-- `visit_gate` meets its contract: the search's invariant holds on.
use Rattle.storage.specs.Entries.{at}
use Rattle.storage.specs.Roles.{area_in}
use Rattle.flow.proofs.Ways.{marked, unmarked}
use Rattle.flow.proofs.Finding.{visit_none, visit_both, visit_in, enter_asked, leave_asked}
use mathlib.Core.Path.{ap}
use mathlib.Core.Bool.{not}
use Rattle.flow.proofs.searching.visit_gate.Goals as goal

pub returns-then-not-is_free : goal.returns-then-not-is_free
returns-then-not-is_free c =
    let a = c.args in
    let s = c.requires.visit in
    visit_none s.ground s.searched
    (unmarked (at (area_in a.roles.now) a.v.id) c.is_free.ensures (ap not c.if-not-is_free.true))

pub enter_gate-entered-requires : goal.enter_gate-entered-requires
enter_gate-entered-requires c =
    let s = c.requires.visit in
    enter_asked s.ground s.low s.searched c.requires.gate

pub leave-requires : goal.leave-requires
leave-requires c =
    let a = c.args in
    let inside =
    marked (at (area_in a.roles.now) a.v.id) c.is_free.ensures (ap not c.if-not-is_free.false) in
    let s = c.requires.visit in
    leave_asked s.ground s.low (visit_in s.ground s.searched inside c.enter_gate-entered.ensures)

pub returns : goal.returns
returns c =
    let a = c.args in
    let inside =
    marked (at (area_in a.roles.now) a.v.id) c.is_free.ensures (ap not c.if-not-is_free.false) in
    let s = c.requires.visit in
    visit_both s.ground s.searched inside c.enter_gate-entered.ensures
    c.leave.ensures
