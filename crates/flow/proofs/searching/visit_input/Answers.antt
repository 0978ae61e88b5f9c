-- `visit_input` meets its contract: what is numbered first leaves room for the second number.
use native.Mathlib.Omega.{arith}
use mathlib.Core.Path.{refl}
use Rattle.storage.specs.Entries.{at}
use Rattle.storage.specs.Roles.{area_in}
use Rattle.flow.specs.Turns.{InputVisited}
use Rattle.flow.proofs.Ways.{marked, unmarked}
use Rattle.flow.proofs.Finding.{visit_in, entered_input, number_room, leave_asked}
use mathlib.Core.Path.{ap}
use mathlib.Core.Bool.{not}
use Rattle.flow.proofs.searching.visit_input.Goals as goal

pub returns-then-not-is_free : goal.returns-then-not-is_free
returns-then-not-is_free c =
    let a = c.args in
    InputVisited.outside
    (unmarked (at (area_in a.roles.now) a.v.id) c.is_free.ensures (ap not c.if-not-is_free.true)) refl refl

pub enter_input-entered-requires : goal.enter_input-entered-requires
enter_input-entered-requires c =
    let p = c.requires.visit in
    record {
      cell_in = record { small = p.ground.small; long = p.searched.long; one_of_five = omega arith; node = p.low };
      number_bound = number_room p.ground p.low p.searched;
    }

pub leave-requires : goal.leave-requires
leave-requires c =
    let a = c.args in
    let inside =
    marked (at (area_in a.roles.now) a.v.id) c.is_free.ensures (ap not c.if-not-is_free.false) in
    let p = c.requires in
    let s = p.visit in
    leave_asked s.ground s.low
    (visit_in s.ground s.searched inside (entered_input p.input c.enter_input-entered.ensures))

pub returns : goal.returns
returns c =
    let a = c.args in
    let inside =
    marked (at (area_in a.roles.now) a.v.id) c.is_free.ensures (ap not c.if-not-is_free.false) in
    InputVisited.inside _ _ inside c.enter_input-entered.ensures c.leave.ensures
