-- `take_table` meets its contract: short arrays and refusals leave the order as it was; a whole table is ordered.
use native.Mathlib.Omega.{arith}
use mathlib.Core.Path.{sym, subst, ◌∙◌}
use Rattle.std.proofs.lemmas.Result.{err_from_is_err_and}
use Rattle.drawing.specs.Reading.{arrays_of}
use Rattle.taking.specs.Taking.{After, Takes}
use Rattle.taking.proofs.Takings.{whole_room, whole_after, refused_after, ordered_ok, ordered_err}
use Rattle.taking.proofs.Judged.{roomy_long}
use Rattle.taking.proofs.take_table.Goals as goal

pub returns-in_err-numbers : goal.returns-in_err-numbers
returns-in_err-numbers c =
    let a = c.args in
    let read = c.read.ensures in
    let long = roomy_long a.order.now a.marks.now (omega (arith, c.if-order-lt-MOST_NODES.false)) (omega (arith, c.if-marks-lt-MOST_NODES.false)) in
    let p = err_from_is_err_and c.from_residual.result c.from_residual.ensures.1 in
    rw (p.1, p.2)
    (Takes.long long read.arrays
    (subst (After a.table.now a.order.now a.marks.now _ a.order.now a.marks.now) (sym c.in_err-numbers.was ∙ read.reply)
    (refused_after c.in_err-numbers.field-0.0)))

pub order_gates-requires : goal.order_gates-requires
order_gates-requires c =
    let a = c.args in
    let read = c.read.ensures in
    whole_room (arrays_of a.fanins.now a.rows.now a.outputs.now) a.table.now _ (sym read.reply ∙ c.in_ok-numbers.was) read.arrays a.order.now
    a.marks.now (omega (arith, c.if-order-lt-MOST_NODES.false)) (omega (arith, c.if-marks-lt-MOST_NODES.false))

pub returns-in_err-map_err : goal.returns-in_err-map_err
returns-in_err-map_err c =
    let a = c.args in
    let read = c.read.ensures in
    let long = roomy_long a.order.now a.marks.now (omega (arith, c.if-order-lt-MOST_NODES.false)) (omega (arith, c.if-marks-lt-MOST_NODES.false)) in
    let p = err_from_is_err_and c.from_residual-in_err-map_err.result c.from_residual-in_err-map_err.ensures.1 in
    Takes.long long read.arrays
    (whole_after (arrays_of a.fanins.now a.rows.now a.outputs.now) a.table.now _ (sym read.reply ∙ c.in_ok-numbers.was) read.arrays
    c.order_gates.result
    (rw (p.1, p.2) (ordered_err _ c.order_gates.result c.map_err.ensures.cases c.in_err-map_err.was)) c.order_gates.ensures)

pub returns : goal.returns
returns c =
    let a = c.args in
    let read = c.read.ensures in
    let long = roomy_long a.order.now a.marks.now (omega (arith, c.if-order-lt-MOST_NODES.false)) (omega (arith, c.if-marks-lt-MOST_NODES.false)) in
    Takes.long long read.arrays
    (whole_after (arrays_of a.fanins.now a.rows.now a.outputs.now) a.table.now _ (sym read.reply ∙ c.in_ok-numbers.was) read.arrays
    c.order_gates.result (ordered_ok _ c.order_gates.result c.map_err.ensures.cases c.in_ok-map_err.was) c.order_gates.ensures)
