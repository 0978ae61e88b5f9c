-- `cone_table` meets its contract: row by row, the table is that of the cone.
use native.Mathlib.Omega.{arith}
use Prim.Native.Nat.{◌+◌}
use mathlib.Core.Path.{ap, ◌∙◌}
use lib.ListN.{length}
use Rattle.storage.proofs.Clears.{cleared_size}
use Rattle.storage.proofs.Drawings.{gate_below}
use Rattle.covering.proofs.ConeRows.{leaves_fit, rows_few, gate_stands, sweep_fits, upto_gates}
use Rattle.covering.proofs.ConeRows.{table_fits_rows, rows_none, rows_more, rows_all}
use Rattle.covering.proofs.cones.cone_table.Goals as goal

pub place_of-upto-requires : goal.place_of-upto-requires
place_of-upto-requires c =
    let pre = c.requires in
    gate_stands pre

pub overflow_add-upto : goal.overflow_add-upto
overflow_add-upto c =
    let pre = c.requires in
    omega (arith, upto_gates pre c.place_of-upto.result c.place_of-upto.ensures)

pub loop-row-init : goal.loop-row-init
loop-row-init c =
    let args = c.args in
    let pre = c.requires in
    rows_none pre args.values.now pre.values_long c.fill.ensures

pub set_leaves-requires : goal.set_leaves-requires
set_leaves-requires c =
    let loop = c.loop-row in
    let a = c.args in
    let p = c.requires in
    let same = ap length c.fill.ensures ∙ cleared_size a.net.numbers.nodes a.values.now p.values_long in
    rw (loop.invariant.rest.size, same) (leaves_fit p)

pub sweep-requires : goal.sweep-requires
sweep-requires c =
    let loop = c.loop-row in
    let a = c.args in
    let p = c.requires in
    let same = ap length c.fill.ensures ∙ cleared_size a.net.numbers.nodes a.values.now p.values_long in
    rw (c.set_leaves.ensures.long, loop.invariant.rest.size, same)
    (sweep_fits p (c.place_of-upto.result + 1) (upto_gates p c.place_of-upto.result c.place_of-upto.ensures))

pub bounds-values-at : goal.bounds-values-at
bounds-values-at c =
    let loop = c.loop-row in
    let a = c.args in
    let p = c.requires in
    let low = gate_below a.net.numbers.inputs a.net.numbers.nodes a.net.fanins.now p.gate in
    let same = ap length c.fill.ensures ∙ cleared_size a.net.numbers.nodes a.values.now p.values_long in
    rw (c.sweep.ensures.long, c.set_leaves.ensures.long, loop.invariant.rest.size, same) (omega (arith, p.values_long))

pub with_row-table-requires : goal.with_row-table-requires
with_row-table-requires c =
    let loop-test = c.loop-row-test in
    let loop = c.loop-row in
    let pre = c.requires in
    record { row_bound = rows_few pre loop-test.true c.rows_of-all.ensures; table_bound = table_fits_rows pre loop.invariant; res_bound = omega arith }

pub loop-row-preserved : goal.loop-row-preserved
loop-row-preserved c =
    let loop-test = c.loop-row-test in
    let loop = c.loop-row in
    let pre = c.requires in
    rows_more pre loop.invariant c.place_of-upto.result c.place_of-upto.ensures (omega (arith, loop-test.true, c.rows_of-all.ensures))
    c.set_leaves.ensures c.sweep.ensures c.with_row-table.ensures

pub returns : goal.returns
returns c =
    let loop-test = c.loop-row-test in
    let a = c.args in
    let p = c.requires in
    let l = c.loop-row in
    rows_all p l.invariant (omega (arith, loop-test.false, c.rows_of-all.ensures, l.auto.row-end)) a.values.now
    p.values_long c.fill.ensures c.fill-2.ensures
