-- `store_tables` meets its contract: the nodes passed have their tables.
use native.Mathlib.Omega.{arith}
use Rattle.packing.proofs.TablesStored.{tables_none, table_asked, tables_turn}
use Rattle.packing.proofs.TablesStored.{tables_all}
use Rattle.packing.proofs.store_tables.Goals as goal

pub fill-requires : goal.fill-requires
fill-requires c =
    let pre = c.requires in
    omega (arith, pre.words_long)

pub loop-v-init : goal.loop-v-init
loop-v-init c =
    let pre = c.requires in
    tables_none pre c.fill.ensures

pub table_of-table-requires : goal.table_of-table-requires
table_of-table-requires c =
    let loop = c.loop-v in
    let pre = c.requires in
    table_asked pre c.fill.ensures loop.invariant c.loop-v-test.true

pub loop-v-preserved : goal.loop-v-preserved
loop-v-preserved c =
    let loop-test = c.loop-v-test in
    let loop = c.loop-v in
    let pre = c.requires in
    tables_turn pre c.fill.ensures loop.invariant loop-test.true c.table_of-table.ensures

pub shape_of-words : goal.shape_of-words
shape_of-words c =
    let pre = c.requires in
    (tables_all pre c.fill.ensures c.loop-v.invariant c.loop-v-test.false).rest.size

pub returns : goal.returns
returns c =
    let pre = c.requires in
    tables_all pre c.fill.ensures c.loop-v.invariant c.loop-v-test.false
