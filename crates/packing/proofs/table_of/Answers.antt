-- `table_of` meets its contract: a root's cone has its table from the gate's own leaves.
use native.Mathlib.Omega.{arith}
use Rattle.packing.proofs.TablesStored.{no_table, cone_asked, cone_answered}
use Rattle.packing.proofs.table_of.Goals as goal

pub returns-then-luts-v-ne1 : goal.returns-then-luts-v-ne1
returns-then-luts-v-ne1 c =
    let a = c.args in
    no_table a.net.numbers.inputs a.net.numbers.nodes a.net.fanins.now a.rows.now a.cuts.now
    a.luts.now a.gate.id a.words.now (λ root. c.if-luts-v-ne1.true (omega (arith, root)))

pub list_at-requires : goal.list_at-requires
list_at-requires c =
    let args = c.args in
    let p = c.requires in
    record { id_in_bounds = omega (arith, p.low, p.arrays.cuts_long); size_bound = p.arrays.six args.gate.id p.low }

pub cone_table-requires : goal.cone_table-requires
cone_table-requires c =
    let pre = c.requires in
    cone_asked pre (omega (arith, c.if-luts-v-ne1.false)) c.list_at.ensures

pub returns : goal.returns
returns c =
    let pre = c.requires in
    cone_answered pre (omega (arith, c.if-luts-v-ne1.false)) c.list_at.ensures c.cone_table.ensures
