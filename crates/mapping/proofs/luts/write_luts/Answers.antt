-- `write_luts` meets its contract: the LUTs of the nodes passed are written.
use Rattle.mapping.proofs.LutsWritten.{luts_none, lut_asked, luts_turn, luts_all}
use Rattle.mapping.proofs.luts.write_luts.Goals as goal

pub loop-v-init : goal.loop-v-init
loop-v-init c =
    let a = c.args in
    luts_none a.form a.cuts.now a.luts.now a.tables.now a.nodes a.sheet.now a.at

pub write_lut-to-requires : goal.write_lut-to-requires
write_lut-to-requires c =
    let a = c.args in
    lut_asked a.form a.cuts.now a.luts.now a.tables.now c.loop-v.invariant
    c.requires c.loop-v-test.true

pub loop-v-preserved : goal.loop-v-preserved
loop-v-preserved c =
    let a = c.args in
    luts_turn a.form a.cuts.now a.luts.now a.tables.now c.loop-v.invariant
    c.loop-v-test.true c.write_lut-to.ensures

pub returns : goal.returns
returns c =
    let a = c.args in
    luts_all a.form a.cuts.now a.luts.now a.tables.now c.loop-v.invariant c.loop-v-test.false
