-- `settle_gate` meets its contract: the result stored is that of the row which the fanins' values make.
use Rattle.covering.proofs.Sweeps.{gate_row, gate_row_small, gate_stored_lem}
use Rattle.covering.proofs.cones.settle_gate.Goals as goal

pub result_at-requires : goal.result_at-requires
result_at-requires c =
    let a = c.args in
    let row = gate_row a.fanins.now a.rows.now a.gate.id a.values.now
    c.row_of-row.ensures c.size_at.ensures c.requires.row.few in
    rw row (gate_row_small a.fanins.now a.rows.now a.gate.id a.values.now c.requires)

pub returns-then-values-v-lt2 : goal.returns-then-values-v-lt2
returns-then-values-v-lt2 c =
    let a = c.args in
    let row = gate_row a.fanins.now a.rows.now a.gate.id a.values.now
    c.row_of-row.ensures c.size_at.ensures c.requires.row.few in
    gate_stored_lem a.fanins.now a.rows.now a.gate.id a.values.now row c.result_at.ensures
    c.if-values-v-lt2.true
