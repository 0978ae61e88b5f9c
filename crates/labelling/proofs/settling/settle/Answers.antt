-- `settle` meets its contract: each of the three ways settles the gate.
use native.Mathlib.Omega.{arith}
use mathlib.Core.Path.{◌∙◌}
use Rattle.labelling.proofs.Turns.{list_here, fed_here, above_room, probe_asked, turn_over_inputs}
use Rattle.labelling.proofs.Turns.{turn_length, paths_room, turn_paths, turn_cut}
use Rattle.labelling.proofs.settling.settle.Goals as goal

pub peak-p-requires : goal.peak-p-requires
peak-p-requires c =
    fed_here c.requires

pub store_above-requires : goal.store_above-requires
store_above-requires c =
    above_room c.requires c.peak-p.ensures

pub returns-then-p-eq0 : goal.returns-then-p-eq0
returns-then-p-eq0 c =
    turn_over_inputs c.requires c.peak-p.ensures (omega (arith, c.if-p-eq0.true))
    c.store_above.ensures

pub slice_bounds-probe_gate-count : goal.slice_bounds-probe_gate-count
slice_bounds-probe_gate-count c =
    omega (arith, list_here c.requires)

pub slice_bounds-probe_gate-start : goal.slice_bounds-probe_gate-start
slice_bounds-probe_gate-start c =
    omega (arith, list_here c.requires)

pub probe_gate-shown-requires : goal.probe_gate-shown-requires
probe_gate-shown-requires c =
    probe_asked c.requires c.peak-p.ensures

pub store_above-requires-in_default : goal.store_above-requires-in_default
store_above-requires-in_default c =
    paths_room c.requires c.peak-p.ensures (omega (arith, c.if-p-eq0.false))
    c.probe_gate-shown.ensures c.in_default.is

pub shape_of-cuts-in_default : goal.shape_of-cuts-in_default
shape_of-cuts-in_default c =
    c.store_above-in_default.auto.cuts
    ∙ turn_length c.requires c.peak-p.ensures (omega (arith, c.if-p-eq0.false))
    c.probe_gate-shown.ensures

pub returns-in_default : goal.returns-in_default
returns-in_default c =
    turn_paths c.requires c.peak-p.ensures (omega (arith, c.if-p-eq0.false))
    c.probe_gate-shown.ensures c.in_default.is
    c.store_above-in_default.ensures

pub put_label-requires : goal.put_label-requires
put_label-requires c =
    (above_room c.requires c.peak-p.ensures).labels_long

pub put_size-requires : goal.put_size-requires
put_size-requires c =
    let same = turn_length c.requires c.peak-p.ensures (omega (arith, c.if-p-eq0.false))
    c.probe_gate-shown.ensures in
    omega (arith, list_here c.requires)

pub returns : goal.returns
returns c =
    turn_cut c.requires c.peak-p.ensures (omega (arith, c.if-p-eq0.false))
    c.probe_gate-shown.ensures c.in-Some.is c.put_label.ensures
    c.put_size.ensures
