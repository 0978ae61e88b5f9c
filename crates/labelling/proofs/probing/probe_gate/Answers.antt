-- `probe_gate` meets its contract: the walk, the area and the flow, one after the other.
use Rattle.labelling.proofs.Probes.{walk_room, area_asked, flow_asked, gate_probed}
use Rattle.labelling.proofs.probing.probe_gate.Goals as goal

pub walk-requires : goal.walk-requires
walk-requires c =
    walk_room c.requires

pub mark_area-requires : goal.mark_area-requires
mark_area-requires c =
    area_asked c.requires c.walk.ensures

pub find-requires : goal.find-requires
find-requires c =
    flow_asked c.requires c.walk.ensures c.mark_area.ensures

pub returns : goal.returns
returns c =
    gate_probed c.requires c.walk.ensures c.mark_area.ensures
    c.find.ensures
