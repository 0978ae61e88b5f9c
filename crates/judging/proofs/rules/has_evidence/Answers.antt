-- `has_evidence` meets its contract: the walk, the area and its ends, then the paths.
use Rattle.judging.proofs.Kept.{walk_asked, area_asked, paths_asked, evidence_told}
use Rattle.judging.proofs.rules.has_evidence.Goals as goal

pub walk-requires : goal.walk-requires
walk-requires c =
    let asked = c.requires in
    walk_asked asked

pub mark_area-requires : goal.mark_area-requires
mark_area-requires c =
    let asked = c.requires in
    area_asked asked c.walk.ensures

pub are_paths-requires : goal.are_paths-requires
are_paths-requires c =
    let p = c.requires in
    paths_asked p c.walk.ensures c.mark_area.ensures

pub returns : goal.returns
returns c =
    let p = c.requires in
    evidence_told p c.walk.ensures c.mark_area.ensures c.are_paths.ensures
