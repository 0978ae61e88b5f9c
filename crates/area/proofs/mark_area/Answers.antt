-- `mark_area` meets its contract: the passes together mark D, the area and its ends.
use Rattle.area.proofs.Whole.{ends_asked, whole_area}
use Rattle.area.proofs.mark_area.Goals as goal

pub mark_ends-requires : goal.mark_ends-requires
mark_ends-requires c =
    let asked = c.requires in
    ends_asked asked c.split.ensures

pub returns : goal.returns
returns c =
    let asked = c.requires in
    whole_area asked c.split.ensures c.mark_ends.ensures
