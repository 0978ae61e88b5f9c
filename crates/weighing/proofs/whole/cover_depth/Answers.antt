-- `cover_depth` meets its contract.
use Rattle.weighing.proofs.Deep.{outputs_deep, deep_told}
use Rattle.weighing.proofs.whole.cover_depth.Goals as goal

pub depth-reached-requires : goal.depth-reached-requires
depth-reached-requires c =
    let pre = c.requires in
    outputs_deep pre c.find_depths.ensures

pub returns : goal.returns
returns c =
    let pre = c.requires in
    deep_told pre c.find_depths.ensures c.depth-reached.ensures c.fill.ensures
