-- `leaves_cut` meets its contract.
use Rattle.weighing.proofs.Rulings.{walk_room, cut_told}
use Rattle.weighing.proofs.luts.leaves_cut.Goals as goal

pub is_cut-requires : goal.is_cut-requires
is_cut-requires c =
    let pre = c.requires in
    walk_room pre

pub returns : goal.returns
returns c =
    let pre = c.requires in
    cut_told pre c.list_at.ensures c.is_cut.ensures
