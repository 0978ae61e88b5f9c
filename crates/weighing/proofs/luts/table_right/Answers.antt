-- `table_right` meets its contract: a cone has one table.
use Rattle.weighing.proofs.Rulings.{cone_asked, function_told}
use Rattle.weighing.proofs.luts.table_right.Goals as goal

pub cone_table-table-requires : goal.cone_table-table-requires
cone_table-table-requires c =
    let pre = c.requires in
    cone_asked pre c.list_at.ensures

pub returns : goal.returns
returns c =
    let pre = c.requires in
    function_told pre c.list_at.ensures c.cone_table-table.ensures
