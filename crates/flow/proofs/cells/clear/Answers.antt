-- `clear` meets its contract: a run of stores is a run of columns.
use Rattle.flow.proofs.Columns.{clear_columns}
use Rattle.flow.proofs.cells.clear.Goals as goal

pub returns : goal.returns
returns c =
    rw c.start_of-start.ensures (clear_columns c.requires (rw c.start_of-start.ensures at c.fill.ensures))
