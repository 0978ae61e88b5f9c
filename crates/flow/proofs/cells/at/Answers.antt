-- `at` meets its contract.
use native.Mathlib.Omega.{arith}
use Rattle.storage.proofs.Rests.{rest_length}
use Rattle.flow.proofs.Columns.{cell_low, rest_entry}
use Rattle.flow.proofs.cells.at.Goals as goal

pub offset_bounds-part-i : goal.offset_bounds-part-i
offset_bounds-part-i c =
    let a = c.args in
    let low = cell_low c.requires in
    omega (arith, rest_length a.links.now c.start_of-start.result)

pub bounds-part-i : goal.bounds-part-i
bounds-part-i c =
    let a = c.args in
    let low = cell_low c.requires in
    omega (arith, rest_length a.links.now c.start_of-start.result)

pub returns : goal.returns
returns c =
    rw c.start_of-start.ensures (rest_entry c.requires)
