-- `link_of` meets its contract.
use native.Mathlib.Omega.{arith}
use mathlib.Core.Path.{sym}
use lib.ListN.{get_or-eq_default}
use Rattle.storage.proofs.InColumns.{column_size}
use Rattle.flow.specs.Links.{next_in}
use Rattle.flow.proofs.reading.link_of.Goals as goal

pub returns : goal.returns
returns c =
    let a = c.args in
    let size = column_size a.nodes 0 a.links.now (omega arith) in
    sym (get_or-eq_default (next_in a.nodes a.links.now) 0 {n = a.v.id} (omega arith))
