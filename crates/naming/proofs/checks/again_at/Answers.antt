-- `again_at` meets its contract.
use Rattle.naming.proofs.Singles.{again_told}
use Rattle.naming.proofs.checks.again_at.Goals as goal

pub returns : goal.returns
returns c = rw c.then_some.ensures (again_told c.place_at-place.ensures c.is_among.ensures)
