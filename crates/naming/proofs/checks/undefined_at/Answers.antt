-- `undefined_at` meets its contract.
use Rattle.naming.proofs.Singles.{undefined_told}
use Rattle.naming.proofs.checks.undefined_at.Goals as goal

pub returns : goal.returns
returns c = rw c.then_some.ensures (undefined_told c.is_among.ensures)
