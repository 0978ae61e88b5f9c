-- `enter_gate` meets its contract.
use native.Mathlib.Omega.{arith}
use native.Mathlib.Numerals.{add-one}
use Rattle.flow.specs.Turns.{VisitedIn}
use Rattle.flow.proofs.Columns.{stored_next}
use Rattle.flow.proofs.searching.enter_gate.Goals as goal

pub returns : goal.returns
returns c =
    VisitedIn.new _ _ (add-one c.args.number) (omega arith) (λ e. omega arith)
    c.in-Some.ensures (stored_next c.put.ensures) c.put_link.ensures
