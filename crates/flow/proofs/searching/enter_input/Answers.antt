-- `enter_input` meets its contract.
use native.Mathlib.Omega.{arith}
use native.Mathlib.Numerals.{add-one}
use Rattle.flow.specs.Turns.{InputEntered}
use Rattle.flow.proofs.Columns.{stored_next}
use Rattle.flow.proofs.searching.enter_input.Goals as goal

pub returns : goal.returns
returns c =
    InputEntered.new _ (add-one c.args.number) (omega arith) (stored_next c.put.ensures)
    c.put_link.ensures
