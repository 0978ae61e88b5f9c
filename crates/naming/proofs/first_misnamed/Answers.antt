-- `first_misnamed` meets its contract: the least of the three answers.
use Rattle.naming.proofs.Misnames.{least_named}
use Rattle.naming.proofs.first_misnamed.Goals as goal

pub returns : goal.returns
returns c sys stored =
    rw c.earlier-2.ensures
    (rw c.earlier.ensures
    (least_named stored c.first_again-again.ensures
    c.first_undefined_operand-operand.ensures
    c.first_undefined_output-output.ensures))
