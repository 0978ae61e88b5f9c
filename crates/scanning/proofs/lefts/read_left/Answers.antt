-- `read_left` meets its contract.
use Rattle.scanning.proofs.Exits.{goes_on}
use Rattle.scanning.proofs.LeftSides.{left_side, no_equals, out_here, no_left}
use Rattle.scanning.proofs.lefts.read_left.Goals as goal

pub returns-in_err-read_equals-in-Ok : goal.returns-in_err-read_equals-in-Ok
returns-in_err-read_equals-in-Ok c = rw (goes_on c.from_residual.ensures.1) (no_equals c.in-Ok.ensures c.in_err-read_equals-in-Ok.ensures)

pub returns-in_ok-read_equals-in-Ok : goal.returns-in_ok-read_equals-in-Ok
returns-in_ok-read_equals-in-Ok c = left_side c.in-Ok.ensures c.in_ok-read_equals-in-Ok.ensures

pub returns-in-Err : goal.returns-in-Err
returns-in-Err c = out_here c.in-Err.ensures c.if-word-at.true

pub returns-in-Err-2 : goal.returns-in-Err-2
returns-in-Err-2 c = no_left c.requires c.in-Err.ensures c.if-word-at.false
