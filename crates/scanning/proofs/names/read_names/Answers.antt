-- `read_names` meets its contract: the line so far is read, and each turn reads a name more.
use Rattle.scanning.proofs.Exits.{goes_on}
use Rattle.scanning.proofs.NameLines.{reading_none, reading_more, reading_all, reading_stops}
use Rattle.scanning.proofs.names.read_names.Goals as goal

pub loop-span-init : goal.loop-span-init
loop-span-init c = reading_none c.requires

pub loop-span-preserved : goal.loop-span-preserved
loop-span-preserved c = reading_more c.loop-span.invariant (rw c.in-Name.is at c.in_ok-span.ensures) c.keep_name.ensures

pub returns-in-End : goal.returns-in-End
returns-in-End c = reading_all c.loop-span.invariant (rw c.in-End.is at c.in_ok-span.ensures)

pub returns-in_err-span : goal.returns-in_err-span
returns-in_err-span c = rw (goes_on c.from_residual.ensures.1) (reading_stops c.loop-span.invariant c.in_err-span.ensures)
