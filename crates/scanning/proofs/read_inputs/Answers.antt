-- `read_inputs` meets its contract: the line of inputs, then the rest.
use Rattle.scanning.proofs.Exits.{goes_on}
use Rattle.scanning.proofs.WholeTexts.{inputs_asked, inputs_read, inputs_stop}
use Rattle.scanning.proofs.read_inputs.Goals as goal

pub read_names-requires : goal.read_names-requires
read_names-requires c = inputs_asked c.requires.scan_asked c.requires.at_in_bounds

pub returns : goal.returns
returns c =
    inputs_read c.args.gates.now c.read_equated.new.gates c.read_equated.new.names c.read_equated.result c.in_ok-line.ensures c.read_equated.ensures

pub returns-in_err-line : goal.returns-in_err-line
returns-in_err-line c = rw (goes_on c.from_residual.ensures.1) (inputs_stop c.args.gates.now c.in_err-line.ensures)
