-- `read_equated` meets its contract: the equations, then the outputs.
use Rattle.scanning.proofs.WholeTexts.{equated}
use Rattle.scanning.proofs.read_equated.Goals as goal

pub returns : goal.returns
returns c = equated c.read_outputs.new.names c.read_outputs.result c.requires c.in_ok-stage.ensures c.read_outputs.ensures
