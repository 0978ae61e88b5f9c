-- `read_outputs` meets its contract: the last line, and nothing behind it.
use native.Mathlib.Omega.{arith}
use Rattle.scanning.proofs.WholeTexts.{outputs_asked, behind_last}
use Rattle.scanning.proofs.read_outputs.Goals as goal

pub read_names-requires : goal.read_names-requires
read_names-requires c = outputs_asked c.requires

pub returns-then-line-text : goal.returns-then-line-text
returns-then-line-text c = behind_last c.in_ok-line.ensures (λ e. omega (arith, c.if-line-text.true, e))
