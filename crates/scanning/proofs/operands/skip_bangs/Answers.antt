-- `skip_bangs` meets its contract.
use mathlib.Core.Path.{sym, ◌∙◌}
use Rattle.scanning.proofs.Bangs.{bangs_none, bangs_more}
use Rattle.scanning.proofs.operands.skip_bangs.Goals as goal

pub loop-next-init : goal.loop-next-init
loop-next-init c = bangs_none c.requires.0 c.requires.1

pub loop-next-preserved : goal.loop-next-preserved
loop-next-preserved c = bangs_more c.loop-next.invariant (sym c.byte_at.ensures ∙ c.loop-next-test.true) c.skip_blanks-next.ensures
