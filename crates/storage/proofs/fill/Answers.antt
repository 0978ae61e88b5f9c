-- `fill` meets its contract: the entries passed have the value.
use native.Mathlib.Omega.{arith}
use mathlib.Core.Path.{ap, ◌∙◌}
use lib.ListN.{set}
use Rattle.storage.proofs.Fills.{fill_more}
use Rattle.storage.proofs.fill.Goals as goal

pub loop-i-preserved : goal.loop-i-preserved
loop-i-preserved g c =
    let i = c.loop-i.i in
    let value = c.args.value in
    ap (λ xs. set xs i value) c.loop-i.invariant ∙ fill_more value i c.args.entries.now (omega (arith, c.requires))
