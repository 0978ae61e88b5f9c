-- `turned` meets its contract: one answer a case.
use mathlib.Core.Path.{sym}
use borrow.Author.Tests.{eqb-true, eqb-false}
use Rattle.area.proofs.Splits.{gate_within, unmet_away, input_outside, peak_within, other_outside}
use Rattle.area.proofs.passes.turned.Goals as goal

pub returns-then-eq : goal.returns-then-eq
returns-then-eq c = gate_within (eqb-true _ _ (sym c.if-eq.ensures))

pub returns-then-not-says_met : goal.returns-then-not-says_met
returns-then-not-says_met c = unmet_away (eqb-false _ _ (sym c.if-eq.ensures)) (c.says_met.ensures.no c.if-not-says_met.true)

pub returns-then-node-inputs : goal.returns-then-node-inputs
returns-then-node-inputs c =
    input_outside (eqb-false _ _ (sym c.if-eq.ensures)) (c.says_met.ensures.yes c.if-not-says_met.false) c.if-node-inputs.true

pub returns-then-eq-2 : goal.returns-then-eq-2
returns-then-eq-2 c =
    peak_within (eqb-false _ _ (sym c.if-eq.ensures)) (c.says_met.ensures.yes c.if-not-says_met.false) c.if-node-inputs.false
    (eqb-true _ _ (sym c.if-eq-2.ensures))

pub returns-else-eq-2 : goal.returns-else-eq-2
returns-else-eq-2 c =
    other_outside (eqb-false _ _ (sym c.if-eq.ensures)) (c.says_met.ensures.yes c.if-not-says_met.false)
    (eqb-false _ _ (sym c.if-eq-2.ensures))
