-- `earlier` meets its contract.
use mathlib.Core.Path.{ap, ◌∙◌}
use Rattle.std.specs.Prelude.{Some}
use Rattle.naming.proofs.Leasts.{earlier_both, earlier_only, earlier_second}
use Rattle.naming.proofs.checks.earlier.Goals.{in_default-via-in-Some+in_default, in_default-via-in_default}
use Rattle.naming.proofs.checks.earlier.Goals as goal

pub returns-in-Some-Some : goal.returns-in-Some-Some
returns-in-Some-Some c = ap Some c.min.ensures ∙ earlier_both c.in-Some-Some.is-0 c.in-Some-Some.is-1

pub returns-in_default : goal.returns-in_default
returns-in_default c =
    c.or.ensures
    ∙ elim c.in_default.branch [
      | in_default-via-in-Some+in_default w ↦ earlier_only w.in_default.is-0 w.in_default.is-1
      | in_default-via-in_default w ↦ earlier_second _ w.in_default.is-0
    ]
