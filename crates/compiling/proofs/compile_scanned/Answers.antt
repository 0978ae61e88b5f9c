-- `compile_scanned` meets its contract: wrong names are refused.
use Rattle.compiling.proofs.Outcomes.{misnamed}
use Rattle.compiling.proofs.compile_scanned.Goals as goal

pub first_misnamed-requires : goal.first_misnamed-requires
first_misnamed-requires c =
    record { made_in_bounds = c.requires.gates_long; outputs_in_bounds = c.requires.names_long; held = record { says = c.requires.says; stored = c.requires.stored } }

pub compile_named-requires : goal.compile_named-requires
compile_named-requires c =
    record {
      scanned = c.requires;
      named =
          rw c.in-None.is at
          (c.first_misnamed.ensures c.requires.says c.requires.stored);
    }

pub returns-in-Some : goal.returns-in-Some
returns-in-Some c =
    misnamed c.requires
    (rw c.in-Some.is at
    (c.first_misnamed.ensures c.requires.says c.requires.stored))
