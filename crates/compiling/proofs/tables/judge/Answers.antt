-- `judge` meets its contract: the arrays are as long as the largest table needs.
use native.Mathlib.Omega.{arith}
use Rattle.tabling.proofs.Judged.{judged}
use Rattle.compiling.proofs.tables.judge.Goals as goal

pub returns : goal.returns
returns c =
    λ table within is.
    judged within c.take_table.ensures is (omega arith) (omega arith) (omega arith) (omega arith)
    (omega arith)
