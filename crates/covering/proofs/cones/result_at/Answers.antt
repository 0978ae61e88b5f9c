-- `result_at` meets its contract: a result is a digit of the table.
use mathlib.Core.Path.{sym}
use Rattle.theory.proofs.Rows.{bit_of_result}
use Rattle.covering.proofs.cones.result_at.Goals as goal

pub returns : goal.returns
returns c = sym (bit_of_result c.args.table c.args.row)
