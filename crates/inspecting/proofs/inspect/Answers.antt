-- `inspect` meets its contract: the table is taken or refused, and the sheet of a table that is taken is judged.
use native.Mathlib.Omega.{arith}
use mathlib.Core.Path.{subst}
use Rattle.std.proofs.lemmas.Result.{err_from_is_err_and}
use Rattle.taking.specs.paper.Says.{Says}
use Rattle.taking.proofs.Judged.{says, table_taken}
use Rattle.inspecting.proofs.Taken.{says_untaken, table_laid, says_taken}
use Rattle.inspecting.proofs.inspect.Goals as goal

pub returns-in_err-numbers : goal.returns-in_err-numbers
returns-in_err-numbers c =
    let p = err_from_is_err_and c.from_residual.result c.from_residual.ensures.1 in
    let said = says c.take_table.ensures (omega arith) (omega arith) (omega arith) (omega arith) (omega arith) in
    rw (p.1) (says_untaken c.args.sheet.now p.2 (subst (Says c.args.table.now) c.in_err-numbers.was said))

pub judge_sheet-requires : goal.judge_sheet-requires
judge_sheet-requires c =
    let known = table_taken c.take_table.ensures (omega arith) (omega arith) (omega arith)
    (omega arith) (omega arith) c.in_ok-numbers.was c.take_table.auto.rows c.take_table.auto.outputs c.take_table.auto.order in
    table_laid known

pub returns : goal.returns
returns c =
    let known = table_taken c.take_table.ensures (omega arith) (omega arith) (omega arith)
    (omega arith) (omega arith) c.in_ok-numbers.was c.take_table.auto.rows c.take_table.auto.outputs c.take_table.auto.order in
    says_taken c.args.sheet.now known c.judge_sheet.ensures
