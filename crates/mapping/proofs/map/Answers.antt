-- `map` meets its contract: what is said of the table comes first, and a table taken is mapped.
use native.Mathlib.Omega.{arith}
use mathlib.Core.Path.{subst}
use Rattle.std.proofs.lemmas.Result.{err_from_is_err_and}
use Rattle.taking.specs.paper.Says.{Says}
use Rattle.taking.proofs.Judged.{says, table_taken}
use Rattle.settling.proofs.Tables.{taken_asked}
use Rattle.mapping.proofs.Mapped.{maps_untaken, maps_taken}
use Rattle.mapping.proofs.map.Goals as goal

pub returns-in_err-numbers : goal.returns-in_err-numbers
returns-in_err-numbers c =
    let p = err_from_is_err_and c.from_residual.result c.from_residual.ensures.1 in
    let said = says c.take_table.ensures (omega arith) (omega arith) (omega arith) (omega arith) (omega arith) in
    rw (p.1) (maps_untaken p.2 (subst (Says c.args.table.now) c.in_err-numbers.was said))

pub map_taken-requires : goal.map_taken-requires
map_taken-requires c =
    let known = table_taken c.take_table.ensures (omega arith) (omega arith) (omega arith)
    (omega arith) (omega arith) c.in_ok-numbers.was c.take_table.auto.rows c.take_table.auto.outputs c.take_table.auto.order in
    taken_asked known.ready known.numbers_are

pub returns : goal.returns
returns c =
    let known = table_taken c.take_table.ensures (omega arith) (omega arith) (omega arith)
    (omega arith) (omega arith) c.in_ok-numbers.was c.take_table.auto.rows c.take_table.auto.outputs c.take_table.auto.order in
    maps_taken known.ready known.numbers_are c.map_taken.ensures
