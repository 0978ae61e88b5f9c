-- `store_table` meets its contract: a loop is refused, then a buffer that is too short; else the bytes are copied.
use native.Mathlib.Omega.{arith}
use mathlib.Core.Path.{refl, ap, subst}
use mathlib.Core.List.{◌++◌, List}
use lib.ListN.{length, drop}
use Prim.Native.Nat.{ℕ}
use Rattle.std.proofs.lemmas.Result.{err_from_is_err_and}
use Rattle.tabling.specs.Judged.{Judged}
use Rattle.tabling.proofs.Judged.{taken_no_loop}
use Rattle.compiling.specs.Stages.{Kept}
use Rattle.compiling.proofs.Outcomes.{kept_untaken}
use Rattle.compiling.proofs.tables.store_table.Goals as goal

pub returns-in_err-judge : goal.returns-in_err-judge
returns-in_err-judge c =
    λ table within is.
    let p = err_from_is_err_and c.from_residual.result c.from_residual.ensures.1 in
    rw (p.1) (kept_untaken p.2 (subst (Judged table) c.in_err-judge.was (c.judge.ensures table within is)))

pub returns-then-table-lt-TABLE_ROOM : goal.returns-then-table-lt-TABLE_ROOM
returns-then-table-lt-TABLE_ROOM c =
    λ table within is.
    Kept.room (taken_no_loop (c.judge.ensures table within is) c.in_ok-judge.was)
    c.if-table-lt-TABLE_ROOM.true refl refl

pub returns : goal.returns
returns c =
    λ table within is.
    Kept.stored (taken_no_loop (c.judge.ensures table within is) c.in_ok-judge.was)
    (omega arith) refl
    (ap (λ (l : List ℕ). l ++ drop (length c.args.written.now) c.args.table.now) c.copy_from_slice.ensures.after)
