-- `compile` meets its contract: length, grammar, and then names.
use native.Mathlib.Omega.{arith}
use mathlib.Core.Path.{refl}
use Prim.Native.Nat.{◌*◌}
use Rattle.std.proofs.lemmas.Result.{err_from_is_err_and}
use Rattle.grammar.specs.paper.Text.{most_text}
use Rattle.compiling.specs.paper.Compiles.{Compiles}
use Rattle.compiling.proofs.Scans.{scanned, zeros}
use Rattle.compiling.proofs.Outcomes.{ungrammatical}
use Rattle.compiling.proofs.compile.Goals as goal

pub returns-then-text-gt-MOST_TEXT : goal.returns-then-text-gt-MOST_TEXT
returns-then-text-gt-MOST_TEXT c = Compiles.long c.if-text-gt-MOST_TEXT.true refl refl

pub read_text-requires : goal.read_text-requires
read_text-requires c =
    record {
      short = omega arith;
      gates_room = omega arith;
      names_room = omega arith;
      gates_empty = λ i above. zeros (3 * most_text) i;
      names_empty = zeros most_text;
    }

pub invariant_of-equations : goal.invariant_of-equations
invariant_of-equations c =
    let read = scanned (omega arith) (omega arith) (omega arith) c.in_ok-counts.ensures in
    record { definitions_in_bounds = omega (arith, read.names_long) }

pub returns-in_err-counts : goal.returns-in_err-counts
returns-in_err-counts c =
    let p = err_from_is_err_and c.from_residual.result c.from_residual.ensures.1 in
    rw (p.1, p.2) (ungrammatical (omega arith) c.in_err-counts.ensures.halts)

pub compile_scanned-requires : goal.compile_scanned-requires
compile_scanned-requires c =
    scanned (omega arith) (omega arith) (omega arith)
    c.in_ok-counts.ensures
