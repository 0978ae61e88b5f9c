-- `head_turn` meets its contract: the head's ruling, and what is due behind a sound head.
use mathlib.Core.Path.{sym, ◌∙◌}
use native.Mathlib.Omega.{arith}
use Rattle.std.proofs.lemmas.Result.{err_from_is_err_and}
use Rattle.shaping.specs.Terms.{due_of}
use Rattle.shaping.proofs.FieldRuns.{head_inside, head_stop, head_next}
use Rattle.shaping.proofs.runs.head_turn.Goals as goal

pub returns-in_err-head_ruling : goal.returns-in_err-head_ruling
returns-in_err-head_ruling c =
    let p = err_from_is_err_and c.from_residual.result c.from_residual.ensures.1 in
    rw (p.1, p.2)
    (head_stop (due_of c.args.terms) c.args.sheet.now c.head_ruling.ensures
    c.in_err-head_ruling.was)

pub small_at-luts-requires : goal.small_at-luts-requires
small_at-luts-requires c =
    record {
      narrow = c.args.terms.narrow;
      width_in_bounds = omega (
        arith,
        head_inside (due_of c.args.terms) c.args.sheet.now
            (sym c.head_ruling.ensures ∙ c.in_ok-head_ruling.was),
      );
    }

pub returns : goal.returns
returns c =
    head_next (due_of c.args.terms) c.args.sheet.now c.head_ruling.ensures
    c.in_ok-head_ruling.was c.small_at-luts.ensures
