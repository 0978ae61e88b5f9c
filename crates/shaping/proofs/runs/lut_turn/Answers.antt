-- `lut_turn` meets its contract: the LUT's ruling, and what is due behind a sound LUT.
use mathlib.Core.Path.{sym, ◌∙◌}
use native.Mathlib.Omega.{arith}
use Rattle.std.proofs.lemmas.Result.{err_from_is_err_and}
use Rattle.shaping.specs.Terms.{due_of}
use Rattle.shaping.proofs.FieldRuns.{lut_end, lut_whole, lut_stop, lut_next}
use Rattle.shaping.proofs.runs.lut_turn.Goals as goal

pub returns-in_err-lut_ruling : goal.returns-in_err-lut_ruling
returns-in_err-lut_ruling c =
    let p = err_from_is_err_and c.from_residual.result c.from_residual.ensures.1 in
    rw (p.1, p.2)
    (lut_stop (due_of c.args.terms) c.args.sheet.now c.args.at c.args.left
    c.requires.lines_bound c.requires.luts_nonzero c.lut_ruling.ensures c.in_err-lut_ruling.was)

pub overflow_add-at : goal.overflow_add-at
overflow_add-at c =
    omega (
      arith,
      lut_end (due_of c.args.terms) c.args.sheet.now c.args.left.least c.args.at
          (sym c.lut_ruling.ensures ∙ c.in_ok-lut_ruling.was),
    )

pub node_at-root-requires : goal.node_at-root-requires
node_at-root-requires c =
    omega (
      arith,
      lut_whole (due_of c.args.terms) c.args.sheet.now c.args.left.least
          c.args.at (sym c.lut_ruling.ensures ∙ c.in_ok-lut_ruling.was),
    )

pub returns : goal.returns
returns c =
    lut_next (due_of c.args.terms) c.args.sheet.now c.args.at c.args.left
    c.requires.lines_bound c.requires.luts_nonzero c.lut_ruling.ensures
    c.in_ok-lut_ruling.was c.node_at-root.ensures
