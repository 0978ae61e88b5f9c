-- `line_turn` meets its contract: the line's ruling, and what is due behind a sound line.
use Rattle.std.proofs.lemmas.Result.{err_from_is_err_and}
use Rattle.shaping.specs.Terms.{due_of}
use Rattle.shaping.proofs.FieldRuns.{line_stop, line_next}
use Rattle.shaping.proofs.runs.line_turn.Goals as goal

pub returns-in_err-line_ruling : goal.returns-in_err-line_ruling
returns-in_err-line_ruling c =
    let p = err_from_is_err_and c.from_residual.result c.from_residual.ensures.1 in
    rw (p.1, p.2)
    (line_stop (due_of c.args.terms) c.args.sheet.now c.args.at c.args.left
    c.requires.lines_nonzero c.line_ruling.ensures c.in_err-line_ruling.was)

pub returns : goal.returns
returns c =
    line_next (due_of c.args.terms) c.args.sheet.now c.args.at c.args.left
    c.requires.lines_nonzero c.line_ruling.ensures c.in_ok-line_ruling.was
