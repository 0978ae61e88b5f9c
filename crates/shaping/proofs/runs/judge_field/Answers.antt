-- `judge_field` meets its contract: the turn of what is due, or that nothing follows.
use native.Mathlib.Omega.{arith}
use Rattle.shaping.specs.Terms.{due_of}
use Rattle.shaping.proofs.FieldRuns.{extra_stop, extra_none}
use Rattle.shaping.proofs.runs.judge_field.Goals as goal

pub returns-then-at-sheet : goal.returns-then-at-sheet
returns-then-at-sheet c =
    extra_stop (due_of c.args.terms) c.args.sheet.now c.args.at c.args.left
    (omega (arith, c.if-left-gt0.false)) (omega (arith, c.if-left-gt0-2.false)) (omega (arith, c.if-at-sheet.true))

pub returns : goal.returns
returns c =
    extra_none (due_of c.args.terms) c.args.sheet.now c.args.at c.args.left
    (omega (arith, c.if-left-gt0.false)) (omega (arith, c.if-left-gt0-2.false)) (omega (arith, c.if-at-sheet.false))
