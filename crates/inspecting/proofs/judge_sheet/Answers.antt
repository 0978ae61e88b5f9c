-- `judge_sheet` meets its contract.
use mathlib.Core.Path.{sym, ◌∙◌}
use Rattle.std.proofs.lemmas.Result.{err_from_is_err_and}
use Rattle.storage.proofs.Drawings.{drawn_span}
use Rattle.inspecting.specs.Holding.{SheetRuled}
use Rattle.inspecting.proofs.judge_sheet.Goals as goal

pub terms_for-requires : goal.terms_for-requires
terms_for-requires c = drawn_span c.requires.drawing.drawn

pub judge_rules-requires : goal.judge_rules-requires
judge_rules-requires c =
    record {
      laid = c.requires;
      sound =
          sym (rw (c.terms_for.ensures (drawn_span c.requires.drawing.drawn)) at c.judge_shape.ensures)
          ∙ c.in_ok-judge_shape.was;
    }

pub returns-in_err-judge_shape : goal.returns-in_err-judge_shape
returns-in_err-judge_shape c =
    let p = err_from_is_err_and c.from_residual.result c.from_residual.ensures.1 in
    rw (p.1, p.2)
    (SheetRuled.faulty
    (sym (rw (c.terms_for.ensures (drawn_span c.requires.drawing.drawn)) at c.judge_shape.ensures)
    ∙ c.in_err-judge_shape.was))
