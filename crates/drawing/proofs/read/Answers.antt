-- `read` meets its contract: short arrays and a refused head leave everything as it was; the rest is `read_body`'s.
use native.Mathlib.Omega.{arith}
use mathlib.Core.Path.{ap, sym, ◌∙◌}
use Rattle.std.proofs.lemmas.Result.{err_from_is_err_and}
use Rattle.drawing.specs.declared.TableForm.{TableForm}
use Rattle.drawing.specs.paper.Fields.{head_ruling, head_verdict}
use Rattle.drawing.specs.Reading.{arrays_of}
use Rattle.drawing.proofs.Wholes.{enough_long, not_long, reads_short, reads_no_head}
use Rattle.drawing.proofs.read.Goals as goal

pub returns-then-fanins-lt-MOST_PLACES : goal.returns-then-fanins-lt-MOST_PLACES
returns-then-fanins-lt-MOST_PLACES c =
    let a = c.args in
    let arrays = arrays_of a.fanins.now a.rows.now a.outputs.now in
    reads_short arrays a.table.now
    (not_long arrays (λ long. omega (arith, long.fanins, long.rows, long.outputs, c.then-fanins-lt-MOST_PLACES.either)))

pub returns-in_err-head_ruling : goal.returns-in_err-head_ruling
unfolding head_verdict
returns-in_err-head_ruling c =
    let a = c.args in
    let arrays = arrays_of a.fanins.now a.rows.now a.outputs.now in
    let long = enough_long arrays (record { fanins = omega arith; rows = omega arith; outputs = omega arith }) in
    let ruled = ap (λ (f : TableForm). head_ruling f a.table.now) (sym c.narrow_table-form.ensures)
    ∙ sym c.head_ruling.ensures
    ∙ c.in_err-head_ruling.was in
    let p = err_from_is_err_and c.from_residual.result c.from_residual.ensures.1 in
    rw (p.1, p.2) (reads_no_head arrays a.table.now long ruled)

pub read_body-requires-clause-table_value : goal.read_body-requires-clause-table_value
unfolding head_verdict
read_body-requires-clause-table_value c =
    ap (λ (f : TableForm). head_ruling f c.args.table.now) (sym c.narrow_table-form.ensures)
    ∙ sym c.head_ruling.ensures
    ∙ c.in_ok-head_ruling.was
