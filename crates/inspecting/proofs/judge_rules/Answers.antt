-- `judge_rules` meets its contract: the sheet is loaded, and a rule that pass two finds broken comes before those of
-- passes three and four.
use native.Mathlib.Omega.{arith}
use Rattle.std.proofs.lemmas.Result.{err_from_is_err_and}
use Rattle.storage.proofs.Drawings.{drawn_span}
use Rattle.inspecting.proofs.Loaded.{loadable, judge_asked, last_asked, gates_broken, gates_kept}
use Rattle.inspecting.proofs.judge_rules.Goals as goal

pub terms_for-requires : goal.terms_for-requires
terms_for-requires c = drawn_span c.requires.laid.drawing.drawn

pub load_sheet-head-requires : goal.load_sheet-head-requires
load_sheet-head-requires c =
    let most = c.requires.laid.most in
    rw (c.terms_for.ensures (drawn_span c.requires.laid.drawing.drawn)) record {
      loadable = loadable c.requires (λ i. omega (arith, c.type_inv.sheet i));
      line_room = (record { labels = omega (arith, most); cuts = omega (arith, most); places = omega (arith, most) });
      lut_room = (record { luts = omega (arith, most); cuts = omega (arith, most); tables = omega (arith, most) });
    }

pub judge_lines-requires : goal.judge_lines-requires
judge_lines-requires c =
    let most = c.requires.laid.most in record {
      nodes_le_most_nodes = most;
      by_index = λ roles long.
          judge_asked c.requires (λ i. omega (arith, c.type_inv.sheet i))
          (rw (c.terms_for.ensures (drawn_span c.requires.laid.drawing.drawn)) at c.load_sheet-head.ensures)
          (record { labels = omega (arith, most); cuts = omega (arith, most); places = omega (arith, most) })
          (record { luts = omega (arith, most); cuts = omega (arith, most); tables = omega (arith, most) }) long;
    }

pub judge_last-requires : goal.judge_last-requires
judge_last-requires c =
    let most = c.requires.laid.most in
    last_asked c.requires (λ i. omega (arith, c.type_inv.sheet i))
    (rw (c.terms_for.ensures (drawn_span c.requires.laid.drawing.drawn)) at c.load_sheet-head.ensures)
    (record { labels = omega (arith, most); cuts = omega (arith, most); places = omega (arith, most) })
    (record { luts = omega (arith, most); cuts = omega (arith, most); tables = omega (arith, most) })
    (omega (arith, most))

pub returns-in_err-judge_lines : goal.returns-in_err-judge_lines
returns-in_err-judge_lines c =
    let most = c.requires.laid.most in
    let p = err_from_is_err_and c.from_residual.result c.from_residual.ensures.1 in
    rw (p.1) (gates_broken c.requires (λ i. omega (arith, c.type_inv.sheet i))
    (rw (c.terms_for.ensures (drawn_span c.requires.laid.drawing.drawn)) at c.load_sheet-head.ensures)
    (record { labels = omega (arith, most); cuts = omega (arith, most); places = omega (arith, most) })
    (record { luts = omega (arith, most); cuts = omega (arith, most); tables = omega (arith, most) }) _
    c.judge_lines.ensures p.2 c.in_err-judge_lines.was)

pub returns : goal.returns
returns c =
    let most = c.requires.laid.most in
    gates_kept c.requires (λ i. omega (arith, c.type_inv.sheet i))
    (rw (c.terms_for.ensures (drawn_span c.requires.laid.drawing.drawn)) at c.load_sheet-head.ensures)
    (record { labels = omega (arith, most); cuts = omega (arith, most); places = omega (arith, most) })
    (record { luts = omega (arith, most); cuts = omega (arith, most); tables = omega (arith, most) }) _
    c.judge_lines.ensures c.in_ok-judge_lines.was
    c.judge_last.ensures
