-- `load_sheet` meets its contract: the lines, the LUTs, and the head's depth.
use mathlib.Core.Path.{◌∙◌, ap, sym}
use Rattle.sheet.specs.paper.Sheet.{Sheet}
use Rattle.shaping.specs.Terms.{due_of}
use Rattle.shaping.proofs.FieldRuns.{head_inside}
use Rattle.shaping.proofs.Found.{whole}
use native.Mathlib.Omega.{arith}
use Rattle.shaping.proofs.load_sheet.Goals as goal

pub label_at-requires : goal.label_at-requires
label_at-requires c =
    let a = c.args in
    let due = due_of a.terms in
    omega (arith, head_inside due a.sheet.now (whole due a.sheet.now c.requires.loadable.sound).head)

pub returns : goal.returns
returns c =
    let a = c.args in
    let due = due_of a.terms in
    record {
      lines = c.load_lines-next.ensures.filled;
      luts = c.load_luts.ensures;
      depth =
          c.label_at.ensures.number
          ∙ ap (λ (sheet : Sheet). sheet.depth) (sym (whole due a.sheet.now c.requires.loadable.sound).sheet);
    }
