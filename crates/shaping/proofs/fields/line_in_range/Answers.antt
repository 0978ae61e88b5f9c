-- `line_in_range` meets its contract: the range rules of a line, one after the other.
use Rattle.shaping.specs.Terms.{due_of}
use Rattle.shaping.proofs.Values.{line_parts, paths_end_lem, line_count}
use Rattle.shaping.proofs.Values.{line_told}
use native.Mathlib.Omega.{arith}
use Rattle.shaping.proofs.fields.line_in_range.Goals as goal

pub returns-then-not-is_path_count : goal.returns-then-not-is_path_count
returns-then-not-is_path_count c =
    line_count (due_of c.args.terms) c.args.sheet.now c.args.at
    c.label_at-label.ensures (omega (arith, c.if-label-lt1.false)) (omega (arith, c.if-terms-label.false))
    c.leaves_in_range.ensures c.size_at-leaves.ensures
    c.small_at-count.ensures c.is_path_count.ensures
    c.if-not-leaves_in_range.false
    c.if-not-is_path_count.true

pub paths_in_range-requires : goal.paths_in_range-requires
paths_in_range-requires c =
    let due = due_of c.args.terms in
    let s = c.args.sheet.now in
    omega (
      arith,
      paths_end_lem due s c.args.at c.size_at-leaves.ensures c.small_at-count.ensures
          (line_parts due s c.args.at c.requires.at_value),
    )

pub returns : goal.returns
returns c =
    line_told (due_of c.args.terms) c.args.sheet.now c.args.at
    c.label_at-label.ensures (omega (arith, c.if-label-lt1.false)) (omega (arith, c.if-terms-label.false))
    c.leaves_in_range.ensures c.size_at-leaves.ensures
    c.small_at-count.ensures c.is_path_count.ensures
    c.if-not-leaves_in_range.false
    c.if-not-is_path_count.false c.paths_in_range.ensures
