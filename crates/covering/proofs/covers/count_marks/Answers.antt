-- `count_marks` meets its contract: the marks counted are the roots.
use mathlib.Core.Path.{◌∙◌}
use Rattle.std.proofs.Common.{rules, ◌≡◌, take, ℕ, eqb}
use Rattle.std.specs.List.{count_by}
use Rattle.covering.proofs.Marking.{roots_counted}
use Rattle.covering.proofs.covers.count_marks.Goals as goal

pub returns : goal.returns
returns c =
    let a = c.args in
    let counted : c.count.result ≡ count_by (λ (m : ℕ). eqb m 1) (take a.nodes a.marks.now) = search rules in
    counted ∙ roots_counted a.marks.now a.nodes c.requires.inside
