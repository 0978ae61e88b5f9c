-- `judge_whole` meets its contract: 28, then 30.
use native.Mathlib.Omega.{arith}
use Rattle.weighing.proofs.Deep.{labels_asked, whole_cover, deep_asked, whole_not_reached}
use Rattle.weighing.proofs.Deep.{whole_not_labelled, whole_kept}
use Rattle.weighing.proofs.whole.judge_whole.Goals as goal

pub returns-in-Some : goal.returns-in-Some
returns-in-Some c =
    whole_cover c.requires c.fill.ensures c.judge_wanted.ensures c.args.head.depth c.in-Some.is

pub cover_depth-reached-requires : goal.cover_depth-reached-requires
cover_depth-reached-requires c =
    deep_asked c.requires c.fill.ensures c.judge_wanted.ensures
    c.in_default.is

pub returns-then-reached-head : goal.returns-then-reached-head
returns-then-reached-head c =
    whole_not_reached c.requires c.fill.ensures c.judge_wanted.ensures
    c.in_default.is
    c.cover_depth-reached.ensures c.args.head.depth c.if-reached-head.true

pub depth-labelled-requires : goal.depth-labelled-requires
depth-labelled-requires c =
    labels_asked c.requires

pub returns-then-labelled-head : goal.returns-then-labelled-head
returns-then-labelled-head c =
    whole_not_labelled c.requires c.fill.ensures c.judge_wanted.ensures
    c.in_default.is
    c.cover_depth-reached.ensures c.args.head.depth c.depth-labelled.ensures
    (λ e. omega (arith, e, c.if-labelled-head.true, c.if-reached-head.false))

pub returns : goal.returns
returns c =
    whole_kept c.requires c.fill.ensures c.judge_wanted.ensures
    c.in_default.is
    c.cover_depth-reached.ensures c.args.head.depth c.depth-labelled.ensures
    c.if-reached-head.false (omega (arith, c.if-labelled-head.false))
