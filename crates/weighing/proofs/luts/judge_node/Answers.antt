-- `judge_node` meets its contract.
use Rattle.weighing.proofs.Rulings.{cut_asked, function_asked, judged_none, judged_cut, judged_function}
use Rattle.weighing.proofs.Rulings.{judged_kept}
use Rattle.weighing.proofs.luts.judge_node.Goals as goal

pub returns-then-luts-v-ne1 : goal.returns-then-luts-v-ne1
returns-then-luts-v-ne1 c =
    let pre = c.requires in
    judged_none pre c.if-luts-v-ne1.true

pub leaves_cut-requires : goal.leaves_cut-requires
leaves_cut-requires c =
    cut_asked c.requires

pub returns-then-not-leaves_cut : goal.returns-then-not-leaves_cut
returns-then-not-leaves_cut c =
    judged_cut c.requires c.if-luts-v-ne1.false c.leaves_cut.ensures c.if-not-leaves_cut.true

pub table_right-requires : goal.table_right-requires
table_right-requires c =
    function_asked c.requires (c.leaves_cut.ensures.reply.yes c.if-not-leaves_cut.false)

pub returns-then-not-table_right : goal.returns-then-not-table_right
returns-then-not-table_right c =
    judged_function c.requires c.if-luts-v-ne1.false c.leaves_cut.ensures
    c.if-not-leaves_cut.false c.table_right.ensures c.if-not-table_right.true

pub returns : goal.returns
returns c =
    judged_kept c.requires c.if-luts-v-ne1.false c.leaves_cut.ensures
    c.if-not-leaves_cut.false c.table_right.ensures c.if-not-table_right.false
