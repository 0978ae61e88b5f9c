-- `judge_last` meets its contract: a rule that pass three finds broken comes before those of pass four.
use native.Mathlib.Omega.{arith}
use mathlib.Core.Path.{refl}
use Rattle.std.proofs.lemmas.Result.{err_from_is_err_and}
use Rattle.inspecting.proofs.Last.{luts_asked, last_luts, whole_asked, last_broken, last_whole}
use Rattle.inspecting.proofs.judge_last.Goals as goal

pub judge_luts-requires : goal.judge_luts-requires
judge_luts-requires c =
    luts_asked c.requires (omega (arith, c.requires.laid.most))

pub returns-in_err-judge_luts : goal.returns-in_err-judge_luts
returns-in_err-judge_luts c =
    let p = err_from_is_err_and c.from_residual.result c.from_residual.ensures.1 in
    rw (p.1) (last_luts c.requires p.2 (rw c.in_err-judge_luts.was at c.judge_luts.ensures.reply))

pub judge_whole-requires : goal.judge_whole-requires
judge_whole-requires c =
    whole_asked c.requires
    (rw c.in_ok-judge_luts.was at c.judge_luts.ensures.reply)
    c.judge_luts.ensures.roles_clear (omega (arith, c.requires.laid.most))

pub returns-in_err-judge_whole : goal.returns-in_err-judge_whole
returns-in_err-judge_whole c =
    let p = err_from_is_err_and c.from_residual-in_err-judge_whole.result c.from_residual-in_err-judge_whole.ensures.1 in
    rw (p.1)
    (last_broken c.requires (rw c.in_ok-judge_luts.was at c.judge_luts.ensures.reply) p.2
    (rw c.in_err-judge_whole.was at c.judge_whole.ensures.reply))

pub returns : goal.returns
returns c =
    last_whole c.requires
    (rw c.in_ok-judge_luts.was at c.judge_luts.ensures.reply) refl
    (rw c.in_ok-judge_whole.was at c.judge_whole.ensures.reply)
