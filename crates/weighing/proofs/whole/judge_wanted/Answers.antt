-- `judge_wanted` meets its contract.
use Rattle.weighing.proofs.Wanted.{cover_told}
use Rattle.weighing.proofs.whole.judge_wanted.Goals as goal

pub returns : goal.returns
returns c =
    let pre = c.requires in
    cover_told pre c.mark_wanted.ensures c.first_uncovered-found.ensures c.fill.ensures
