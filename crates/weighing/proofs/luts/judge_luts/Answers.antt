-- `judge_luts` meets its contract.
use Rattle.weighing.proofs.Rulings.{luts_answered}
use Rattle.weighing.proofs.luts.judge_luts.Goals as goal

pub returns : goal.returns
returns c =
    luts_answered c.judge_nodes-found.ensures c.fill.ensures c.fill-2.ensures
