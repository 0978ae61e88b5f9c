-- `step_back` meets its contract.
use native.Mathlib.Omega.{arith}
use Rattle.flow.specs.Augments.{Stepped}
use Rattle.flow.proofs.Columns.{both_stored, states_then}
use Rattle.flow.proofs.augmenting.step_back.Goals as goal

pub returns-then-v-loose : goal.returns-then-v-loose
returns-then-v-loose c =
    let both = both_stored c.put_link.ensures c.put_link-then-v-loose.ensures in
    record {
      stored = Stepped.dropped _ _ (omega arith) c.free-freed.ensures.stored both.next both.prev;
      kept = states_then c.free-freed.ensures.kept both.kept;
    }

pub returns : goal.returns
returns c =
    let both = both_stored c.put_link-2.ensures c.put_link-3.ensures in
    record {
      stored = Stepped.linked _ _ c.if-v-loose.false c.free-freed.ensures.stored both.next both.prev;
      kept = states_then c.free-freed.ensures.kept both.kept;
    }
