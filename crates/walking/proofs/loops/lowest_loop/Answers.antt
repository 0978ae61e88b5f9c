-- `lowest_loop` meets its contract: no gate passed reaches itself.
use native.Mathlib.Omega.{arith}
use Rattle.storage.proofs.Drawings.{drawn_span}
use Rattle.walking.proofs.Gatherings.{kept_same}
use Rattle.walking.proofs.Searches.{lowest_none, lowest_found}
use Rattle.walking.proofs.loops.lowest_loop.Goals as goal

pub loop-v-init : goal.loop-v-init
loop-v-init c =
    let span = drawn_span c.requires.drawn in
    record { low = omega arith; high = omega arith; kept = kept_same; none = λ h low high. absurd (omega arith) }

pub returns-then-reaches_itself : goal.returns-then-reaches_itself
returns-then-reaches_itself c =
    lowest_found c.loop-v.invariant c.loop-v-test.true c.reaches_itself.ensures
    c.if-reaches_itself.true

pub returns : goal.returns
returns c = lowest_none c.loop-v.invariant c.loop-v-test.false
