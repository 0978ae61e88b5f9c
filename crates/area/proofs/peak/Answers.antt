-- `peak` meets its contract: so far, the greatest label of the fanins passed.
use mathlib.Core.Path.{refl}
use Rattle.theory.specs.paper.Lists.{greatest}
use Rattle.std.proofs.lemmas.List.{take_all}
use Rattle.storage.proofs.Drawings.{fed_entry}
use Rattle.area.proofs.Peaks.{peak_more, peak_in}
use Rattle.area.proofs.peak.Goals as goal

pub loop-id-init : goal.loop-id-init
unfolding greatest
loop-id-init c = refl

pub label_of-requires : goal.label_of-requires
label_of-requires c = fed_entry c.requires c.list_at-id-items.ensures c.loop-id-test.true

pub loop-id-preserved : goal.loop-id-preserved
loop-id-preserved c =
    peak_more c.args.labels.now _ _ c.loop-id-test.true c.loop-id.invariant c.label_of.ensures c.larger-best.ensures

pub returns : goal.returns
returns c =
    let items = c.list_at-id-items in
    peak_in c.args.fanins.now c.args.gate.id c.args.labels.now
    (rw (take_all c.loop-id.id-index items.result.now c.loop-id-test.false, items.ensures) at c.loop-id.invariant)
