-- `settle_all` meets its contract: after the first i gates, these are settled.
use Rattle.labelling.specs.Turning.{Along}
use Rattle.labelling.proofs.settling.settle_all.Given as goal

abbrev pub invariant-loop-id : goal.invariant-loop-id
invariant-loop-id l =
    Along l.net.numbers.inputs l.net.numbers.nodes l.net.numbers.k.leaves l.net.fanins.now l.net.order.now l.id-index
    l.initial.labels l.initial.cuts l.initial.roles l.initial.links l.labels l.cuts l.roles l.links
