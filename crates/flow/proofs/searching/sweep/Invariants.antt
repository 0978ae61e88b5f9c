-- `sweep` meets its contract: the nodes passed are settled while no number was given.
use Rattle.storage.specs.Entries.{at}
use Rattle.flow.proofs.Sweeping.{SweepLeft}
use Rattle.flow.proofs.searching.sweep.Given as goal

abbrev pub invariant-loop-i : goal.invariant-loop-i
invariant-loop-i l = SweepLeft l.net.numbers.inputs l.net.numbers.nodes l.net.fanins.now l.roles (λ v. v) l.initial.links l.number l.links l.last l.i

abbrev pub invariant-loop-id : goal.invariant-loop-id
invariant-loop-id l = SweepLeft l.net.numbers.inputs l.net.numbers.nodes l.net.fanins.now l.roles (at l.net.order.now) l.initial.links l.initial.last l.links l.last l.id-index
