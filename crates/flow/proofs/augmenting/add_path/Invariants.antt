-- `add_path` meets its contract: the walk back keeps a flow with one path more, whose start is loose until it is an
-- input.
use Rattle.storage.specs.Entries.{at}
use Rattle.flow.specs.Links.{ins_in}
use Rattle.flow.proofs.Augmented.{Augmenting}
use Rattle.flow.proofs.augmenting.add_path.Given as goal

abbrev pub invariant-loop-v : goal.invariant-loop-v
invariant-loop-v l = Augmenting l.net.numbers.inputs l.net.numbers.nodes l.net.fanins.now l.roles l.initial.links l.links l.loose.id

abbrev pub decreases-loop-v : goal.decreases-loop-v
decreases-loop-v l = at (ins_in l.net.numbers.nodes l.links) l.loose.id
