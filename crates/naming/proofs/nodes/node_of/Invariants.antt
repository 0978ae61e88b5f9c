-- `node_of` meets its contract: what the names from here on say is what all of them do.
use Prim.Native.Nat.{◌-◌}
use mathlib.Core.Path.{◌≡◌}
use Rattle.grammar.specs.paper.Text.{word_at}
use Rattle.naming.specs.Stored.{node_from}
use Rattle.naming.proofs.nodes.node_of.Given as goal

abbrev pub invariant-loop-i : goal.invariant-loop-i
invariant-loop-i l =
    node_from l.equations.text.now l.equations.names.now 0 l.equations.counts.definitions (word_at l.equations.text.now l.place)
    ≡ node_from l.equations.text.now l.equations.names.now l.i (l.equations.counts.definitions - l.i) (word_at l.equations.text.now l.place)
