-- `put_leaves` meets its contract: what is left to put is the text of the other leaves.
use lib.ListN.{drop}
use Rattle.wording.specs.paper.Text.{each, leaf_text}
use Rattle.wording.proofs.Puts.{Left}
use Rattle.wording.proofs.lines.put_leaves.Given as goal

abbrev pub invariant-loop-id : goal.invariant-loop-id
invariant-loop-id l =
    Left l.initial.pen (each leaf_text l.leaves) l.pen (each leaf_text (drop l.id-index l.leaves))
