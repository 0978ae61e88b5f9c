-- `put_outputs` meets its contract: what is left to put is the text of the other outputs.
use lib.ListN.{drop}
use Rattle.wording.specs.paper.Text.{each}
use Rattle.wording.specs.Arrays.{output_text}
use Rattle.wording.proofs.Puts.{Left}
use Rattle.wording.proofs.lines.put_outputs.Given as goal

abbrev pub invariant-loop-id : goal.invariant-loop-id
invariant-loop-id l = Left l.initial.pen (each (output_text l.labels) l.outputs) l.pen
    (each (output_text l.labels) (drop l.id-index l.outputs))
