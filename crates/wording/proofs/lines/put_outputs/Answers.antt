-- `put_outputs` meets its contract: what is left to put is the text of the other outputs.
use mathlib.Core.Path.{refl}
use Rattle.wording.specs.Arrays.{output_text}
use Rattle.wording.proofs.Listed.{each_room, each_turn, each_end}
use Rattle.wording.proofs.lines.put_outputs.Goals as goal

pub put_output-requires-clause-id_in_bounds_2 : goal.put_output-requires-clause-id_in_bounds_2
put_output-requires-clause-id_in_bounds_2 c =
    each_room (output_text c.args.labels.now) c.args.outputs.now
    c.loop-id.invariant c.loop-id-test.true refl

pub loop-id-preserved : goal.loop-id-preserved
loop-id-preserved c =
    each_turn (output_text c.args.labels.now) c.args.outputs.now
    c.loop-id.invariant c.loop-id-test.true refl c.put_output.ensures

pub returns : goal.returns
returns c =
    each_end (output_text c.args.labels.now) c.args.outputs.now
    c.loop-id.invariant c.loop-id-test.false
