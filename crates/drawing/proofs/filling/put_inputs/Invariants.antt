-- `put_inputs` meets its contract: the inputs passed have no fanins.
use mathlib.Core.Path.{◌≡◌}
use Rattle.drawing.specs.Reading.{no_fanins}
use Rattle.drawing.proofs.filling.put_inputs.Given as goal

abbrev pub invariant-loop-v : goal.invariant-loop-v
invariant-loop-v l = l.fanins ≡ no_fanins l.initial.fanins l.v
