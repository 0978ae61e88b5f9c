-- `write_paths` meets its contract: the paths passed are written.
use Rattle.mapping.proofs.PathsWritten.{PathsSoFar}
use Rattle.mapping.proofs.paths.write_paths.Given as goal

abbrev pub invariant-loop-i : goal.invariant-loop-i
invariant-loop-i l = PathsSoFar l.form.width l.numbers.inputs l.numbers.nodes l.many l.initial.links l.initial.sheet l.at l.links l.sheet l.to l.i
