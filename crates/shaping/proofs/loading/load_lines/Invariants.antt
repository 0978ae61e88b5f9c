-- `load_lines` meets its contract: the nodes passed have their entries, an input none of a line.
use Rattle.shaping.specs.Terms.{due_of}
use Rattle.shaping.specs.Loading.{line_arrays}
use Rattle.shaping.proofs.Found.{LinesLoading}
use Rattle.shaping.proofs.loading.load_lines.Given as goal

abbrev pub invariant-loop-v : goal.invariant-loop-v
invariant-loop-v l = LinesLoading (due_of l.terms) l.sheet (line_arrays l.initial.labels l.initial.cuts l.initial.places) (line_arrays l.labels l.cuts l.places) l.v l.at
