-- `load_luts` meets its contract: the nodes passed have their entries, and the LUTs left are those of the others.
use Rattle.shaping.specs.Terms.{due_of}
use Rattle.shaping.specs.Loading.{lut_arrays}
use Rattle.shaping.proofs.Found.{LutsLoading}
use Rattle.shaping.proofs.loading.load_luts.Given as goal

abbrev pub invariant-loop-v : goal.invariant-loop-v
invariant-loop-v l = LutsLoading (due_of l.terms) l.sheet (lut_arrays l.initial.luts l.initial.cuts l.initial.tables) (lut_arrays l.luts l.cuts l.tables) l.v l.turn.left
    l.turn.at
