-- A gate table computes what the equations say.
use Rattle.std.specs.Prelude.{ℕ, ◌<◌, ◌≡◌, Bool, length, get_or}
use mathlib.Core.List.{List, Memᴰ}
use Rattle.theory.specs.paper.Values.{Values}
use Rattle.drawing.specs.paper.Table.{Table, net_of, tables_of}
use Rattle.grammar.specs.paper.Text.{word_at}
use Rattle.grammar.specs.paper.Grammar.{System}
use Rattle.grammar.specs.paper.Names.{definitions}
use Rattle.grammar.specs.paper.Meaning.{Solves}

-- For every setting of the inputs the equations have a solution, and only one on the names that they define; the net has values, too, and each output of the
-- table then has the value of the name that stands at its place behind `out`.
pub record Faithful (s : List ℕ) (sys : System) (t : Table) : Type 0 where
  pub inputs : t.inputs ≡ length sys.inputs
  pub outputs : length t.outputs ≡ length sys.outputs
  pub solved : (setting : ℕ → Bool) → (value : List ℕ → Bool) × Solves s sys setting value
  pub once : (setting : ℕ → Bool) (value other : List ℕ → Bool) → Solves s sys setting value → Solves s sys setting other →
      (d : ℕ) → Memᴰ d (definitions sys) → value (word_at s d) ≡ other (word_at s d)
  pub valued : (setting : ℕ → Bool) → (x : ℕ → Bool) × Values (net_of t) (tables_of t) setting x
  pub computed : (setting x : ℕ → Bool) (value : List ℕ → Bool) → Values (net_of t) (tables_of t) setting x → Solves s sys setting value →
      (j : ℕ) → j < length sys.outputs → x (get_or t.outputs j 0) ≡ value (word_at s (get_or sys.outputs j 0))
