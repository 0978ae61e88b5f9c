-- Names that depend on themselves: equations that no order of the names would let one work out.
use Rattle.std.specs.Prelude.{ℕ, ◌≡◌}
use mathlib.Core.List.{List, Memᴰ}
use Rattle.grammar.specs.paper.Text.{word_at}
use Rattle.grammar.specs.paper.Grammar.{Equation, System}
use Rattle.grammar.specs.paper.Names.{names_in}

-- one equation reads the name of another
pub record Reads (s : List ℕ) (q r : Equation) : Type 0 where
  pub place : ℕ
  pub used : Memᴰ place (names_in q.tree)
  pub named : word_at s place ≡ word_at s r.place

-- so it depends on it; and along equations on what that one depends on
pub data DependsOn (s : List ℕ) (sys : System) (q : Equation) : Equation → Type 0 where
  reads : {r : Equation} → Memᴰ r sys.equations → Reads s q r → DependsOn s sys q r
  further : {r z : Equation} → DependsOn s sys q r → Memᴰ z sys.equations → Reads s r z → DependsOn s sys q z

-- some name depends on itself
pub record Circular (s : List ℕ) (sys : System) : Type 0 where
  pub equation : Equation
  pub member : Memᴰ equation sys.equations
  pub circle : DependsOn s sys equation equation
