-- "the end of its longest beginning that some well-formed text of any length shares"
use Rattle.std.specs.Prelude.{ℕ, ◌≤◌, ◌≡◌, List, length, take}
use Rattle.grammar.specs.paper.Grammar.{System, WellFormed}

-- some well_formed text begins with the first p bytes
pub record Shared (s : List ℕ) (p : ℕ) : Type 0 where
  pub within : p ≤ length s
  pub text : List ℕ
  pub says : System
  pub well_formed : WellFormed text says
  pub long : p ≤ length text
  pub same : take p text ≡ take p s

pub record Longest (s : List ℕ) (p : ℕ) : Type 0 where
  pub shared : Shared s p
  pub longest : (q : ℕ) → Shared s q → q ≤ p
