-- What equations mean: values of the names that fit. No order among names: a valuation that fits, as one that obeys the gates is for a net.
use Rattle.std.specs.Prelude.{ℕ, ◌<◌, ◌≡◌, Bool, ◌||◌, ◌&&◌, length, get_or}
use Rattle.std.proofs.Math.Bool as bool
use mathlib.Core.List.{List, Memᴰ}
use Rattle.grammar.specs.paper.Text.{word_at}
use Rattle.grammar.specs.paper.Grammar.{Tree, Equation, System}

-- `!` is not, `*` is and, `+` is or
unfoldable pub value_of : (name : ℕ → Bool) → Tree → Bool
value_of name (Tree.name p) = name p
value_of name (Tree.not e) = bool.not (value_of name e)
value_of name (Tree.and e f) = value_of name e && value_of name f
value_of name (Tree.or e f) = value_of name e || value_of name f

-- Values of words solve the equations for a setting: the i-th input's name has the i-th value, and each equation's name its expression's.
pub record Solves (s : List ℕ) (sys : System) (setting : ℕ → Bool) (value : List ℕ → Bool) : Type 0 where
  pub at_inputs : (i : ℕ) → i < length sys.inputs → value (word_at s (get_or sys.inputs i 0)) ≡ setting i
  pub at_equations : (q : Equation) → Memᴰ q sys.equations →
      value (word_at s q.place) ≡ value_of (λ p. value (word_at s p)) q.tree
