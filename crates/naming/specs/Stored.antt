-- What the arrays `gates` and `names` hold of a text that was read, and the node that a name or an operand is.
use Rattle.std.specs.Prelude.{ℕ, zero, suc, ◌+◌, ◌*◌, ◌-◌, ◌<◌, ◌≤◌, ◌≡◌, cond, length, get_or, take, ltb}
use mathlib.Core.List.{List, Memᴰ}
use Rattle.theory.specs.paper.Lists.{Rising}
use Rattle.grammar.specs.paper.Text.{most_text, word_at, same_word}
use Rattle.grammar.specs.paper.Grammar.{System}
use Rattle.grammar.specs.paper.Names.{definitions, uses}
use Rattle.grammar.specs.paper.Gates.{all_size}
use Rattle.grammar.specs.Stored.{all_triples, name_pairs}

-- The arrays begin with a system's gates and names, `made` gates, `defined` definitions and `outs` outputs. The text is within its limit, names stand
-- within it, and the definitions one behind the other, so that the earlier of two is the one before in the array.
pub record Stored (s : List ℕ) (sys : System) (made defined outs : ℕ) (gates names : List ℕ) : Type 0 where
  pub short : length s ≤ most_text
  pub made_said : made ≡ all_size sys.equations
  pub defined_said : defined ≡ length sys.inputs + length sys.equations
  pub outs_said : outs ≡ length sys.outputs
  pub gates_stored : take (3 * made) gates ≡ all_triples 0 sys.equations
  pub names_stored : take (2 * (defined + outs)) names ≡ name_pairs sys
  pub within : (p : ℕ) → Memᴰ p (uses sys) → p < length s
  pub rising : Rising (definitions sys)

-- some system is held there
pub record Held (s : List ℕ) (made defined outs : ℕ) (gates names : List ℕ) : Type 0 where
  pub says : System
  pub stored : Stored s says made defined outs gates names

-- the place of the i-th name, and its node
abbrev pub place_in : (names : List ℕ) → ℕ → ℕ
place_in names i = get_or names (2 * i) 0

abbrev pub node_in : (names : List ℕ) → ℕ → ℕ
node_in names i = get_or names (2 * i + 1) 0

-- the node of the first name with this word, of `left` names from the i-th on; where there is none, 0
unfoldable pub node_from : (s names : List ℕ) (i left : ℕ) (word : List ℕ) → ℕ
node_from s names i zero word = 0
node_from s names i (suc left) word = cond (same_word (word_at s (place_in names i)) word) (node_in names i) (node_from s names (suc i) left word)

-- the node of the name at a place, among the first names of the array
abbrev pub node_named : (s names : List ℕ) (defined place : ℕ) → ℕ
node_named s names defined place = node_from s names 0 defined (word_at s place)

-- the node that an operand is, of a name's place or a gate's number
unfoldable pub operand_node : (node : ℕ → ℕ) (inputs operand : ℕ) → ℕ
operand_node node inputs operand = cond (ltb operand most_text) (node operand) (inputs + (operand - most_text))
