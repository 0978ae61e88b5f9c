-- Gates by threes: a gate's function table and its two operands, as they lie in `gates`, and the line of the table that such a three is.
use Rattle.std.specs.Prelude.{ℕ, ◌+◌, ◌*◌, ◌^◌, cond, List, [], ◌∷◌, get_or, ltb}
use Rattle.drawing.specs.paper.Table.{GateLine}
use Rattle.grammar.specs.paper.Gates.{gate}
use Rattle.naming.specs.Stored.{operand_node}

pub record Three : Type 0 where
  pub table : ℕ
  pub left : ℕ
  pub right : ℕ

abbrev pub three : (table left right : ℕ) → Three
three table left right = record { table = table; left = left; right = right }

-- the j-th gate of the array
abbrev pub three_in : (gates : List ℕ) → ℕ → Three
three_in gates j = three (get_or gates (3 * j) 0) (get_or gates (3 * j + 1) 0) (get_or gates (3 * j + 2) 0)

-- Its fanins: a table below 2^(2^1) is one of one fanin; else there are two.
unfoldable pub fanins_of : (node : ℕ → ℕ) (inputs : ℕ) → Three → List ℕ
fanins_of node inputs t =
    cond (ltb t.table (2 ^ (2 ^ 1))) (operand_node node inputs t.left ∷ [])
    (operand_node node inputs t.left ∷ operand_node node inputs t.right ∷ [])

abbrev pub line_of : (node : ℕ → ℕ) (inputs : ℕ) → Three → GateLine
line_of node inputs t = gate (fanins_of node inputs t) t.table
