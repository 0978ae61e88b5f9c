-- Gates of one or two fanins, told apart by their function tables.
use Rattle.std.specs.Prelude.{ℕ, ◌^◌, cond, List, [], ◌∷◌, ltb}
use Rattle.drawing.specs.paper.Table.{GateLine}

-- a gate's line from its fanins and its table
abbrev pub gate_of : (fanins : List ℕ) (table : ℕ) → GateLine
gate_of fanins table = record { fanins = fanins; table = table }

-- a table below 2^(2^1) is one of one fanin, which is the left; else there are two
abbrev pub gate_for : (left right table : ℕ) → GateLine
gate_for left right table = cond (ltb table (2 ^ (2 ^ 1))) (gate_of (left ∷ []) table) (gate_of (left ∷ right ∷ []) table)
