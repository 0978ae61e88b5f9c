-- A gate table as a value, and the net that it stands for.
use Rattle.std.specs.Prelude.{ℕ, ◌+◌, ◌-◌, cond, List, [], length, get_or, ltb}
use Rattle.theory.specs.paper.Net.{Net}

-- "Tag 2, gate, 9 + m bytes: m, then m fanin ids, then 8 bytes of function table": its fanins, and the table as a number.
pub record GateLine : Type 0 where
  pub fanins : List ℕ
  pub table : ℕ

pub record Table : Type 0 where
  pub k : ℕ
  pub inputs : ℕ
  pub gates : List GateLine
  pub outputs : List ℕ

abbrev pub no_gate : GateLine
no_gate = record { fanins = []; table = 0 }

-- the line of node v, where inputs have an empty one
abbrev pub line_of : Table → ℕ → GateLine
line_of t v = cond (ltb v t.inputs) no_gate (get_or t.gates (v - t.inputs) no_gate)

-- "Nodes 0 to I-1 are inputs, I to n-1 gates."
unfoldable pub net_of : Table → Net
net_of t = record { inputs = t.inputs; nodes = t.inputs + length t.gates; fanins = λ v. (line_of t v).fanins }

abbrev pub tables_of : Table → ℕ → ℕ
tables_of t v = (line_of t v).table
