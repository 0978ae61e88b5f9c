-- Gate tables within the numbers of document 01, as values: what no refusal of a table's bytes speaks against.
use Rattle.std.specs.Prelude.{ℕ, ◌+◌, ◌≤◌, ◌<◌, length}
use mathlib.Core.List.{Memᴰ}
use Rattle.drawing.specs.paper.Limits.{least_k, most_k, least_inputs, most_inputs, most_nodes, most_outputs}
use Rattle.drawing.specs.paper.Table.{GateLine, Table}
use Rattle.drawing.specs.Lines.{SoundLine}

-- "n = I + G"
abbrev pub nodes_in : Table → ℕ
nodes_in table = table.inputs + length table.gates

-- "K is 2 to 6. Inputs I: 1 to 64. .. n = I + G at most 192. Outputs: 1 to 64."; an output is a node
pub record Within (table : Table) : Type 0 where
  pub k_least : least_k ≤ table.k
  pub k_most : table.k ≤ most_k
  pub inputs_least : least_inputs ≤ table.inputs
  pub inputs_most : table.inputs ≤ most_inputs
  pub nodes_most : nodes_in table ≤ most_nodes
  pub gates : (gate : GateLine) → Memᴰ gate table.gates → SoundLine table.k (nodes_in table) gate
  pub outputs_some : 1 ≤ length table.outputs
  pub outputs_most : length table.outputs ≤ most_outputs
  pub outputs : (v : ℕ) → Memᴰ v table.outputs → v < nodes_in table
