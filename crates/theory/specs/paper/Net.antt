-- A drawing as a net: which node feeds which. Any number of nodes; no bytes.
use Rattle.std.specs.Prelude.{ℕ, ◌≤◌, ◌<◌, List}

pub record Net : Type 0 where
  -- I, and "n = I + G"
  pub inputs : ℕ
  pub nodes : ℕ
  -- a gate's fanin ids in the table's order; "A gate may name a node twice, and may name a gate that comes later."
  pub fanins : ℕ → List ℕ

-- "Nodes 0 to I-1 are inputs, I to n-1 gates."
abbrev pub Input : Net → ℕ → Type 0
Input net v = v < net.inputs

pub record Gate (net : Net) (v : ℕ) : Type 0 where
  pub above : net.inputs ≤ v
  pub below : v < net.nodes
