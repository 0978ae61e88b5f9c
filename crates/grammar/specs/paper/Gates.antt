-- The gate table that equations become. "Each operator becomes one gate, left to right, innermost first, equations in file order; an equation with no
-- operator becomes a one-input gate that passes its value on."
use Rattle.std.specs.Prelude.{ℕ, suc, ◌+◌, ◌-◌, ◌≤◌, cond, List, [], ◌∷◌, ◌++◌, map, length}
use Rattle.drawing.specs.paper.Limits.{least_k, most_k, most_inputs, most_nodes, most_outputs}
use Rattle.drawing.specs.paper.Table.{GateLine, Table}
use Rattle.grammar.specs.paper.Text.{word_at, same_word}
use Rattle.grammar.specs.paper.Grammar.{Tree, Equation, System}

-- Function tables: row r has bit i of r as the value of fanin i.
abbrev pub not_table : ℕ
not_table = 1

abbrev pub pass_table : ℕ
pass_table = 2

abbrev pub and_table : ℕ
and_table = 8

abbrev pub or_table : ℕ
or_table = 14

-- how many operators an expression has
unfoldable pub size_of : Tree → ℕ
size_of (Tree.name p) = 0
size_of (Tree.not e) = suc (size_of e)
size_of (Tree.and e f) = suc (size_of e + size_of f)
size_of (Tree.or e f) = suc (size_of e + size_of f)

-- The node that has an expression's value: that of its name, or the last of its gates, which are numbered from n on.
unfoldable pub root_of : (node : ℕ → ℕ) (n : ℕ) → Tree → ℕ
root_of node n (Tree.name p) = node p
root_of node n (Tree.not e) = n + size_of e
root_of node n (Tree.and e f) = n + (size_of e + size_of f)
root_of node n (Tree.or e f) = n + (size_of e + size_of f)

abbrev pub gate : (fanins : List ℕ) (table : ℕ) → GateLine
gate fanins table = record { fanins = fanins; table = table }

-- its gates, those of the left operand first, then of the right, then the operator's own
unfoldable pub gates_of : (node : ℕ → ℕ) (n : ℕ) → Tree → List GateLine
gates_of node n (Tree.name p) = []
gates_of node n (Tree.not e) = gates_of node n e ++ (gate (root_of node n e ∷ []) not_table ∷ [])
gates_of node n (Tree.and e f) =
    gates_of node n e ++ gates_of node (n + size_of e) f
    ++ (gate (root_of node n e ∷ root_of node (n + size_of e) f ∷ []) and_table ∷ [])
gates_of node n (Tree.or e f) =
    gates_of node n e ++ gates_of node (n + size_of e) f
    ++ (gate (root_of node n e ∷ root_of node (n + size_of e) f ∷ []) or_table ∷ [])

-- an equation's gates: with no operator, one that passes the name's value on
unfoldable pub equation_gates : (node : ℕ → ℕ) (n : ℕ) → Tree → List GateLine
equation_gates node n (Tree.name p) = gate (node p ∷ []) pass_table ∷ []
equation_gates node n (Tree.not e) = gates_of node n (Tree.not e)
equation_gates node n (Tree.and e f) = gates_of node n (Tree.and e f)
equation_gates node n (Tree.or e f) = gates_of node n (Tree.or e f)

-- how many they are
unfoldable pub equation_size : Tree → ℕ
equation_size (Tree.name p) = 1
equation_size (Tree.not e) = size_of (Tree.not e)
equation_size (Tree.and e f) = size_of (Tree.and e f)
equation_size (Tree.or e f) = size_of (Tree.or e f)

unfoldable pub all_gates : (node : ℕ → ℕ) (n : ℕ) → List Equation → List GateLine
all_gates node n [] = []
all_gates node n (q ∷ qs) = equation_gates node n q.tree ++ all_gates node (n + equation_size q.tree) qs

unfoldable pub all_size : List Equation → ℕ
all_size [] = 0
all_size (q ∷ qs) = equation_size q.tree + all_size qs

-- A definition: the place of the name, and the node that it stands for.
pub record Definition : Type 0 where
  pub place : ℕ
  pub node : ℕ

-- inputs are numbered from n on; an equation's name stands for the last of its gates
unfoldable pub input_nodes : (n : ℕ) → List ℕ → List Definition
input_nodes n [] = []
input_nodes n (p ∷ ps) = record { place = p; node = n } ∷ input_nodes (suc n) ps

unfoldable pub equation_nodes : (n : ℕ) → List Equation → List Definition
equation_nodes n [] = []
equation_nodes n (q ∷ qs) =
    record { place = q.place; node = n + equation_size q.tree - 1 } ∷ equation_nodes (n + equation_size q.tree) qs

abbrev pub nodes_of : System → List Definition
nodes_of sys = input_nodes 0 sys.inputs ++ equation_nodes (length sys.inputs) sys.equations

-- the node of the first definition of a word; where there is none, 0
unfoldable pub node_among : (s : List ℕ) → List Definition → (word : List ℕ) → ℕ
node_among s [] word = 0
node_among s (d ∷ ds) word = cond (same_word (word_at s d.place) word) d.node (node_among s ds word)

-- the node of the name that stands at a place; "Names may be used before they are defined"
abbrev pub node_at : (s : List ℕ) → System → (place : ℕ) → ℕ
node_at s sys p = node_among s (nodes_of sys) (word_at s p)

-- the gate table of a text, with the user's K
unfoldable pub table_for : (s : List ℕ) (k : ℕ) → System → Table
table_for s k sys =
    record {
      k = k;
      inputs = length sys.inputs;
      gates = all_gates (node_at s sys) (length sys.inputs) sys.equations;
      outputs = map (node_at s sys) sys.outputs;
    }

-- "K, inputs, nodes or outputs" inside "01's numbers"; the grammar gives one input and one output at least
pub record InNumbers (k : ℕ) (sys : System) : Type 0 where
  pub k_least : least_k ≤ k
  pub k_most : k ≤ most_k
  pub inputs : length sys.inputs ≤ most_inputs
  pub nodes : length sys.inputs + all_size sys.equations ≤ most_nodes
  pub outputs : length sys.outputs ≤ most_outputs
