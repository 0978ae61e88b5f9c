-- The links of a flow in one array: five columns of `nodes` places. `next` and `prev` say where the paths lead; `ins`, `outs` and `parent` are
-- the search's: by which number it found a node's in-state and its out-state, 0 for not at all, and from where it came to the in-state.
use Rattle.std.specs.Prelude.{ℕ, suc, Option, None, Some, List}
use Rattle.storage.specs.declared.Node.{Node}
use Rattle.flow.specs.declared.cells.Column.{Column}
use Rattle.flow.specs.declared.cells.Column.TheVariants.{Next, Prev, Ins, Outs, Parent}
use Rattle.flow.specs.declared.cells.Link.{Link}
use Rattle.flow.specs.declared.cells.Link.TheVariants.{Nowhere, Edge, To}
use Rattle.storage.specs.Columns.{column}

abbrev pub place : Column → ℕ
place Next = 0
place Prev = 1
place Ins = 2
place Outs = 3
place Parent = 4

abbrev pub next_in : (nodes : ℕ) (links : List ℕ) → List ℕ
next_in nodes links = column nodes 0 links

abbrev pub prev_in : (nodes : ℕ) (links : List ℕ) → List ℕ
prev_in nodes links = column nodes 1 links

abbrev pub ins_in : (nodes : ℕ) (links : List ℕ) → List ℕ
ins_in nodes links = column nodes 2 links

abbrev pub outs_in : (nodes : ℕ) (links : List ℕ) → List ℕ
outs_in nodes links = column nodes 3 links

abbrev pub parent_in : (nodes : ℕ) (links : List ℕ) → List ℕ
parent_in nodes links = column nodes 4 links

-- What a link says, an entry of next, prev or parent: nothing; the edge of the flow, which is the sink ahead and the source behind; or a node.
abbrev pub no_link : ℕ
no_link = 0

abbrev pub edge_of_flow : ℕ
edge_of_flow = 1

abbrev pub link_to : ℕ → ℕ
link_to v = suc (suc v)

-- the number that stands for a link, and for one to a node that was looked for
abbrev pub code_of : Link → ℕ
code_of Nowhere = no_link
code_of Edge = edge_of_flow
code_of (To v) = link_to v.id

abbrev pub code_of_found : Option Node → ℕ
code_of_found None = no_link
code_of_found (Some v) = link_to v.id
