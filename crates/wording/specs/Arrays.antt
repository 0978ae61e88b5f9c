-- The mapping that arrays hold, and the room for its lines.
use Rattle.std.specs.Prelude.{ℕ, suc, ◌+◌, ◌*◌, ◌-◌, ◌≤◌, ◌<◌, ◌≡◌, cond, List, [], ◌∷◌, ◌++◌, map, length, get_or, take, eqb}
use Rattle.storage.specs.Lists.{size_at, list_at}
use Rattle.wording.specs.paper.Text.{Lut, Output, Mapping, lut_line, output_line}

-- One place a node for its label, its mark and its table, and a list of leaves; and the outputs in file order.
pub record Arrays : Type 0 where
  pub labels : List ℕ
  pub cuts : List ℕ
  pub luts : List ℕ
  pub tables : List ℕ
  pub outputs : List ℕ

abbrev pub arrays_of : (labels cuts luts tables outputs : List ℕ) → Arrays
arrays_of labels cuts luts tables outputs = record { labels = labels; cuts = cuts; luts = luts; tables = tables; outputs = outputs }

-- the LUT with root v, whose depth is its label
unfoldable pub lut_at : (labels cuts tables : List ℕ) → ℕ → Lut
lut_at labels cuts tables v =
    record { root = v; depth = get_or labels v 0; leaves = list_at cuts v; table = get_or tables v 0 }

-- an output's depth is its label, which is 0 at an input
unfoldable pub output_at : (labels : List ℕ) → ℕ → Output
output_at labels v = record { node = v; depth = get_or labels v 0 }

-- v itself if its mark is 1, and nothing otherwise
abbrev pub marked : (v mark : ℕ) → List ℕ
marked v mark = cond (eqb mark 1) (v ∷ []) []

-- the nodes from v on that have the mark 1, rising, where the marks from v on are given
unfoldable pub marked_from : ℕ → List ℕ → List ℕ
marked_from v [] = []
marked_from v (m ∷ ms) = marked v m ++ marked_from (suc v) ms

-- the LUTs of the first `nodes` nodes: those with the mark 1
abbrev pub luts_in : Arrays → (nodes : ℕ) → List Lut
luts_in a nodes = map (lut_at a.labels a.cuts a.tables) (marked_from 0 (take nodes a.luts))

abbrev pub outputs_in : Arrays → (number : ℕ) → List Output
outputs_in a number = map (output_at a.labels) (take number a.outputs)

abbrev pub mapping_in : (k inputs nodes : ℕ) → Arrays → (number depth : ℕ) → Mapping
mapping_in k inputs nodes a number depth =
    record { k = k; inputs = inputs; gates = nodes - inputs; luts = luts_in a nodes; depth = depth; outputs = outputs_in a number }

-- the leaves of the largest LUT
abbrev pub most_leaves : ℕ
most_leaves = 6

abbrev pub accepted_room : ℕ
accepted_room = 21

-- The arrays hold a mapping of so many nodes and outputs: ids fit their places, and each part of each array is there.
pub record Held (inputs nodes : ℕ) (a : Arrays) (number : ℕ) : Type 0 where
  pub span : inputs ≤ nodes
  pub small : nodes ≤ 32767
  pub labels_long : nodes ≤ length a.labels
  pub cuts_long : 7 * nodes ≤ length a.cuts
  pub luts_long : nodes ≤ length a.luts
  pub tables_long : nodes ≤ length a.tables
  pub outputs_long : number ≤ length a.outputs
  pub six : (v : ℕ) → v < nodes → get_or a.luts v 0 ≡ 1 → size_at a.cuts v ≤ most_leaves
  pub output_nodes : (i : ℕ) → i < number → get_or a.outputs i 0 < nodes

-- Root v's part of each array is there.
pub record LutHeld (labels cuts tables : List ℕ) (v : ℕ) : Type 0 where
  pub label : v < length labels
  pub cut : 7 * v + 7 ≤ length cuts
  pub six : size_at cuts v ≤ most_leaves
  pub table : v < length tables

-- The lines of a root and of an output, from arrays.
unfoldable pub lut_text : (labels cuts tables : List ℕ) → ℕ → List ℕ
lut_text labels cuts tables v = lut_line (lut_at labels cuts tables v)

unfoldable pub output_text : (labels : List ℕ) → ℕ → List ℕ
output_text labels v = output_line (output_at labels v)
