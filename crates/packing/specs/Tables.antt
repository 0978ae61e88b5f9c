-- The roots' tables in an array, and stage one of the mapper: labels, cuts, roots and tables in arrays.
use Rattle.std.specs.Prelude.{ℕ, ◌*◌, ◌≤◌, ◌<◌, ◌≡◌, length, get_or, take, replicate}
use mathlib.Core.List.{List, map, Memᴰ}
use Rattle.storage.specs.Entries.{Beyond}
use Rattle.storage.specs.Lists.{size_at, list_at}
use Rattle.storage.specs.Columns.{column}
use Rattle.storage.specs.Drawings.{net_in, tables_in, Arranged}
use Rattle.theory.specs.paper.Net.{Net, Gate}
use Rattle.theory.specs.paper.Lists.{greatest}
use Rattle.theory.specs.paper.Walk.{Cut}
use Rattle.theory.specs.paper.Evidence.{MappersCut}
use Rattle.theory.specs.paper.Lookup.{ConeTable}
use Rattle.area.specs.Area.{label_in}
use Rattle.labelling.specs.Evidence.{TrueLabel}
use Rattle.labelling.specs.Storing.{Room}
use Rattle.labelling.specs.Gates.{LabelsMade}
use Rattle.covering.specs.Covers.{CoverMade}
use Rattle.packing.specs.declared.Mapping.{Mapping}

-- Words in two columns: the values of the cone at hand, and the LUTs' tables.
abbrev pub values_of : (nodes : ℕ) → List ℕ → List ℕ
values_of nodes words = column nodes 0 words

abbrev pub tables_of : (nodes : ℕ) → List ℕ → List ℕ
tables_of nodes words = column nodes 1 words

-- What tables are worked out from: a drawing with its function tables and its order, and a cut for each root.
pub record TablesFrom (inputs nodes k : ℕ) (fanins rows order cuts luts : List ℕ) : Type 0 where
  pub drawing : Arranged inputs nodes k fanins order
  pub rows_long : nodes ≤ length rows
  pub cuts_long : 7 * nodes ≤ length cuts
  pub luts_long : nodes ≤ length luts
  pub gate : (v : ℕ) → v < nodes → get_or luts v 0 ≡ 1 → Gate (net_in inputs nodes fanins) v
  pub cut : (v : ℕ) → v < nodes → get_or luts v 0 ≡ 1 → Cut (net_in inputs nodes fanins) k v (list_at cuts v)
  pub six : (v : ℕ) → v < nodes → size_at cuts v ≤ 6

pub record TableAsked (inputs nodes k : ℕ) (fanins rows order : List ℕ) (v : ℕ) (cuts luts words : List ℕ) : Type 0 where
  pub arrays : TablesFrom inputs nodes k fanins rows order cuts luts
  pub low : v < nodes
  pub words_long : nodes ≤ length words
  pub clear : values_of nodes words ≡ replicate nodes 0

-- "The cone's function" of a root, over its leaves; 0 for any other node
pub record TableIs (net : Net) (tables : ℕ → ℕ) (cuts luts : List ℕ) (v table : ℕ) : Type 0 where
  pub root : get_or luts v 0 ≡ 1 → ConeTable net tables (list_at cuts v) v table
  pub other : (get_or luts v 0 ≡ 1 → ⊥) → table ≡ 0

-- The answer is the node's table, and the words are left as they were.
pub record TableAnswered (inputs nodes : ℕ) (fanins rows cuts luts : List ℕ) (v : ℕ) (words : List ℕ) (table : ℕ) (words' : List ℕ) : Type 0 where
  pub is : TableIs (net_in inputs nodes fanins) (tables_in rows) cuts luts v table
  pub kept : words' ≡ words

pub record TablesAsked (inputs nodes k : ℕ) (fanins rows order cuts luts words : List ℕ) : Type 0 where
  pub arrays : TablesFrom inputs nodes k fanins rows order cuts luts
  pub words_long : 2 * nodes ≤ length words

-- Every node has its table, the values are left at 0, and the words beyond both are as before.
pub record TablesMade (inputs nodes : ℕ) (fanins rows cuts luts words words' : List ℕ) : Type 0 where
  pub each : (v : ℕ) → v < nodes → TableIs (net_in inputs nodes fanins) (tables_in rows) cuts luts v (tables_in (tables_of nodes words') v)
  pub clear : values_of nodes words' ≡ replicate nodes 0
  pub rest : Beyond (2 * nodes) words words'

-- Every node has its label, and every gate the mapper's cut.
pub record Labelled (inputs nodes k : ℕ) (fanins labels cuts : List ℕ) : Type 0 where
  pub labels_long : nodes ≤ length labels
  pub cuts_long : 7 * nodes ≤ length cuts
  pub label : (v : ℕ) → v < nodes → TrueLabel (net_in inputs nodes fanins) k v (label_in labels v)
  pub cut : (v : ℕ) → Gate (net_in inputs nodes fanins) v → MappersCut (net_in inputs nodes fanins) k (label_in labels) v (list_at cuts v)
  pub six : (v : ℕ) → v < nodes → size_at cuts v ≤ 6

-- The arrays that stage one fills.
pub record Made : Type 0 where
  pub labels : List ℕ
  pub cuts : List ℕ
  pub luts : List ℕ
  pub words : List ℕ

abbrev pub made_of : (labels cuts luts words : List ℕ) → Made
made_of labels cuts luts words = record { labels = labels; cuts = cuts; luts = luts; words = words }

-- A drawing with its function tables, order and outputs, and room for the nodes in every array.
pub record MapAsked (inputs nodes k : ℕ) (fanins rows order outputs : List ℕ) (number : ℕ) (m : Made) (roles links : List ℕ) : Type 0 where
  pub drawing : Arranged inputs nodes k fanins order
  pub rows_long : nodes ≤ length rows
  pub outputs_long : number ≤ length outputs
  pub output_nodes : (v : ℕ) → Memᴰ v (take number outputs) → v < nodes
  pub room : Room nodes m.labels m.cuts
  pub roles_long : nodes ≤ length roles
  pub links_long : 5 * nodes ≤ length links
  pub luts_long : nodes ≤ length m.luts
  pub words_long : 2 * nodes ≤ length m.words

-- Every gate has its label and the mapper's cut, the roots are the gates needed, each with its cone's table, and the answer has their number and the
-- greatest output label. All scratch is left at 0, and what lies beyond the nodes is as before.
pub record MappingMade (inputs nodes k : ℕ) (fanins rows outputs : List ℕ) (number : ℕ) (m : Made) (roles links : List ℕ) (r : Mapping) (m' : Made)
    (roles' links' : List ℕ) : Type 0 where
  pub labelled : LabelsMade inputs nodes k fanins m.labels m.cuts roles links m'.labels m'.cuts roles' links'
  pub cover : CoverMade inputs nodes m'.cuts (take number outputs) m.luts r.luts m'.luts
  pub tables : TablesMade inputs nodes fanins rows m'.cuts m'.luts m.words m'.words
  pub depth : r.depth.depth ≡ greatest (map (label_in m'.labels) (take number outputs))
