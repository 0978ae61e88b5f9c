-- Labels and cuts in arrays: a label a node, and a list of leaves a node.
use Rattle.std.specs.Prelude.{ℕ, suc, ◌+◌, ◌*◌, ◌≤◌, ◌<◌, ◌≡◌, Option, None, Some, length, get_or, set}
use mathlib.Core.List.{List, ◌∷◌, Memᴰ}
use Rattle.std.proofs.lemmas.List.Edits.{sets}
use Rattle.storage.specs.declared.Node.{Node}
use Rattle.storage.specs.Drawings.{net_in}
use Rattle.storage.specs.Entries.{cleared, Beyond}
use Rattle.storage.specs.Lists.{size_at, entry_at, list_at}
use Rattle.theory.specs.paper.Net.{Net, Gate, Input}
use Rattle.theory.specs.paper.Evidence.{DistinctFanins, MappersCut}
use Rattle.area.specs.Area.{label_in}
use Rattle.labelling.specs.Evidence.{TrueLabel}
use Rattle.labelling.specs.Labelling.{LabelledTo}

-- A node's label and its leaves are stored.
pub record Stored (t label : ℕ) (cut labels cuts labels' cuts' : List ℕ) : Type 0 where
  pub label_stored : labels' ≡ set labels t label
  pub cut_stored : cuts' ≡ sets cuts (7 * t) (length cut ∷ cut)

-- The arrays have room for the nodes' labels and cuts.
pub record Room (nodes : ℕ) (labels cuts : List ℕ) : Type 0 where
  pub labels_long : nodes ≤ length labels
  pub cuts_long : 7 * nodes ≤ length cuts

-- What labelling leaves alone: the entries beyond the nodes, and the places that a node's cut does not use.
pub record Rest (nodes : ℕ) (labels₀ cuts₀ labels cuts : List ℕ) : Type 0 where
  pub labels_beyond : Beyond nodes labels₀ labels
  pub cuts_beyond : Beyond (7 * nodes) cuts₀ cuts
  pub unused : (v i : ℕ) → v < nodes → i < 6 → size_at cuts v ≤ i → entry_at cuts v i ≡ entry_at cuts₀ v i

-- After the first i gates of the order. Gates to come have no leaves yet.
pub record Labelling (net : Net) (k : ℕ) (order : List ℕ) (i : ℕ) (labels₀ cuts₀ labels cuts : List ℕ) : Type 0 where
  pub room : Room net.nodes labels cuts
  pub labelled : LabelledTo net k order i (label_in labels) (list_at cuts)
  pub six : (v : ℕ) → v < net.nodes → size_at cuts v ≤ 6
  pub inputs_none : (v : ℕ) → Input net v → size_at cuts v ≡ 0
  pub to_come : (j : ℕ) → i ≤ j → j < length order → size_at cuts (get_or order j 0) ≡ 0
  pub rest : Rest net.nodes labels₀ cuts₀ labels cuts

-- Every gate has its label and the mapper's cut; an input has label 0 and no leaves.
pub record LabellingMade (net : Net) (k : ℕ) (labels₀ cuts₀ labels cuts : List ℕ) : Type 0 where
  pub room : Room net.nodes labels cuts
  pub label : (v : ℕ) → v < net.nodes → TrueLabel net k v (get_or labels v 0)
  pub cut : (v : ℕ) → Gate net v → MappersCut net k (label_in labels) v (list_at cuts v)
  pub six : (v : ℕ) → v < net.nodes → size_at cuts v ≤ 6
  pub inputs_none : (v : ℕ) → Input net v → size_at cuts v ≡ 0
  pub rest : Rest net.nodes labels₀ cuts₀ labels cuts

-- the least number of a list that is `from` or more
pub data LeastFrom (l : List ℕ) (from : ℕ) : Option Node → Type 0 where
  at : {v : Node} → Memᴰ v.id l → from ≤ v.id → ((u : ℕ) → Memᴰ u l → from ≤ u → v.id ≤ u) → LeastFrom l from (Some v)
  nothing : ((u : ℕ) → Memᴰ u l → from ≤ u → ⊥) → LeastFrom l from None

-- A gate's fanins lie within the array.
pub record FaninsRoom (fanins : List ℕ) (gate : ℕ) : Type 0 where
  pub long : 7 * gate + 7 ≤ length fanins
  pub six : size_at fanins gate ≤ 6

-- "the distinct fanins of t" are the gate's list, and all else is as before.
pub record DistinctStored (fanins : List ℕ) (gate : ℕ) (before after : List ℕ) : Type 0 where
  pub cut : List ℕ
  pub distinct : (inputs nodes : ℕ) → gate < nodes → DistinctFanins (net_in inputs nodes fanins) gate cut
  pub stored : after ≡ sets before (7 * gate) (length cut ∷ cut)

-- the state before the first gate's turn
pub record BeginRoom (inputs nodes : ℕ) (labels cuts : List ℕ) : Type 0 where
  pub span : inputs ≤ nodes
  pub small : nodes ≤ 32767
  pub room : Room nodes labels cuts

-- The first lists have no ids, and all else is as before.
pub record Emptied (many : ℕ) (cuts cuts' : List ℕ) : Type 0 where
  pub none : (v : ℕ) → v < many → size_at cuts' v ≡ 0
  pub kept : (v i : ℕ) → i < 6 → entry_at cuts' v i ≡ entry_at cuts v i
  pub rest : Beyond (7 * many) cuts cuts'

pub record Begun (inputs nodes : ℕ) (labels cuts labels' cuts' : List ℕ) : Type 0 where
  pub labels_cleared : labels' ≡ cleared inputs labels
  pub cuts_emptied : Emptied nodes cuts cuts'

-- A gate can have p + 1 for its label, and its fanins for its cut.
pub record AboveRoom (fanins : List ℕ) (gate p : ℕ) (labels cuts : List ℕ) : Type 0 where
  pub fanins_room : FaninsRoom fanins gate
  pub labels_long : gate < length labels
  pub cuts_long : 7 * gate + 7 ≤ length cuts
  pub fits : suc p < 65536

-- "If it is p + 1, the distinct fanins of t."
pub record StoredAbove (fanins : List ℕ) (gate p : ℕ) (labels cuts labels' cuts' : List ℕ) : Type 0 where
  pub cut : List ℕ
  pub distinct : (inputs nodes : ℕ) → gate < nodes → DistinctFanins (net_in inputs nodes fanins) gate cut
  pub stored : Stored gate (suc p) cut labels cuts labels' cuts'
