-- The part of a drawing on which the search for paths works: what lies behind a gate t outside D, and where paths end.
use Rattle.std.specs.Prelude.{ℕ, ◌≤◌, ◌<◌, ◌≡◌, ◌⊎◌, length, get_or}
use mathlib.Core.List.{List, Memᴰ}
use Rattle.theory.specs.paper.Net.{Net, Gate}
use Rattle.theory.specs.paper.Walk.{Behind}
use Rattle.theory.specs.paper.Evidence.{peak, InD}
use Rattle.storage.specs.Entries.{Beyond}
use Rattle.storage.specs.Marks.{Marks}
use Rattle.storage.specs.Roles.{met_in, deep_in, area_in, ends_in}
use Rattle.storage.specs.Drawings.{net_in, Drawn}

-- "stays behind t and outside D"
pub record InArea (net : Net) (lab : ℕ → ℕ) (t v : ℕ) : Type 0 where
  pub behind : Behind net t v
  pub outside : InD net lab t v → ⊥

-- a node of the area that can be a path's last: "a fanin of a member of D"
pub record IsEnd (net : Net) (lab : ℕ → ℕ) (t v : ℕ) : Type 0 where
  pub inside : InArea net lab t v
  pub member : ℕ
  pub deep : InD net lab t member
  pub feeds : Memᴰ v (net.fanins member)

-- the labels that an array holds
abbrev pub label_in : List ℕ → ℕ → ℕ
label_in labels v = get_or labels v 0

-- p, in every drawing that the array holds
abbrev pub PeakIn : (fanins : List ℕ) (gate : ℕ) (labels : List ℕ) (p : ℕ) → Type 0
PeakIn fanins gate labels p = (inputs nodes : ℕ) → gate < nodes → p ≡ peak (net_in inputs nodes fanins) (label_in labels) gate

-- A gate of a drawing, with its p, and roles by which what lies behind it was met.
pub record AreaAsked (inputs nodes : ℕ) (fanins : List ℕ) (gate : ℕ) (labels : List ℕ) (p : ℕ) (roles : List ℕ) : Type 0 where
  pub k : ℕ
  pub drawn : Drawn inputs nodes k fanins
  pub small : nodes ≤ 32767
  pub gate_stands : Gate (net_in inputs nodes fanins) gate
  pub peak_known : p ≡ peak (net_in inputs nodes fanins) (label_in labels) gate
  pub behind_known : Marks nodes (Behind (net_in inputs nodes fanins) gate) (met_in roles)
  pub labels_long : nodes ≤ length labels
  pub roles_long : nodes ≤ length roles

-- D, the area and its ends are marked, no node has another role, and the entries beyond the nodes are as before.
pub record AreaMarked (net : Net) (lab : ℕ → ℕ) (t : ℕ) (roles₀ roles : List ℕ) : Type 0 where
  pub deep_marked : Marks net.nodes (InD net lab t) (deep_in roles)
  pub area_marked : Marks net.nodes (InArea net lab t) (area_in roles)
  pub ends_marked : Marks net.nodes (IsEnd net lab t) (ends_in roles)
  pub kinds : (v : ℕ) → v < net.nodes → (get_or roles v 0 ≡ 0) ⊎ (4 ≤ get_or roles v 0) × (get_or roles v 0 ≤ 6)
  pub rest : Beyond net.nodes roles₀ roles
