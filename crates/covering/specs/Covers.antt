-- Covers from arrays: what `cover` and `depth` ask and answer; below, what their steps do.
use Rattle.std.specs.Prelude.{ℕ, zero, suc, ◌+◌, ◌*◌, ◌-◌, ◌≤◌, ◌<◌, ◌≡◌, Bool, ◌⊎◌, length, get_or, take, set, eqb}
use mathlib.Core.List.{List, Memᴰ}
use Rattle.storage.specs.Entries.{Beyond}
use Rattle.storage.specs.Marks.{Marks}
use Rattle.storage.specs.Lists.{size_at, list_at}
use Rattle.storage.specs.Drawings.{net_in, Ordered}
use Rattle.theory.specs.paper.Net.{Gate}
use Rattle.theory.specs.paper.Values.{bit}
use Rattle.theory.specs.paper.Walk.{Cut}
use Rattle.theory.specs.paper.Cover.{Luts}
use Rattle.covering.specs.paper.Needed.{Needed}

-- Each gate has a cut: a list of up to six leaves.
pub record CutsIn (inputs nodes k : ℕ) (fanins cuts : List ℕ) : Type 0 where
  pub cuts_long : 7 * nodes ≤ length cuts
  pub six : (g : ℕ) → Gate (net_in inputs nodes fanins) g → size_at cuts g ≤ 6
  pub cut : (g : ℕ) → Gate (net_in inputs nodes fanins) g → Cut (net_in inputs nodes fanins) k g (list_at cuts g)

-- All that `cover` needs of them. The leaves lie in their array as fanins do, so they are a net of their own, `net_in inputs nodes cuts`,
-- with leaves for fanins. Each leaf that is a gate comes before its gate in the order.
pub record Chosen (inputs nodes : ℕ) (order cuts : List ℕ) : Type 0 where
  pub span : inputs ≤ nodes
  pub order_long : nodes ≤ inputs + length order
  pub cuts_long : 7 * nodes ≤ length cuts
  pub six : (g : ℕ) → Gate (net_in inputs nodes cuts) g → size_at cuts g ≤ 6
  pub leaf_nodes : (g : ℕ) → Gate (net_in inputs nodes cuts) g → (v : ℕ) → Memᴰ v ((net_in inputs nodes cuts).fanins g) → v < nodes
  pub ordered : Ordered (net_in inputs nodes cuts) (take (nodes - inputs) order)

pub record CoverAsked (inputs nodes : ℕ) (order cuts outputs : List ℕ) (number room : ℕ) : Type 0 where
  pub chosen : Chosen inputs nodes order cuts
  pub outputs_long : number ≤ length outputs
  pub output_nodes : (v : ℕ) → Memᴰ v (take number outputs) → v < nodes
  pub luts_long : nodes ≤ room

unfoldable pub is_root : (nodes : ℕ) → List ℕ → ℕ → Bool
is_root nodes luts v = eqb (get_or (take nodes luts) v 0) 1

-- the LUTs that the first `nodes` marks and the leaves are
abbrev pub luts_in : (inputs nodes : ℕ) (cuts luts : List ℕ) → Luts
luts_in inputs nodes cuts luts = record { root = is_root nodes luts; leaves = (net_in inputs nodes cuts).fanins }

-- how many roots there are below n
unfoldable pub lut_count : (ℕ → Bool) → ℕ → ℕ
lut_count root zero = 0
lut_count root (suc n) = bit (root n) + lut_count root n

-- The marks are at the gates needed, those beyond the nodes are as before, and the answer is the number of LUTs.
pub record CoverMade (inputs nodes : ℕ) (cuts outputs before : List ℕ) (number : ℕ) (after : List ℕ) : Type 0 where
  pub marks : Marks nodes (Needed (net_in inputs nodes cuts) outputs) after
  pub rest : Beyond nodes before after
  pub count : number ≡ lut_count (is_root nodes after) nodes

-- each of the outputs has a label
abbrev pub DepthAsked : (labels outputs : List ℕ) → Type 0
DepthAsked labels outputs = (v : ℕ) → Memᴰ v outputs → v < length labels

pub record GateMarked (v inputs : ℕ) (before after : List ℕ) : Type 0 where
  pub gate : inputs ≤ v → after ≡ set before v 1
  pub input : v < inputs → after ≡ before

pub record GatesFit (ids : List ℕ) (at many room : ℕ) : Type 0 where
  pub inside : at + many ≤ length ids
  pub nodes : (i : ℕ) → i < many → get_or ids (at + i) 0 < room

-- v is a gate among the `many` nodes from place `at` on
pub record GateAmong (ids : List ℕ) (at many inputs v : ℕ) : Type 0 where
  pub place : ℕ
  pub low : place < many
  pub there : get_or ids (at + place) 0 ≡ v
  pub gate : inputs ≤ v

-- the gates among them have the mark 1, and nothing else has changed
pub record GatesMarked (ids : List ℕ) (at many inputs : ℕ) (before after : List ℕ) : Type 0 where
  pub long : length after ≡ length before
  pub marked : (v : ℕ) → GateAmong ids at many inputs v → get_or after v 0 ≡ 1
  pub others : (v : ℕ) → (get_or after v 0 ≡ get_or before v 0) ⊎ GateAmong ids at many inputs v

-- the leaves that `cuts` holds for v, as the gates of `GatesFit` and `GatesMarked`
abbrev pub LeavesFit : List ℕ → (v room : ℕ) → Type 0
LeavesFit cuts v room = GatesFit cuts (7 * v + 1) (size_at cuts v) room

abbrev pub LeavesMarked : List ℕ → (v inputs : ℕ) (before after : List ℕ) → Type 0
LeavesMarked cuts v inputs before after = GatesMarked cuts (7 * v + 1) (size_at cuts v) inputs before after

pub record MarksFit (marks : List ℕ) (nodes : ℕ) : Type 0 where
  pub inside : nodes ≤ length marks
  pub bits : (v : ℕ) → v < nodes → (get_or marks v 0 ≡ 0) ⊎ (get_or marks v 0 ≡ 1)
