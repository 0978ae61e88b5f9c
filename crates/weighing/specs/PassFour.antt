-- Pass four, on the whole: "28, then 30". The leaves lie in arrays as fanins do, so they are a net of their own, whose order is the drawing's.
use Rattle.std.specs.Prelude.{ℕ, ◌+◌, ◌*◌, ◌≤◌, ◌<◌, ◌≡◌, true, length, get_or, take, set, Option, None, Some, ⊤, Result, Ok, Err}
use mathlib.Core.List.{List, map, Memᴰ}
use Rattle.storage.specs.declared.Node.{Node}
use Rattle.storage.specs.Entries.{cleared, Beyond}
use Rattle.storage.specs.Marks.{Marks}
use Rattle.storage.specs.Lists.{size_at, list_at}
use Rattle.storage.specs.Drawings.{net_in}
use Rattle.theory.specs.paper.Net.{Net, Gate}
use Rattle.theory.specs.paper.Lists.{greatest}
use Rattle.theory.specs.paper.Cover.{Luts, Wanted, Depth, Depths}
use Rattle.covering.specs.Covers.{Chosen, is_root, luts_in, MarksFit}
use Rattle.sheet.specs.paper.Rules.{CoverKept, DepthKept}
use Rattle.weighing.specs.declared.whole.WholeFault.{WholeFault}
use Rattle.weighing.specs.declared.whole.WholeFault.TheVariants as fault

module _ (net : Net) (outputs : List ℕ) (luts : Luts) where
  -- the gates below v keep 28
  abbrev pub CoveredBelow : ℕ → Type 0
  CoveredBelow v = (g : ℕ) → Gate net g → g < v → CoverKept outputs luts g

  -- 28: all gates keep it, or the lowest that does not
  pub data CoverRuled : Option Node → Type 0 where
    kept : ((g : ℕ) → Gate net g → CoverKept outputs luts g) → CoverRuled None
    cover : {g : ℕ} → Gate net g → CoveredBelow g → (CoverKept outputs luts g → ⊥) → CoverRuled (Some (record { id = g }))

  -- The reply of pass four: 28 at the lowest gate that breaks it, then 30.
  pub data WholeRuled (lab : ℕ → ℕ) (depth : ℕ) : Result ⊤ WholeFault → Type 0 where
    kept : ((g : ℕ) → Gate net g → CoverKept outputs luts g) → DepthKept net lab outputs luts depth → WholeRuled lab depth (Ok tt)
    cover : {g : ℕ} → Gate net g → CoveredBelow g → (CoverKept outputs luts g → ⊥) → WholeRuled lab depth (Err (fault.Cover (record { id = g })))
    depth_broken : ((g : ℕ) → Gate net g → CoverKept outputs luts g) → (DepthKept net lab outputs luts depth → ⊥) → WholeRuled lab depth (Err fault.Depth)

-- The arrays hold LUTs whose leaves come before their roots in the order (which 25 gives), the outputs and a label a node; and there is room
-- for marks and depths.
pub record WholeAsked (inputs nodes : ℕ) (order luts cuts outputs : List ℕ) (number : ℕ) (labels wanted depths : List ℕ) : Type 0 where
  pub chosen : Chosen inputs nodes order cuts
  pub small : nodes ≤ 32767
  pub marks : MarksFit luts nodes
  pub gates : (r : ℕ) → is_root nodes luts r ≡ true → inputs ≤ r
  pub outputs_long : number ≤ length outputs
  pub output_nodes : (v : ℕ) → Memᴰ v (take number outputs) → v < nodes
  pub labels_long : nodes ≤ length labels
  pub wanted_long : nodes ≤ length wanted
  pub depths_long : nodes ≤ length depths

-- The reply, and the scratch: its first `nodes` entries are left at 0.
pub record WholeAnswered (inputs nodes : ℕ) (luts cuts outputs labels : List ℕ) (depth : ℕ) (wanted depths : List ℕ) (r : Result ⊤ WholeFault)
    (wanted' depths' : List ℕ) : Type 0 where
  pub reply : WholeRuled (net_in inputs nodes cuts) outputs (luts_in inputs nodes cuts luts) (λ v. get_or labels v 0) depth r
  pub wanted_clear : wanted' ≡ cleared nodes wanted
  pub depths_clear : depths' ≡ cleared nodes depths

-- The steps of 28

pub record CoverAsked (inputs nodes : ℕ) (luts cuts outputs : List ℕ) (number room : ℕ) : Type 0 where
  pub span : inputs ≤ nodes
  pub small : nodes ≤ 32767
  pub marks : MarksFit luts nodes
  pub gates : (r : ℕ) → is_root nodes luts r ≡ true → inputs ≤ r
  pub cuts_long : 7 * nodes ≤ length cuts
  pub six : (g : ℕ) → Gate (net_in inputs nodes cuts) g → size_at cuts g ≤ 6
  pub leaf_nodes : (g : ℕ) → Gate (net_in inputs nodes cuts) g → (v : ℕ) → Memᴰ v ((net_in inputs nodes cuts).fanins g) → v < nodes
  pub outputs_long : number ≤ length outputs
  pub output_nodes : (v : ℕ) → Memᴰ v (take number outputs) → v < nodes
  pub wanted_long : nodes ≤ room

-- a gate that is "an output or a leaf of any listed LUT"
pub record GateWanted (inputs : ℕ) (outputs : List ℕ) (luts : Luts) (v : ℕ) : Type 0 where
  pub gate : inputs ≤ v
  pub wanted : Wanted outputs luts v

pub record WantedMarked (inputs nodes : ℕ) (luts cuts outputs before after : List ℕ) : Type 0 where
  pub marks : Marks nodes (GateWanted inputs outputs (luts_in inputs nodes cuts luts)) after
  pub rest : Beyond nodes before after

pub record Comparable (inputs nodes : ℕ) (luts wanted : List ℕ) : Type 0 where
  pub small : nodes ≤ 32767
  pub luts_long : nodes ≤ length luts
  pub wanted_long : nodes ≤ length wanted

-- the lowest gate at which roots and marks differ
pub data Compared (inputs nodes : ℕ) (luts wanted : List ℕ) : Option Node → Type 0 where
  same : ((v : ℕ) → inputs ≤ v → v < nodes → get_or luts v 0 ≡ get_or wanted v 0) → Compared inputs nodes luts wanted None
  differ : {v : ℕ} → inputs ≤ v → v < nodes → ((w : ℕ) → inputs ≤ w → w < v → get_or luts w 0 ≡ get_or wanted w 0) →
      (get_or luts v 0 ≡ get_or wanted v 0 → ⊥) → Compared inputs nodes luts wanted (Some (record { id = v }))

pub record CoverTold (inputs nodes : ℕ) (luts cuts outputs before : List ℕ) (r : Option Node) (after : List ℕ) : Type 0 where
  pub reply : CoverRuled (net_in inputs nodes cuts) outputs (luts_in inputs nodes cuts luts) r
  pub clear : after ≡ cleared nodes before

-- The steps of 30

-- the greatest of the leaves' depths
abbrev pub deepest : (cuts depths : List ℕ) → ℕ → ℕ
deepest cuts depths v = greatest (map (λ u. get_or depths u 0) (list_at cuts v))

pub record DepthFits (luts cuts : List ℕ) (v : ℕ) (depths : List ℕ) : Type 0 where
  pub cuts_long : 7 * v + 7 ≤ length cuts
  pub six : size_at cuts v ≤ 6
  pub luts_long : v < length luts
  pub depth_long : v < length depths
  pub leaf_nodes : (u : ℕ) → Memᴰ u (list_at cuts v) → u < length depths
  pub small : deepest cuts depths v < 65535

-- "1 + the greatest leaf depth at a root"
pub record DepthSet (luts cuts : List ℕ) (v : ℕ) (before after : List ℕ) : Type 0 where
  pub root : get_or luts v 0 ≡ 1 → after ≡ set before v (deepest cuts before v + 1)
  pub other : (get_or luts v 0 ≡ 1 → ⊥) → after ≡ before

-- Each leaf of a root is an input or a root. The depths are 0 to begin with.
pub record DepthsAsked (inputs nodes : ℕ) (order luts cuts depths : List ℕ) : Type 0 where
  pub chosen : Chosen inputs nodes order cuts
  pub small : nodes ≤ 32767
  pub marks : MarksFit luts nodes
  pub gates : (r : ℕ) → is_root nodes luts r ≡ true → inputs ≤ r
  pub closed : (r v : ℕ) → is_root nodes luts r ≡ true → Memᴰ v ((net_in inputs nodes cuts).fanins r) → inputs ≤ v → is_root nodes luts v ≡ true
  pub depths_long : nodes ≤ length depths
  pub zero : (v : ℕ) → v < nodes → get_or depths v 0 ≡ 0

pub record DepthsFound (inputs nodes : ℕ) (luts cuts before after : List ℕ) : Type 0 where
  pub inputs_at : (v : ℕ) → v < inputs → get_or after v 0 ≡ 0
  pub roots_at : (v : ℕ) → is_root nodes luts v ≡ true → Depth (net_in inputs nodes cuts) (luts_in inputs nodes cuts luts) v (get_or after v 0)
  pub rest : Beyond nodes before after

pub record DeepAsked (inputs nodes : ℕ) (order luts cuts outputs : List ℕ) (number : ℕ) (depths : List ℕ) : Type 0 where
  pub asked : DepthsAsked inputs nodes order luts cuts depths
  pub outputs_long : number ≤ length outputs
  pub output_nodes : (v : ℕ) → Memᴰ v (take number outputs) → v < nodes
  pub output_roots : (v : ℕ) → Memᴰ v (take number outputs) → inputs ≤ v → is_root nodes luts v ≡ true

pub record DeepTold (inputs nodes : ℕ) (luts cuts outputs before : List ℕ) (depth : ℕ) (after : List ℕ) : Type 0 where
  pub reached : Depths (net_in inputs nodes cuts) (luts_in inputs nodes cuts luts) outputs depth
  pub clear : after ≡ cleared nodes before
