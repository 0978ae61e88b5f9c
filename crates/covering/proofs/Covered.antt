-- The mapping from arrays: where each gate has a cut, the LUTs that `cover` marks are a cover; a root's depth is its label, the cover's depth is
-- what `depth` answers, and no cover is shallower; and with the tables of their cones the LUTs compute every output as the gates do.
use Prim.Native.Nat.{ℕ, suc, ◌≤◌, ◌<◌}
use native.Mathlib.Decide.{dec_lt}
use native.Mathlib.Omega.{arith}
use mathlib.Core.Path.{◌≡◌, sym, ◌∙◌}
use mathlib.Core.Bool.{Bool, true}
use mathlib.Core.Logic.{inr}
use mathlib.Core.List.{List, map, Memᴰ}
use lib.ListN.{get_or, take, length-take, get_or-eq_default}
use lib.Seq.{get_or-take}
use borrow.Author.Tests.{eqb-true, eq-eqb}
use Rattle.storage.specs.Drawings.{net_in, tables_in, Arranged}
use Rattle.storage.specs.Marks.{Marks}
use Rattle.storage.specs.Lists.{list_at}
use Rattle.storage.proofs.Drawings.{fanins_in, gate_below}
use Rattle.theory.specs.paper.Net.{Gate}
use Rattle.theory.specs.paper.Sound.{Ranked}
use Rattle.theory.specs.paper.Lists.{greatest}
use Rattle.theory.specs.paper.Walk.{Cut}
use Rattle.theory.specs.paper.Values.{Obeys}
use Rattle.theory.specs.paper.Cover.{Luts, Wanted, Cover, Depth, Depths}
use Rattle.theory.specs.paper.Lookup.{ConeTable, ObeysLuts}
use Rattle.theory.proofs.FlowMap.{Labels}
use Rattle.theory.proofs.MappersCovers.{no_cover_shallower, depth_is_label, cover_depth_is_label, roots_are_one}
use Rattle.theory.proofs.Computes.{luts_compute_outputs}
use Rattle.walking.proofs.Orders.{drawn_ranked}
use Rattle.covering.specs.paper.Needed.{Needed}
use Rattle.covering.specs.Covers.{CutsIn, Chosen, is_root, luts_in}
use Rattle.covering.proofs.Orders.{needed_gate, gate_there, leaves_chosen}

-- Marks as roots

module _ (nodes : ℕ) (luts : List ℕ) (v : ℕ) where
  pub root_marked : is_root nodes luts v ≡ true → (v < nodes) × (get_or luts v 0 ≡ 1)
  unfolding is_root
  root_marked at = by (dec_lt v nodes)
    where
      one : get_or (take nodes luts) v 0 ≡ 1
      one = eqb-true _ 1 at

      by : Dec (v < nodes) → (v < nodes) × (get_or luts v 0 ≡ 1)
      by (yes low) = (low, sym (get_or-take nodes luts v 0 low) ∙ one)
      by (no high) =
          let none = get_or-eq_default (take nodes luts) 0 {n = v} (simp length-take (omega arith)) in
          absurd (omega (arith, one))

  pub marked_root : v < nodes → get_or luts v 0 ≡ 1 → is_root nodes luts v ≡ true
  unfolding is_root
  marked_root low one = eq-eqb _ 1 (get_or-take nodes luts v 0 low ∙ one)

module _ (inputs nodes k : ℕ) (fanins order cuts : List ℕ) (drawing : Arranged inputs nodes k fanins order)
    (chosen : CutsIn inputs nodes k fanins cuts) where
  ranked : Ranked (net_in inputs nodes fanins)
  ranked = drawn_ranked drawing.drawn drawing.ordered

  leaves_in : {g : ℕ} → Gate (net_in inputs nodes fanins) g → (net_in inputs nodes cuts).fanins g ≡ list_at cuts g
  leaves_in {g} gate = fanins_in inputs nodes cuts g (gate_below inputs nodes fanins gate)

  cut_at : {g : ℕ} → Gate (net_in inputs nodes fanins) g → Cut (net_in inputs nodes fanins) k g ((net_in inputs nodes cuts).fanins g)
  cut_at {g} gate = rw (leaves_in gate) (chosen.cut g gate)

  pub cuts_chosen : Chosen inputs nodes order cuts
  cuts_chosen =
      leaves_chosen inputs nodes k fanins order cuts drawing (λ r. (net_in inputs nodes cuts).fanins r) (λ g u gate m. (cut_at gate).met u m)
      chosen.cuts_long chosen.six

  -- The cover

  module _ (outputs luts : List ℕ) (marks : Marks nodes (Needed (net_in inputs nodes cuts) outputs) luts) where
    root_needed : {r : ℕ} → is_root nodes luts r ≡ true → Needed (net_in inputs nodes cuts) outputs r
    root_needed {r} at = let (low, one) = root_marked nodes luts r at in marks.holds r low one

    needed_root : {r : ℕ} → Needed (net_in inputs nodes cuts) outputs r → Gate (net_in inputs nodes fanins) r → is_root nodes luts r ≡ true
    needed_root {r} n gate = let low = gate_below inputs nodes fanins gate in marked_root nodes luts r low (marks.marked r low n)

    drawn_gate : {r : ℕ} → Needed (net_in inputs nodes cuts) outputs r → Gate (net_in inputs nodes fanins) r
    drawn_gate n = gate_there inputs nodes cuts fanins (needed_gate n)

    root_wanted : {r : ℕ} → Needed (net_in inputs nodes cuts) outputs r → Wanted outputs (luts_in inputs nodes cuts luts) r
    root_wanted (Needed.output m gate) = Wanted.output m
    root_wanted (Needed.leaf {r = s} n m gate) = Wanted.leaf s (needed_root n (drawn_gate n)) m

    wanted_needed : {v : ℕ} → Gate (net_in inputs nodes fanins) v → Wanted outputs (luts_in inputs nodes cuts luts) v →
        Needed (net_in inputs nodes cuts) outputs v
    wanted_needed gate (Wanted.output m) = Needed.output m (gate_there inputs nodes fanins cuts gate)
    wanted_needed gate (Wanted.leaf r at m) = Needed.leaf (root_needed at) m (gate_there inputs nodes fanins cuts gate)

    -- "A cover is a set of LUTs, each a root gate with a cut, .."
    pub marks_cover : Cover (net_in inputs nodes fanins) k outputs (luts_in inputs nodes cuts luts)
    marks_cover =
        record {
          gates = λ r at. drawn_gate (root_needed at);
          cuts = λ r at. cut_at (drawn_gate (root_needed at));
          closed = λ v gate wanted. needed_root (wanted_needed gate wanted) gate;
          needed = λ r at. root_wanted (root_needed at);
        }

    -- and no other set of LUTs with these cuts is one
    pub only_cover : {other : Luts} → Cover (net_in inputs nodes fanins) k outputs other →
        ((r : ℕ) → Gate (net_in inputs nodes fanins) r → other.leaves r ≡ list_at cuts r) → (r : ℕ) → other.root r ≡ is_root nodes luts r
    only_cover cover same r =
        roots_are_one ranked cover marks_cover (λ s at _. let gate = cover.gates s at in same s gate ∙ sym (leaves_in gate)) r

    -- Depths

    module _ {others : List ℕ} {lab : ℕ → ℕ} (labels : Labels (net_in inputs nodes fanins) k others lab) where
      -- no cover of these outputs is shallower than their greatest label
      pub least_depth : {other : Luts} {d : ℕ} → Cover (net_in inputs nodes fanins) k outputs other →
          Depths (net_in inputs nodes fanins) other outputs d → greatest (map lab outputs) ≤ d
      least_depth cover depths = no_cover_shallower drawing.drawn.bounded ranked labels cover depths

      module _ (shown : (g : ℕ) → Gate (net_in inputs nodes fanins) g → lab g ≡ suc (greatest (map lab (list_at cuts g)))) where
        root_shown : (r : ℕ) → is_root nodes luts r ≡ true → lab r ≡ suc (greatest (map lab ((net_in inputs nodes cuts).fanins r)))
        root_shown r at = let gate = drawn_gate (root_needed at) in rw (leaves_in gate) (shown r gate)

        -- the depth at each root is its label
        pub root_depth : (r : ℕ) → is_root nodes luts r ≡ true → Depth (net_in inputs nodes fanins) (luts_in inputs nodes cuts luts) r (lab r)
        root_depth r at = depth_is_label drawing.drawn.bounded ranked labels marks_cover root_shown (inr at)

        -- and the cover's is the greatest of the outputs
        pub cover_depth : ((v : ℕ) → Memᴰ v outputs → v < nodes) →
            Depths (net_in inputs nodes fanins) (luts_in inputs nodes cuts luts) outputs (greatest (map lab outputs))
        unfolding net_in
        cover_depth nodes = cover_depth_is_label drawing.drawn.bounded ranked labels marks_cover root_shown nodes

    -- What the LUTs compute

    module _ (rows : List ℕ) (lut-tables : ℕ → ℕ)
        (fit : (r : ℕ) → is_root nodes luts r ≡ true → ConeTable (net_in inputs nodes fanins) (tables_in rows) (list_at cuts r) r (lut-tables r))
        (x y : ℕ → Bool) (same : (v : ℕ) → v < inputs → x v ≡ y v)
        (gates : Obeys (net_in inputs nodes fanins) (tables_in rows) x) (obeys : ObeysLuts (luts_in inputs nodes cuts luts) lut-tables y) where
      -- every output as the gates do, for all settings of the inputs
      pub luts_compute : (v : ℕ) → v < nodes → Memᴰ v outputs → x v ≡ y v
      unfolding net_in
      luts_compute v low m =
          luts_compute_outputs (net_in inputs nodes fanins) ranked k outputs (luts_in inputs nodes cuts luts) marks_cover lut-tables drawing.drawn.bounded.nodes
          x y same (tables_in rows) (λ r at. rw (leaves_in (drawn_gate (root_needed at))) (fit r at)) gates obeys v low m
