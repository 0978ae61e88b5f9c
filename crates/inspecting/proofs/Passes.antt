-- The replies of passes three and four, as the first rule that is broken; and what pass three leaves for pass four: leaves before their roots.
use Prim.Native.Nat.{ℕ, ◌-◌, ◌≤◌, ◌<◌}
use native.Mathlib.Omega.{arith}
use mathlib.Core.Path.{◌≡◌, refl, ap, sym, subst, ◌∙◌}
use mathlib.Core.Bool.{Bool, true, false}
use mathlib.Core.List.Memᴰ
use mathlib.Core.List.{List, [], ◌∷◌, ◌++◌, map, flat_map, Memᴰ}
use Rattle.storage.specs.Drawings.{net_in, Arranged}
use Rattle.storage.proofs.Drawings.{gate_below}
use Rattle.theory.specs.paper.Net.{Net, Gate}
use Rattle.theory.specs.paper.Lists.{greatest}
use Rattle.theory.specs.paper.Walk.{Cut, Met}
use Rattle.theory.specs.paper.Cover.{Luts, Depth, Depths}
use Rattle.theory.specs.paper.Lookup.{ConeTable}
use Rattle.covering.specs.Covers.{Chosen, luts_in}
use Rattle.covering.proofs.Orders.{leaves_chosen}
use Rattle.sheet.specs.paper.Sheet.{Lut, Sheet, Roots, lut_of}
use Rattle.sheet.specs.paper.Rules.{Rule, Found, FirstBroken, Keeps, DepthKept, CoverKept, is_listed, leaves_listed, table_listed, luts_of, lut_rules, labels_of, gates}
use Rattle.std.specs.Prelude.{⊤, Result, Ok, Err}
use Rattle.weighing.specs.declared.luts.LutFault.{LutFault}
use Rattle.weighing.specs.declared.luts.LutFault.TheVariants as lut-fault
use Rattle.weighing.specs.declared.whole.WholeFault.{WholeFault}
use Rattle.weighing.specs.declared.whole.WholeFault.TheVariants as whole-fault
use Rattle.weighing.specs.Laid.{LutsLaid}
use Rattle.weighing.specs.PassThree.{LutKept, KeptBelow, LutsRuled}
use Rattle.weighing.specs.PassFour.{WholeRuled}
use Rattle.sheet.proofs.Listed.{Listed, listed_lut_lem, member_listed}
use Rattle.sheet.proofs.Firsts.{first_none, first_before, first_after, from_member, member_from}
use Rattle.inspecting.proofs.Firsts.{first_lut, first_gate}
use Rattle.inspecting.proofs.Listed.{unlisted_leaves}

-- Pass three

-- the rule that a reply names
abbrev pub found_luts : List Lut → Result ⊤ LutFault → Found
found_luts luts (Ok _) = Found.none
found_luts luts (Err (lut-fault.Cut g)) = Found.broken (Rule.cut g.id (leaves_listed luts g.id))
found_luts luts (Err (lut-fault.Function g)) = Found.broken (Rule.function (lut_of g.id (leaves_listed luts g.id) (table_listed luts g.id)))

module _ (net : Net) (tables : ℕ → ℕ) (k : ℕ) (outputs : List ℕ) (sheet : Sheet) (luts : List Lut) {nodes least : ℕ} (rise : Roots nodes least luts) (table : ℕ → ℕ)
    (same : (v : ℕ) → is_listed luts v ≡ true → table v ≡ table_listed luts v) where
  standing : {lut : Lut} → Memᴰ lut luts → Listed luts lut
  standing {lut} m = member_listed rise lut m

  table_is : {lut : Lut} → Memᴰ lut luts → table lut.root ≡ lut.table
  table_is {lut} m = same lut.root (standing m).listed ∙ (standing m).table_is

  kept_rules : {lut : Lut} → Memᴰ lut luts → LutKept net tables k (luts_of luts) table lut.root →
      FirstBroken (Keeps net tables k outputs sheet) (lut_rules lut) Found.none
  unfolding Keeps
  kept_rules {lut} m kept =
      FirstBroken.later (rw (standing m).leaves_are at kept.cut) (FirstBroken.later (rw ((standing m).leaves_are, table_is m) at kept.function) FirstBroken.kept)

  kept_before : {r : ℕ} → KeptBelow net tables k (luts_of luts) table r → (y : Lut) → Memᴰ y luts → y.root < r →
      FirstBroken (Keeps net tables k outputs sheet) (lut_rules y) Found.none
  kept_before below y m less = kept_rules m (below y.root less (standing m).listed)

  cut_at : {lut : Lut} → Memᴰ lut luts → KeptBelow net tables k (luts_of luts) table lut.root → (Cut net k lut.root (leaves_listed luts lut.root) → ⊥) →
      FirstBroken (Keeps net tables k outputs sheet) (flat_map lut_rules luts) (found_luts luts (Err (lut-fault.Cut (record { id = lut.root }))))
  unfolding Keeps
  cut_at {lut} m below none =
      let l = (standing m).leaves_are in
      rw l (first_lut rise m (kept_before below) (FirstBroken.here (λ cut. none (rw l cut))))

  function_at : {lut : Lut} → Memᴰ lut luts → KeptBelow net tables k (luts_of luts) table lut.root → Cut net k lut.root (leaves_listed luts lut.root) →
      (ConeTable net tables (leaves_listed luts lut.root) lut.root (table lut.root) → ⊥) →
      FirstBroken (Keeps net tables k outputs sheet) (flat_map lut_rules luts) (found_luts luts (Err (lut-fault.Function (record { id = lut.root }))))
  unfolding Keeps
  function_at {lut} m below cut none =
      let l = (standing m).leaves_are in
      rw (l, (standing m).table_is)
      (first_lut rise m (kept_before below) (FirstBroken.later (rw l at cut) (FirstBroken.here (λ right. none (rw (l, table_is m) right)))))

  pub luts_found : {r : Result ⊤ LutFault} → LutsRuled net tables k (luts_of luts) table r →
      FirstBroken (Keeps net tables k outputs sheet) (flat_map lut_rules luts) (found_luts luts r)
  luts_found (LutsRuled.kept each) = first_none luts (λ lut m. kept_rules m (each lut.root (standing m).listed))
  luts_found (LutsRuled.cut {r = r} at below none) =
      let found = listed_lut_lem luts r at in
      subst (λ (w : ℕ). FirstBroken (Keeps net tables k outputs sheet) (flat_map lut_rules luts) (found_luts luts (Err (lut-fault.Cut (record { id = w }))))) found.root_is
      (cut_at found.member (rw found.root_is below) (rw found.root_is none))
  luts_found (LutsRuled.function {r = r} at below cut none) =
      let found = listed_lut_lem luts r at in
      subst (λ (w : ℕ). FirstBroken (Keeps net tables k outputs sheet) (flat_map lut_rules luts) (found_luts luts (Err (lut-fault.Function (record { id = w }))))) found.root_is
      (function_at found.member (rw found.root_is below) (rw found.root_is cut) (rw found.root_is none))

-- Pass four

abbrev pub found_whole : Result ⊤ WholeFault → Found
found_whole (Ok _) = Found.none
found_whole (Err (whole-fault.Cover g)) = Found.broken (Rule.cover g.id)
found_whole (Err whole-fault.Depth) = Found.broken Rule.depth

covers_flat : (gs : List ℕ) → map Rule.cover gs ≡ flat_map (λ g. Rule.cover g ∷ []) gs
unfolding flat_map
covers_flat [] = refl
covers_flat (g ∷ gs) = ap (λ (rs : List Rule). Rule.cover g ∷ rs) (covers_flat gs)

-- depths rest on which nodes are inputs, and on nothing else of the net
module _ {a b : Net} {luts : Luts} (same : a.inputs ≡ b.inputs) where
  depth_elsewhere : {v d : ℕ} → Depth a luts v d → Depth b luts v d
  depth_elsewhere h =
      elim h as (λ v d _. Depth b luts v d) (λ vs d _. Depths b luts vs d) [
        | Depth.input i ↦ Depth.input (rw same at i)
        | Depth.root r (ds → each) ↦ Depth.root r each
        | Depths.none ↦ Depths.none
        | Depths.more (d → here) (rest → later) ↦ Depths.more here later
      ]

  depths_elsewhere : {vs : List ℕ} {d : ℕ} → Depths a luts vs d → Depths b luts vs d
  depths_elsewhere Depths.none = Depths.none
  depths_elsewhere (Depths.more d rest) = Depths.more (depth_elsewhere d) (depths_elsewhere rest)

  depth_kept : {lab lab' : ℕ → ℕ} {outputs : List ℕ} {depth : ℕ} → greatest (map lab' outputs) ≡ greatest (map lab outputs) → DepthKept a lab outputs luts depth → DepthKept b lab' outputs luts depth
  depth_kept e d = record { reached = depths_elsewhere d.reached; labelled = e ∙ d.labelled }

module _ (net cuts : Net) (tables : ℕ → ℕ) (k : ℕ) (outputs : List ℕ) (sheet : Sheet) (span : net.inputs ≤ net.nodes)
    (inputs-same : cuts.inputs ≡ net.inputs) (nodes-same : cuts.nodes ≡ net.nodes)
    (lab : ℕ → ℕ) (labels_same : greatest (map lab outputs) ≡ greatest (map (labels_of net.inputs sheet.lines) outputs)) where
  gate_member : {g : ℕ} → Gate cuts g → Memᴰ g (gates net)
  gate_member {g} gate = member_from net.inputs (net.nodes - net.inputs) g (omega (arith, gate.above)) (omega (arith, gate.below))

  member_gate : {g : ℕ} → Memᴰ g (gates net) → Gate cuts g
  member_gate {g} m =
      let (low, high) = from_member net.inputs (net.nodes - net.inputs) g m in
      record { above = omega arith; below = omega arith }

  covers_kept : ((g : ℕ) → Gate cuts g → CoverKept outputs (luts_of sheet.luts) g) →
      FirstBroken (Keeps net tables k outputs sheet) (map Rule.cover (gates net)) Found.none
  unfolding Keeps
  covers_kept each = rw (covers_flat (gates net)) (first_none (gates net) (λ g m. FirstBroken.later (each g (member_gate m)) FirstBroken.kept))

  pub whole_found : {r : Result ⊤ WholeFault} → WholeRuled cuts outputs (luts_of sheet.luts) lab sheet.depth r →
      FirstBroken (Keeps net tables k outputs sheet) (map Rule.cover (gates net) ++ (Rule.depth ∷ [])) (found_whole r)
  unfolding Keeps
  whole_found (WholeRuled.kept each depth) = first_after (covers_kept each) (FirstBroken.later (depth_kept inputs-same (sym labels_same) depth) FirstBroken.kept)
  whole_found (WholeRuled.cover {g = g} gate below none) =
      first_before {rs = map Rule.cover (gates net)} (Rule.depth ∷ [])
      (rw (covers_flat (gates net))
      (first_gate net.inputs (net.nodes - net.inputs) (gate_member gate)
      (λ h m less. FirstBroken.later (below h (member_gate m) less) FirstBroken.kept)
      (FirstBroken.here none)))
  whole_found (WholeRuled.depth_broken each none) =
      first_after (covers_kept each) (FirstBroken.here (λ kept. none (depth_kept (sym inputs-same) labels_same kept)))

-- Leaves before their roots

module _ {inputs nodes k : ℕ} {fanins order roots cuts : List ℕ} (luts : List Lut) (drawing : Arranged inputs nodes k fanins order)
    (laid : LutsLaid inputs nodes roots cuts) (held : luts_in inputs nodes cuts roots ≡ luts_of luts)
    (each : (r : ℕ) → is_listed luts r ≡ true → Cut (net_in inputs nodes fanins) k r (leaves_listed luts r)) where
  leaves_are : (v : ℕ) → (net_in inputs nodes cuts).fanins v ≡ leaves_listed luts v
  leaves_are v = ap (λ (l : Luts). l.leaves v) held

  -- a leaf is met by the walk from its root
  leaf_met : (r u : ℕ) → Gate (net_in inputs nodes fanins) r → Memᴰ u ((net_in inputs nodes cuts).fanins r) →
      Met (net_in inputs nodes fanins) (leaves_listed luts r) r u
  leaf_met r u _ m = by (is_listed luts r) refl
    where
      listed : Memᴰ u (leaves_listed luts r)
      listed = rw (leaves_are r) at m

      by : (b : Bool) → is_listed luts r ≡ b → Met (net_in inputs nodes fanins) (leaves_listed luts r) r u
      by true at = (each r at).met u listed
      by false none = absurd (Memᴰ.not-nil (rw (unlisted_leaves luts r none) at listed))

  pub luts_chosen : Chosen inputs nodes order cuts
  luts_chosen =
      leaves_chosen inputs nodes k fanins order cuts drawing (leaves_listed luts) leaf_met laid.lists.long
      (λ g gate. laid.lists.six g (gate_below inputs nodes fanins gate))
