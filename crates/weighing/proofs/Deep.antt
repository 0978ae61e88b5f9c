-- 30 from arrays: along the order each root gets its depth; the greatest over the outputs is the cover's; and it is the only one.
use Prim.Native.Nat.{ℕ, ◌+◌, ◌-◌, ◌≤◌, ◌<◌}
use native.Mathlib.Decide.{ℕ_discrete, dec_lt}
use native.Mathlib.Numerals.{add-one}
use native.Mathlib.Omega.{arith}
use mathlib.Core.Path.{◌≡◌, refl, sym, subst, ◌∙◌}
use mathlib.Core.Bool.{true}
use mathlib.Core.Logic.{◌⊎◌, inl, inr}
use mathlib.Core.List.{List, [], ◌∷◌, map, Memᴰ}
use lib.ListN.{length, get_or, take, set, length-set}
use lib.Seq.{get_or-set_same, get_or-set_other, drop-set-lt}
use Rattle.storage.specs.Entries.{cleared, Beyond}
use Rattle.storage.specs.Lists.{list_at}
use Rattle.storage.specs.Drawings.{net_in}
use Rattle.storage.proofs.Clears.{cleared_low, cleared_size, cleared_beyond, cleared_used, beyond_same, beyond_then}
use Rattle.storage.proofs.Drawings.{fanins_in, gate_of_lem, gate_above, gate_below}
use Rattle.theory.specs.paper.Net.{Net, Gate}
use Rattle.theory.specs.paper.Lists.{greatest}
use Rattle.theory.specs.paper.Cover.{Luts, Wanted, Depth, Depths}
use Rattle.theory.proofs.Depths.{depths_are_one}
use Rattle.theory.proofs.Members.{greatest_at_most}
use Rattle.covering.specs.Covers.{is_root, luts_in, DepthAsked}
use Rattle.covering.proofs.Stores.{stored_or_kept}
use Rattle.covering.proofs.Orders.{order_gate, order_once, gate_place, fanin_before}
use Rattle.covering.proofs.Covered.{root_marked}
use Rattle.sheet.specs.paper.Rules.{CoverKept}
use Rattle.std.specs.Prelude.{Option, None, Some, ⊤, Result, Ok, Err}
use Rattle.storage.specs.declared.Node.{Node}
use Rattle.weighing.specs.declared.whole.WholeFault.{WholeFault}
use Rattle.weighing.specs.declared.whole.WholeFault.TheVariants as fault
use Rattle.weighing.specs.PassFour.{CoverRuled, WholeRuled, WholeAsked, WholeAnswered, CoverAsked, CoverTold, deepest, DepthFits, DepthSet, DepthsAsked, DepthsFound, DeepAsked, DeepTold}

depths_of : {net : Net} {luts : Luts} (dep : ℕ → ℕ) (vs : List ℕ) → ((v : ℕ) → Memᴰ v vs → Depth net luts v (dep v)) → Depths net luts vs (greatest (map dep vs))
unfolding greatest
depths_of dep [] each = Depths.none
depths_of dep (v ∷ vs) each = Depths.more (each v (Memᴰ.head refl)) (depths_of dep vs (λ u m. each u (Memᴰ.tail m)))

input_depth : (inputs nodes : ℕ) (cuts : List ℕ) {luts : Luts} {v d : ℕ} → v < inputs → d ≡ 0 → Depth (net_in inputs nodes cuts) luts v d
unfolding net_in
input_depth inputs nodes cuts {luts} {v} low none = subst (Depth (net_in inputs nodes cuts) luts v) (sym none) (Depth.input low)

-- One root

module _ {luts cuts : List ℕ} {v : ℕ} {depths : List ℕ} (p : DepthFits luts cuts v depths) {leaves : List ℕ} (lent : leaves ≡ list_at cuts v) where
  pub depth_asked : DepthAsked depths leaves
  depth_asked u m = p.leaf_nodes u (subst (Memᴰ u) lent m)

  pub depth_at_lem : {r : ℕ} → r ≡ greatest (map (λ u. get_or depths u 0) leaves) → r ≡ deepest cuts depths v
  depth_at_lem e = rw lent at e

-- Along the order

pub record DepthsUpto (inputs nodes : ℕ) (order luts cuts before : List ℕ) (i : ℕ) (after : List ℕ) : Type 0 where
  pub passed : i ≤ nodes - inputs
  pub inputs_at : (v : ℕ) → v < inputs → get_or after v 0 ≡ 0
  pub roots_at : (j : ℕ) → j < i → is_root nodes luts (get_or order j 0) ≡ true →
      Depth (net_in inputs nodes cuts) (luts_in inputs nodes cuts luts) (get_or order j 0) (get_or after (get_or order j 0) 0)
  pub small : (v : ℕ) → v < nodes → get_or after v 0 ≤ i
  pub rest : Beyond nodes before after

module _ {inputs nodes : ℕ} {order luts cuts before : List ℕ} (p : DepthsAsked inputs nodes order luts cuts before) where
  order_long : nodes - inputs ≤ length order
  order_long = omega (arith, p.chosen.order_long)

  pub depths_begin : DepthsUpto inputs nodes order luts cuts before 0 before
  depths_begin =
      record {
        passed = omega arith;
        inputs_at = λ v low. p.zero v (omega (arith, p.chosen.span));
        roots_at = λ j low. absurd (omega arith);
        small = λ v low. omega (arith, p.zero v low);
        rest = beyond_same nodes before;
      }

  module _ (i : ℕ) (low : i < nodes - inputs) {now : List ℕ} (so_far : DepthsUpto inputs nodes order luts cuts before i now) where
    gate_at_lem : Gate (net_in inputs nodes cuts) (get_or order i 0)
    gate_at_lem = order_gate (nodes - inputs) order order_long p.chosen.ordered i low

    above : inputs ≤ get_or order i 0
    above = gate_above inputs nodes cuts gate_at_lem

    below : get_or order i 0 < nodes
    below = gate_below inputs nodes cuts gate_at_lem

    leaves_at : (net_in inputs nodes cuts).fanins (get_or order i 0) ≡ list_at cuts (get_or order i 0)
    leaves_at = fanins_in inputs nodes cuts (get_or order i 0) below

    leaf_node : (u : ℕ) → Memᴰ u (list_at cuts (get_or order i 0)) → u < nodes
    leaf_node u m = p.chosen.leaf_nodes (get_or order i 0) gate_at_lem u (rw leaves_at m)

    not_deep : deepest cuts now (get_or order i 0) ≤ i
    not_deep = greatest_at_most (λ u. get_or now u 0) (list_at cuts (get_or order i 0)) i (λ u m. so_far.small u (leaf_node u m))

    room : nodes ≤ length now
    room = omega (arith, p.depths_long, so_far.rest.size)

    pub depth_fits : DepthFits luts cuts (get_or order i 0) now
    depth_fits =
        record {
          cuts_long = omega (arith, p.chosen.cuts_long, below);
          six = p.chosen.six (get_or order i 0) gate_at_lem;
          luts_long = omega (arith, p.marks.inside, below);
          depth_long = omega (arith, room, below);
          leaf_nodes = λ u m. omega (arith, leaf_node u m, room);
          small = omega (arith, not_deep, p.small);
        }

    -- a leaf is an input, or a root that had its turn
    leaf_depth : is_root nodes luts (get_or order i 0) ≡ true → (u : ℕ) → Memᴰ u ((net_in inputs nodes cuts).fanins (get_or order i 0)) →
        Depth (net_in inputs nodes cuts) (luts_in inputs nodes cuts luts) u (get_or now u 0)
    leaf_depth at u m = by (dec_lt u inputs)
      where
        by : Dec (u < inputs) → Depth (net_in inputs nodes cuts) (luts_in inputs nodes cuts luts) u (get_or now u 0)
        by (yes input) = input_depth inputs nodes cuts input (so_far.inputs_at u input)
        by (no high) =
            let up : inputs ≤ u = omega arith in
            let gate = gate_of_lem inputs nodes cuts up (p.chosen.leaf_nodes (get_or order i 0) gate_at_lem u m) in
            let (j, less, e) = fanin_before (nodes - inputs) order order_long p.chosen.ordered i low m gate in
            let root = p.closed (get_or order i 0) u at m up in
            subst (λ (w : ℕ). Depth (net_in inputs nodes cuts) (luts_in inputs nodes cuts luts) w (get_or now w 0)) e
            (so_far.roots_at j less (subst (λ (w : ℕ). is_root nodes luts w ≡ true) (sym e) root))

    root_depth : is_root nodes luts (get_or order i 0) ≡ true →
        Depth (net_in inputs nodes cuts) (luts_in inputs nodes cuts luts) (get_or order i 0) (deepest cuts now (get_or order i 0) + 1)
    root_depth at =
        rw (add-one (deepest cuts now (get_or order i 0)))
        (Depth.root at
        (subst
        (λ (vs : List ℕ). Depths (net_in inputs nodes cuts) (luts_in inputs nodes cuts luts) ((net_in inputs nodes cuts).fanins (get_or order i 0)) (greatest (map (λ u. get_or now u 0) vs)))
        leaves_at (depths_of (λ u. get_or now u 0) ((net_in inputs nodes cuts).fanins (get_or order i 0)) (leaf_depth at))))

    abbrev stored : ℕ
    stored = deepest cuts now (get_or order i 0) + 1

    pub depths_more : {after : List ℕ} → DepthSet luts cuts (get_or order i 0) now after → DepthsUpto inputs nodes order luts cuts before (i + 1) after
    depths_more {after} turn = by (ℕ_discrete (get_or luts (get_or order i 0) 0) 1)
      where
        by : Dec (get_or luts (get_or order i 0) 0 ≡ 1) → DepthsUpto inputs nodes order luts cuts before (i + 1) after
        by (yes one) = rw (turn.root one) set_more
          where
            Either : ℕ → Type 0
            Either v =
                ((v ≡ get_or order i 0) × (get_or (set now (get_or order i 0) stored) v 0 ≡ stored))
                ⊎ ((v ≡ get_or order i 0 → ⊥) × (get_or (set now (get_or order i 0) stored) v 0 ≡ get_or now v 0))

            inside : get_or order i 0 < length now
            inside = omega (arith, room, below)

            roots_at : (j : ℕ) → j < i + 1 → is_root nodes luts (get_or order j 0) ≡ true → Dec (j ≡ i) →
                Depth (net_in inputs nodes cuts) (luts_in inputs nodes cuts luts) (get_or order j 0) (get_or (set now (get_or order i 0) stored) (get_or order j 0) 0)
            roots_at j less at (yes e) = rw (e, get_or-set_same now (get_or order i 0) stored 0 inside) (root_depth (rw e at at))
            roots_at j less at (no apart) =
                let other : get_or order j 0 ≡ get_or order i 0 → ⊥ =
                λ same. apart (order_once (nodes - inputs) order order_long p.chosen.ordered j i (omega arith) low same) in
                rw (get_or-set_other now (get_or order i 0) (get_or order j 0) stored 0 other) (so_far.roots_at j (omega arith) at)

            small : (v : ℕ) → v < nodes → Either v → get_or (set now (get_or order i 0) stored) v 0 ≤ i + 1
            small v node (inl (e, at)) = omega (arith, not_deep)
            small v node (inr (apart, kept)) = omega (arith, so_far.small v node)

            set_more : DepthsUpto inputs nodes order luts cuts before (i + 1) (set now (get_or order i 0) stored)
            set_more =
                record {
                  passed = omega arith;
                  inputs_at = λ v input. get_or-set_other now (get_or order i 0) v stored 0 (λ (e : v ≡ get_or order i 0). omega (arith, above)) ∙ so_far.inputs_at v input;
                  roots_at = λ j less at. roots_at j less at (ℕ_discrete j i);
                  small = λ v node. small v node (stored_or_kept now (get_or order i 0) stored v inside);
                  rest =
                      beyond_then so_far.rest
                      (record { size = length-set now (get_or order i 0) stored; beyond = drop-set-lt nodes now (get_or order i 0) stored below });
                }
        by (no other) =
            rw (turn.other other)
            (record {
              passed = omega arith;
              inputs_at = so_far.inputs_at;
              roots_at = λ j less at. roots_at j less at (ℕ_discrete j i);
              small = λ v node. omega (arith, so_far.small v node);
              rest = so_far.rest;
            })
          where
            roots_at : (j : ℕ) → j < i + 1 → is_root nodes luts (get_or order j 0) ≡ true → Dec (j ≡ i) →
                Depth (net_in inputs nodes cuts) (luts_in inputs nodes cuts luts) (get_or order j 0) (get_or now (get_or order j 0) 0)
            roots_at j less at (yes e) = absurd (other (root_marked nodes luts (get_or order i 0) (rw e at at)).1)
            roots_at j less at (no apart) = so_far.roots_at j (omega arith) at

  pub depths_all : {i : ℕ} {after : List ℕ} → nodes - inputs ≤ i → DepthsUpto inputs nodes order luts cuts before i after → DepthsFound inputs nodes luts cuts before after
  depths_all {i} {after} all d = record { inputs_at = d.inputs_at; roots_at = root_at; rest = d.rest }
    where
      root_at : (v : ℕ) → is_root nodes luts v ≡ true → Depth (net_in inputs nodes cuts) (luts_in inputs nodes cuts luts) v (get_or after v 0)
      root_at v at =
          let gate = gate_of_lem inputs nodes cuts (p.gates v at) (root_marked nodes luts v at).0 in
          let place = gate_place (nodes - inputs) order order_long p.chosen.ordered gate in
          subst (λ (w : ℕ). Depth (net_in inputs nodes cuts) (luts_in inputs nodes cuts luts) w (get_or after w 0)) place.entry
          (d.roots_at place.at (omega (arith, place.low)) (subst (λ (w : ℕ). is_root nodes luts w ≡ true) (sym place.entry) at))

-- Over the outputs

module _ {inputs nodes : ℕ} {order luts cuts outputs : List ℕ} {number : ℕ} {before : List ℕ}
    (p : DeepAsked inputs nodes order luts cuts outputs number before) where
  pub outputs_deep : {found : List ℕ} → DepthsFound inputs nodes luts cuts before found → DepthAsked found (take number outputs)
  outputs_deep d v m = omega (arith, p.output_nodes v m, p.asked.depths_long, d.rest.size)

  pub deep_told : {found after : List ℕ} {r : ℕ} → DepthsFound inputs nodes luts cuts before found → r ≡ greatest (map (λ v. get_or found v 0) (take number outputs)) →
      after ≡ cleared nodes found → DeepTold inputs nodes luts cuts (take number outputs) before r after
  deep_told {found} {after} {r} d e last =
      record {
        reached =
            subst (Depths (net_in inputs nodes cuts) (luts_in inputs nodes cuts luts) (take number outputs)) (sym e)
            (depths_of (λ v. get_or found v 0) (take number outputs) (λ v m. by v m (dec_lt v inputs)));
        clear = last ∙ cleared_used nodes d.rest;
      }
    where
      by : (v : ℕ) → Memᴰ v (take number outputs) → Dec (v < inputs) → Depth (net_in inputs nodes cuts) (luts_in inputs nodes cuts luts) v (get_or found v 0)
      by v m (yes input) = input_depth inputs nodes cuts input (d.inputs_at v input)
      by v m (no high) = let up : inputs ≤ v = omega arith in d.roots_at v (p.output_roots v m up)

-- The whole

module _ {inputs nodes : ℕ} {order luts cuts outputs : List ℕ} {number : ℕ} {labels wanted depths : List ℕ}
    (p : WholeAsked inputs nodes order luts cuts outputs number labels wanted depths) where
  pub cover_asked : CoverAsked inputs nodes luts cuts outputs number (length wanted)
  cover_asked =
      record {
        span = p.chosen.span;
        small = p.small;
        marks = p.marks;
        gates = p.gates;
        cuts_long = p.chosen.cuts_long;
        six = p.chosen.six;
        leaf_nodes = p.chosen.leaf_nodes;
        outputs_long = p.outputs_long;
        output_nodes = p.output_nodes;
        wanted_long = p.wanted_long;
      }

  pub labels_asked : DepthAsked labels (take number outputs)
  labels_asked v m = omega (arith, p.output_nodes v m, p.labels_long)

  root_gate : (r : ℕ) → is_root nodes luts r ≡ true → Gate (net_in inputs nodes cuts) r
  root_gate r at = gate_of_lem inputs nodes cuts (p.gates r at) (root_marked nodes luts r at).0

  all_kept : CoverRuled (net_in inputs nodes cuts) (take number outputs) (luts_in inputs nodes cuts luts) None →
      (g : ℕ) → Gate (net_in inputs nodes cuts) g → CoverKept (take number outputs) (luts_in inputs nodes cuts luts) g
  all_kept (CoverRuled.kept each) = each

  module _ {depths₁ : List ℕ} (first : depths₁ ≡ cleared nodes depths) {r : Option Node} {wanted' : List ℕ}
      (told : CoverTold inputs nodes luts cuts (take number outputs) wanted r wanted') where
    pub whole_cover : (head : ℕ) {g : Node} → r ≡ Some g →
        WholeAnswered inputs nodes luts cuts (take number outputs) labels head wanted depths (Err (fault.Cover g)) wanted' depths₁
    whole_cover head e = record { reply = by (rw e at told.reply); wanted_clear = told.clear; depths_clear = first }
      where
        by : {g : Node} → CoverRuled (net_in inputs nodes cuts) (take number outputs) (luts_in inputs nodes cuts luts) (Some g) →
            WholeRuled (net_in inputs nodes cuts) (take number outputs) (luts_in inputs nodes cuts luts) (λ v. get_or labels v 0) head (Err (fault.Cover g))
        by (CoverRuled.cover gate so_far none) = WholeRuled.cover gate so_far none

    module _ (kept : r ≡ None) where
      covered : (g : ℕ) → Gate (net_in inputs nodes cuts) g → CoverKept (take number outputs) (luts_in inputs nodes cuts luts) g
      covered = all_kept (rw kept at told.reply)

      pub deep_asked : DeepAsked inputs nodes order luts cuts outputs number depths₁
      deep_asked =
          record {
            asked =
                record {
                  chosen = p.chosen;
                  small = p.small;
                  marks = p.marks;
                  gates = p.gates;
                  closed = λ r v at m up.
                      let gate = gate_of_lem inputs nodes cuts up (p.chosen.leaf_nodes r (root_gate r at) v m) in
                      (covered v gate).wanted (Wanted.leaf r at m);
                  depths_long = rw first (omega (arith, p.depths_long, cleared_size nodes depths p.depths_long));
                  zero = λ v low. rw first (cleared_low nodes depths p.depths_long v low);
                };
            outputs_long = p.outputs_long;
            output_nodes = p.output_nodes;
            output_roots = λ v m up. (covered v (gate_of_lem inputs nodes cuts up (p.output_nodes v m))).wanted (Wanted.output m);
          }

      module _ {reached : ℕ} {depths' : List ℕ} (deep : DeepTold inputs nodes luts cuts (take number outputs) depths₁ reached depths') (head : ℕ) where
        answered : {r : Result ⊤ WholeFault} → WholeRuled (net_in inputs nodes cuts) (take number outputs) (luts_in inputs nodes cuts luts) (λ v. get_or labels v 0) head r →
            WholeAnswered inputs nodes luts cuts (take number outputs) labels head wanted depths r wanted' depths'
        answered ruled = record { reply = ruled; wanted_clear = told.clear; depths_clear = deep.clear ∙ rw first (cleared_used nodes (cleared_beyond nodes depths p.depths_long)) }

        pub whole_not_reached : (reached ≡ head → ⊥) → WholeAnswered inputs nodes luts cuts (take number outputs) labels head wanted depths (Err fault.Depth) wanted' depths'
        whole_not_reached other = answered (WholeRuled.depth_broken covered (λ d. other (depths_are_one root_gate deep.reached d.reached)))

        module _ {label : ℕ} (labelled : label ≡ greatest (map (λ v. get_or labels v 0) (take number outputs))) where
          pub whole_not_labelled : (label ≡ head → ⊥) → WholeAnswered inputs nodes luts cuts (take number outputs) labels head wanted depths (Err fault.Depth) wanted' depths'
          whole_not_labelled other = answered (WholeRuled.depth_broken covered (λ d. other (labelled ∙ d.labelled)))

          pub whole_kept : reached ≡ head → label ≡ head → WholeAnswered inputs nodes luts cuts (take number outputs) labels head wanted depths (Ok tt) wanted' depths'
          whole_kept e f =
              answered
              (WholeRuled.kept covered
              (record { reached = subst (Depths (net_in inputs nodes cuts) (luts_in inputs nodes cuts luts) (take number outputs)) e deep.reached; labelled = sym labelled ∙ f }))
