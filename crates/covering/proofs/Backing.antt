-- The pass back along the order. What is marked is needed; and a gate whose turn is over has its leaves marked for good, since no later turn
-- marks it anew: a gate's leaves come before it. So when all have had their turn, what is needed is marked.
use Prim.Native.Nat.{ℕ, ◌+◌, ◌*◌, ◌-◌, ◌≤◌, ◌<◌}
use native.Mathlib.Decide.{dec_le}
use native.Mathlib.Nat.{zero-add}
use native.Mathlib.Omega.{arith}
use mathlib.Core.Path.{◌≡◌, sym, subst, ◌∙◌}
use mathlib.Core.Logic.{◌⊎◌, inl, inr}
use mathlib.Core.List.{List, Memᴰ}
use lib.ListN.{length, get_or, take, drop}
use lib.Seq.{get_or-drop}
use Rattle.storage.specs.Entries.{cleared, Beyond}
use Rattle.storage.specs.Marks.{Marks}
use Rattle.storage.specs.Lists.{size_at, entry_at}
use Rattle.storage.specs.Drawings.{net_in}
use Rattle.storage.proofs.Clears.{cleared_low, cleared_beyond, beyond_same, beyond_then}
use Rattle.storage.proofs.Entries.{part_place, member_of_part}
use Rattle.storage.proofs.Drawings.{fanins_in, gate_of_lem, gate_above, gate_below}
use Rattle.storage.proofs.InLists.{list_member}
use Rattle.theory.specs.paper.Net.{Gate}
use Rattle.covering.specs.paper.Needed.{Needed}
use Rattle.covering.specs.Covers.{CoverAsked, is_root, lut_count, CoverMade, GatesFit, GateAmong, GatesMarked, LeavesFit, LeavesMarked}
use Rattle.covering.proofs.Marking.{marked_beyond}
use Rattle.covering.proofs.Orders.{needed_gate, order_gate, gate_place, order_once, fanin_before}

pub record Backed (inputs nodes : ℕ) (order cuts outputs : List ℕ) (i : ℕ) (before now : List ℕ) : Type 0 where
  pub rest : Beyond nodes before now
  pub bits : (v : ℕ) → v < nodes → (get_or now v 0 ≡ 0) ⊎ (get_or now v 0 ≡ 1)
  pub holds : (v : ℕ) → v < nodes → get_or now v 0 ≡ 1 → Needed (net_in inputs nodes cuts) outputs v
  pub marked : (v : ℕ) → Memᴰ v outputs → Gate (net_in inputs nodes cuts) v → get_or now v 0 ≡ 1
  pub closed : (j : ℕ) → i ≤ j → j < nodes - inputs → get_or now (get_or order j 0) 0 ≡ 1 →
      (v : ℕ) → Memᴰ v ((net_in inputs nodes cuts).fanins (get_or order j 0)) → Gate (net_in inputs nodes cuts) v → get_or now v 0 ≡ 1

module _ {inputs nodes : ℕ} {order cuts outputs : List ℕ} {number room : ℕ}
    (asked : CoverAsked inputs nodes order cuts outputs number room) where
  order_long : nodes - inputs ≤ length order
  order_long = omega (arith, asked.chosen.order_long)

  -- Outputs

  output_member : {i : ℕ} → i < number → Memᴰ (get_or outputs i 0) (take number outputs)
  output_member {i} h = member_of_part number outputs i h (omega (arith, asked.outputs_long))

  pub outputs_fit : GatesFit outputs 0 number room
  outputs_fit =
      record {
        inside = omega (arith, asked.outputs_long);
        nodes = λ i h. rw zero-add (omega (arith, asked.output_nodes (get_or outputs i 0) (output_member h), asked.luts_long));
      }

  among_outputs : {v : ℕ} → GateAmong outputs 0 number inputs v → Memᴰ v (take number outputs)
  among_outputs {v} a =
      let there : get_or outputs a.place 0 ≡ v = rw zero-add at a.there in
      subst (λ (w : ℕ). Memᴰ w (take number outputs)) there (output_member a.low)

  outputs_among : {v : ℕ} → Memᴰ v (take number outputs) → inputs ≤ v → GateAmong outputs 0 number inputs v
  outputs_among m high =
      let p = part_place number outputs m in
      record { place = p.at; low = p.low; there = rw zero-add p.entry; gate = high }

  -- Leaves

  module _ {g : ℕ} (gate : Gate (net_in inputs nodes cuts) g) where
    low : g < nodes
    low = gate_below inputs nodes cuts gate

    leaf_member : {i : ℕ} → i < size_at cuts g → Memᴰ (entry_at cuts g i) ((net_in inputs nodes cuts).fanins g)
    leaf_member {i} h =
        rw (fanins_in inputs nodes cuts g low)
        (list_member cuts g (omega (arith, low, asked.chosen.cuts_long)) (asked.chosen.six g gate) i h)

    gate_leaves_fit : LeavesFit cuts g room
    gate_leaves_fit =
        record {
          inside = omega (arith, low, asked.chosen.cuts_long, asked.chosen.six g gate);
          nodes = λ i h. omega (arith, asked.chosen.leaf_nodes g gate (entry_at cuts g i) (leaf_member h), asked.luts_long);
        }

    among_leaves : {v : ℕ} → GateAmong cuts (7 * g + 1) (size_at cuts g) inputs v → Memᴰ v ((net_in inputs nodes cuts).fanins g)
    among_leaves a = subst (λ (w : ℕ). Memᴰ w ((net_in inputs nodes cuts).fanins g)) a.there (leaf_member a.low)

    leaves_among : {v : ℕ} → Memᴰ v ((net_in inputs nodes cuts).fanins g) → inputs ≤ v → GateAmong cuts (7 * g + 1) (size_at cuts g) inputs v
    leaves_among {v} m high =
        let p = part_place (size_at cuts g) (drop (7 * g + 1) cuts) (rw (fanins_in inputs nodes cuts g low) at m) in
        record { place = p.at; low = p.low; there = sym (get_or-drop (7 * g + 1) cuts p.at 0) ∙ p.entry; gate = high }

    -- what is marked as one of them is a gate, and has the mark 1
    leaf_gate : {v : ℕ} → GateAmong cuts (7 * g + 1) (size_at cuts g) inputs v → Gate (net_in inputs nodes cuts) v
    leaf_gate {v} a = gate_of_lem inputs nodes cuts a.gate (asked.chosen.leaf_nodes g gate v (among_leaves a))

  pub gate_low : (i : ℕ) → i < nodes - inputs → get_or order i 0 < nodes
  gate_low i h = low (order_gate (nodes - inputs) order order_long asked.chosen.ordered i h)

  pub leaves_fit : (i : ℕ) → i < nodes - inputs → LeavesFit cuts (get_or order i 0) room
  leaves_fit i h = gate_leaves_fit (order_gate (nodes - inputs) order order_long asked.chosen.ordered i h)

  -- The pass

  pub backed_first : (before : List ℕ) {clean now : List ℕ} → length before ≡ room → clean ≡ cleared nodes before → GatesMarked outputs 0 number inputs clean now →
      Backed inputs nodes order cuts (take number outputs) (nodes - inputs) now now
  backed_first before {clean} {now} long e m =
      record {
        rest = beyond_same nodes now;
        bits = λ v node. bit_of v node (m.others v);
        holds = λ v node one. need_of v node one (m.others v);
        marked = λ v out gate. m.marked v (outputs_among out (gate_above inputs nodes cuts gate));
        closed = λ j late early. absurd (omega arith);
      }
    where
      zero_at : (v : ℕ) → v < nodes → get_or clean v 0 ≡ 0
      zero_at v node = rw e (cleared_low nodes before (omega (arith, asked.luts_long)) v node)

      bit_of : (v : ℕ) → v < nodes → (get_or now v 0 ≡ get_or clean v 0) ⊎ GateAmong outputs 0 number inputs v → (get_or now v 0 ≡ 0) ⊎ (get_or now v 0 ≡ 1)
      bit_of v node (inl same) = inl (same ∙ zero_at v node)
      bit_of v node (inr a) = inr (m.marked v a)

      need_of : (v : ℕ) → v < nodes → get_or now v 0 ≡ 1 → (get_or now v 0 ≡ get_or clean v 0) ⊎ GateAmong outputs 0 number inputs v →
          Needed (net_in inputs nodes cuts) (take number outputs) v
      need_of v node one (inl same) = let none = zero_at v node in absurd (omega arith)
      need_of v node one (inr a) = Needed.output (among_outputs a) (gate_of_lem inputs nodes cuts a.gate node)

  module _ (i : ℕ) (h : i < nodes - inputs) {before now : List ℕ} (so_far : Backed inputs nodes order cuts (take number outputs) (i + 1) before now) where
    gate_here : Gate (net_in inputs nodes cuts) (get_or order i 0)
    gate_here = order_gate (nodes - inputs) order order_long asked.chosen.ordered i h

    pub backed_other : (get_or now (get_or order i 0) 0 ≡ 1 → ⊥) → Backed inputs nodes order cuts (take number outputs) i before now
    backed_other out =
        record {
          rest = so_far.rest;
          bits = so_far.bits;
          holds = so_far.holds;
          marked = so_far.marked;
          closed = λ j late early one. so_far.closed j (let apart : j ≡ i → ⊥ = λ e. out (subst (λ (n : ℕ). get_or now (get_or order n 0) 0 ≡ 1) e one) in omega arith) early one;
        }

    module _ {next : List ℕ} (root : get_or now (get_or order i 0) 0 ≡ 1) (m : LeavesMarked cuts (get_or order i 0) inputs now next) where
      -- a mark stays
      stays : (v : ℕ) → get_or now v 0 ≡ 1 → get_or next v 0 ≡ 1
      stays v one = by (m.others v)
        where
          by : (get_or next v 0 ≡ get_or now v 0) ⊎ GateAmong cuts (7 * get_or order i 0 + 1) (size_at cuts (get_or order i 0)) inputs v → get_or next v 0 ≡ 1
          by (inl e) = e ∙ one
          by (inr a) = m.marked v a

      -- no gate from here on is marked anew
      not_new : (j : ℕ) → i ≤ j → j < nodes - inputs → GateAmong cuts (7 * get_or order i 0 + 1) (size_at cuts (get_or order i 0)) inputs (get_or order j 0) → ⊥
      not_new j late early a =
          let n = nodes - inputs in
          let long = order_long in
          let (k, less, e) = fanin_before n order long asked.chosen.ordered i h (among_leaves gate_here a) (leaf_gate gate_here a) in
          let same = order_once n order long asked.chosen.ordered k j (omega arith) early e in
          omega arith

      pub backed_root : Backed inputs nodes order cuts (take number outputs) i before next
      backed_root =
          record {
            rest = beyond_then so_far.rest (marked_beyond m (λ v a. asked.chosen.leaf_nodes (get_or order i 0) gate_here v (among_leaves gate_here a)));
            bits = λ v node. bit_of v node (m.others v);
            holds = λ v node one. need_of v node one (m.others v);
            marked = λ v out gate. stays v (so_far.marked v out gate);
            closed = λ j late early one v leaf gate. by j late early one v leaf gate (m.others (get_or order j 0)) (dec_le (i + 1) j);
          }
        where
          Either : ℕ → Type 0
          Either v = (get_or next v 0 ≡ get_or now v 0) ⊎ GateAmong cuts (7 * get_or order i 0 + 1) (size_at cuts (get_or order i 0)) inputs v

          bit_of : (v : ℕ) → v < nodes → Either v → (get_or next v 0 ≡ 0) ⊎ (get_or next v 0 ≡ 1)
          bit_of v node (inl e) = subst (λ (n : ℕ). (n ≡ 0) ⊎ (n ≡ 1)) (sym e) (so_far.bits v node)
          bit_of v node (inr a) = inr (m.marked v a)

          need_of : (v : ℕ) → v < nodes → get_or next v 0 ≡ 1 → Either v → Needed (net_in inputs nodes cuts) (take number outputs) v
          need_of v node one (inl e) = so_far.holds v node (sym e ∙ one)
          need_of v node one (inr a) =
              Needed.leaf (so_far.holds (get_or order i 0) (gate_below inputs nodes cuts gate_here) root) (among_leaves gate_here a) (leaf_gate gate_here a)

          by : (j : ℕ) → i ≤ j → j < nodes - inputs → get_or next (get_or order j 0) 0 ≡ 1 →
              (v : ℕ) → Memᴰ v ((net_in inputs nodes cuts).fanins (get_or order j 0)) → Gate (net_in inputs nodes cuts) v →
              Either (get_or order j 0) → Dec (i + 1 ≤ j) → get_or next v 0 ≡ 1
          by j late early one v leaf gate (inr a) _ = absurd (not_new j late early a)
          by j late early one v leaf gate (inl e) (yes later) = stays v (so_far.closed j later early (sym e ∙ one) v leaf gate)
          by j late early one v leaf gate (inl e) (no here) =
              let same : j ≡ i = omega arith in
              m.marked v (leaves_among gate_here (subst (λ (n : ℕ). Memᴰ v ((net_in inputs nodes cuts).fanins (get_or order n 0))) same leaf)
              (gate_above inputs nodes cuts gate))

  -- The end

  module _ {before now : List ℕ} (done : Backed inputs nodes order cuts (take number outputs) 0 before now) where
    needed_marked : {v : ℕ} → Needed (net_in inputs nodes cuts) (take number outputs) v → get_or now v 0 ≡ 1
    needed_marked (Needed.output {v = v} m gate) = done.marked v m gate
    needed_marked (Needed.leaf {r = r} {v = v} n m gate) =
        let p = gate_place (nodes - inputs) order order_long asked.chosen.ordered (needed_gate n) in
        done.closed p.at (omega arith) p.low (rw p.entry (needed_marked n)) v (rw p.entry m) gate

    marks_needed : Marks nodes (Needed (net_in inputs nodes cuts) (take number outputs)) now
    marks_needed = record { bit = done.bits; holds = done.holds; marked = λ v _ n. needed_marked n }

    pub cover_made : (entry : List ℕ) {clean : List ℕ} {r : ℕ} → length entry ≡ room → clean ≡ cleared nodes entry → GatesMarked outputs 0 number inputs clean before →
        r ≡ lut_count (is_root nodes now) nodes → CoverMade inputs nodes cuts (take number outputs) entry r now
    cover_made entry {clean} long e m count =
        let wiped : Beyond nodes entry clean = rw e (cleared_beyond nodes entry (omega (arith, asked.luts_long))) in
        let outputs-marked = marked_beyond m (λ v a. asked.output_nodes v (among_outputs a)) in
        record {
          marks = marks_needed;
          rest = beyond_then wiped (beyond_then outputs-marked done.rest);
          count = count;
        }
