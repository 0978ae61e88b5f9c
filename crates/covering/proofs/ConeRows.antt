-- A row of the cone's table. After the leaves have the row's bits and the gates up to t are computed, the values obey the cone: each of its
-- gates is no leaf and stands at or before t in the order. So t's value is the result at that row of any table that is the cone's.
use Prim.Native.Nat.{ℕ, ◌+◌, ◌*◌, ◌-◌, ◌%◌, ◌^◌, ◌≤◌, ◌<◌}
use native.Mathlib.Numerals.{add-one}
use native.Mathlib.Omega.{arith}
use mathlib.Core.Path.{◌≡◌, refl, ap, sym, subst, ◌∙◌}
use mathlib.Core.List.{List, map, Memᴰ}
use lib.ListN.{length, get_or}
use lib.Pow.{pow_mono}
use Rattle.storage.specs.Entries.{cleared, Beyond}
use Rattle.storage.specs.Lists.{size_at, entry_at, Place}
use Rattle.storage.specs.Drawings.{net_in, tables_in}
use Rattle.storage.proofs.Entries.{member_at, one_place}
use Rattle.storage.proofs.Clears.{cleared_low, cleared_beyond, cleared_used, drop_same, beyond_same, beyond_then}
use Rattle.storage.proofs.Drawings.{fanins_in, gate_below}
use Rattle.storage.proofs.InLists.{list_member}
use Rattle.theory.specs.paper.Net.{Gate}
use Rattle.theory.specs.paper.Sound.{Ranked}
use Rattle.theory.specs.paper.Values.{bit, row_of, result_at}
use Rattle.theory.specs.paper.Lookup.{ObeysCone, ConeTable}
use Rattle.theory.proofs.Members.{rising_no_repeats}
use Rattle.theory.proofs.Walks.{walked_no_leaf, met_node}
use Rattle.theory.proofs.Cuts.{root_no_leaf}
use Rattle.theory.proofs.Rows.{bits_of, row_of_bits, bits_at_nodes, table_of, table_below, result_of_table, tables_agree}
use Rattle.theory.proofs.Cones.{cone_table, cone_table_lem}
use Rattle.walking.proofs.Orders.{drawn_ranked}
use Rattle.covering.specs.Cones.{ConeAsked, ConeAnswered, value_in, result_in, GateFits, SweepFits, Swept, LeavesFit, LeavesSet, FirstPlace}
use Rattle.covering.proofs.Sweeps.{value_of_leaf, digit_of_value}
use Rattle.covering.proofs.Orders.{order_gate, gate_place, order_once, fanin_before, walked_place}

-- What the loop over the rows keeps: the table so far is that of any table that is the cone's, and the values are bits outside the leaves.
pub record RowsMade (inputs nodes : ℕ) (fanins rows : List ℕ) (t : ℕ) (leaves before : List ℕ) (row table : ℕ) (after : List ℕ) : Type 0 where
  pub free : (v : ℕ) → v < nodes → (Memᴰ v leaves → ⊥) → get_or after v 0 < 2
  pub rest : Beyond nodes before after
  pub made : (whole : ℕ) → ConeTable (net_in inputs nodes fanins) (tables_in rows) leaves t whole → table ≡ table_of row (result_at whole)

module _ {inputs nodes k : ℕ} {fanins rows order : List ℕ} {t : ℕ} {leaves : List ℕ} {room : ℕ}
    (asked : ConeAsked inputs nodes k fanins rows order t leaves room) where
  ranked : Ranked (net_in inputs nodes fanins)
  ranked = drawn_ranked asked.drawing.drawn asked.drawing.ordered

  order_long : nodes - inputs ≤ length order
  order_long = omega (arith, asked.drawing.order_long)

  -- The steps have room

  leaf_node : {v : ℕ} → Memᴰ v leaves → v < nodes
  unfolding net_in
  leaf_node {v} m = met_node asked.drawing.drawn.bounded asked.gate.below (asked.cut.met v m)

  pub leaves_fit : LeavesFit leaves room
  leaves_fit =
      record {
        few = omega (arith, asked.cut.few, asked.drawing.k_small);
        nodes = λ i h. omega (arith, leaf_node (member_at leaves i h), asked.values_long);
        once = λ i j less h e. let same = one_place (rising_no_repeats asked.cut.rising) i j (omega arith) h e in omega arith;
      }

  pub rows_few : {row all : ℕ} → row < all → all ≡ 2 ^ length leaves → row < 64
  rows_few h e = omega (arith, pow_mono {i = length leaves} {j = 6} leaves_fit.few)

  pub gate_stands : Place t order
  gate_stands = let p = gate_place (nodes - inputs) order order_long asked.drawing.ordered asked.gate in
      record { at = p.at; inside = p.inside; entry = p.entry }

  gate_fits : (g : ℕ) → Gate (net_in inputs nodes fanins) g → GateFits fanins rows g room
  unfolding net_in
  gate_fits g gate =
      let drawn = asked.drawing.drawn in
      let low : g < nodes = gate.below in
      let few : size_at fanins g ≤ 6 = drawn.lists.six g low in
      let room-g : 7 * g + 7 ≤ length fanins = omega (arith, drawn.lists.long) in
      record {
        row = record {
          inside = omega arith;
          few = few;
          nodes = λ i h.
              let member = list_member fanins g room-g few i h in
              omega (
                arith,
                drawn.bounded.nodes g gate (entry_at fanins g i) (rw (fanins_in inputs nodes fanins g low) member),
                asked.values_long,
              );
        };
        rows_long = omega (arith, asked.rows_long);
        values_long = omega (arith, asked.values_long);
      }

  pub sweep_fits : (upto : ℕ) → upto ≤ nodes - inputs → SweepFits fanins rows order upto room
  sweep_fits upto few =
      let n = nodes - inputs in
      let long = order_long in
      let ordered = asked.drawing.ordered in
      record {
        inside = omega arith;
        gates = λ i h. gate_fits (get_or order i 0) (order_gate n order long ordered i (omega arith));
        once = λ i j less h e. let same = order_once n order long ordered i j (omega arith) (omega arith) e in omega arith;
        earlier = λ i j less h m.
            let gate = order_gate n order long ordered j (omega arith) in
            let low : get_or order i 0 < nodes = gate_below inputs nodes fanins (order_gate n order long ordered i (omega arith)) in
            let (k, before, e) = fanin_before n order long ordered i (omega arith) (rw (fanins_in inputs nodes fanins (get_or order i 0) low) m) gate in
            let same = order_once n order long ordered k j (omega arith) (omega arith) e in
            omega arith;
      }

  -- Up to t and with t, nothing beyond the gates is computed.
  pub upto_gates : (place : ℕ) → FirstPlace order t place → place + 1 ≤ nodes - inputs
  upto_gates place first =
      let p = gate_place (nodes - inputs) order order_long asked.drawing.ordered asked.gate in
      omega (arith, first.first p.at p.entry, p.low)

  -- One row

  module _ (place row : ℕ) (first : FirstPlace order t place) (below : row < 2 ^ length leaves) (before mid after : List ℕ)
      (free : (v : ℕ) → v < nodes → (Memᴰ v leaves → ⊥) → get_or before v 0 < 2)
      (set : LeavesSet leaves (length leaves) row before mid) (swept : Swept fanins rows order (place + 1) mid after) where
    no_leaf : {v : ℕ} → (Memᴰ v leaves → ⊥) → (i : ℕ) → i < length leaves → get_or leaves i 0 ≡ v → ⊥
    no_leaf out i h e = out (subst (λ (w : ℕ). Memᴰ w leaves) e (member_at leaves i h))

    free_mid : (v : ℕ) → v < nodes → (Memᴰ v leaves → ⊥) → get_or mid v 0 < 2
    free_mid v low out = omega (arith, set.others v (no_leaf out), free v low out)

    free_after : (v : ℕ) → v < nodes → (Memᴰ v leaves → ⊥) → get_or after v 0 < 2
    free_after v low out = swept.gates v (free_mid v low out)

    far_after : (v : ℕ) → nodes ≤ v → get_or after v 0 ≡ get_or before v 0
    far_after v high =
        swept.others v
        (λ i h e.
        let gate = order_gate (nodes - inputs) order order_long asked.drawing.ordered i (omega (arith, upto_gates place first)) in
        let low = gate_below inputs nodes fanins gate in
        omega arith)
        ∙ set.others v (no_leaf (λ m. let low = leaf_node m in omega arith))

    beyond_after : Beyond nodes before after
    beyond_after =
        let size : length after ≡ length before = swept.long ∙ set.long in
        record { size = size; beyond = drop_same nodes after before size far_after }

    obeys : ObeysCone (net_in inputs nodes fanins) (tables_in rows) leaves t (value_in after)
    unfolding result_in
    obeys g cone =
        let low = gate_below inputs nodes fanins cone.gate in
        let out = walked_no_leaf (root_no_leaf ranked asked.cut) cone.walked in
        let (j, near, e) = walked_place (nodes - inputs) order order_long asked.drawing.ordered asked.drawing.drawn.bounded place
        (omega (arith, upto_gates place first)) first.there cone.walked cone.gate in
        let result = swept.results j (omega arith) (rw e (free_mid g low out)) in
        rw (fanins_in inputs nodes fanins g low) (rw e at result)

    has_bits : map (value_in after) leaves ≡ bits_of (length leaves) row
    has_bits = bits_at_nodes (value_in after) leaves row at
      where
        at : (i : ℕ) → i < length leaves → value_in after (get_or leaves i 0) ≡ result_at row i
        at i h =
            let set_so = set.bits i h in
            value_of_leaf after (get_or leaves i 0) (swept.leaves (get_or leaves i 0) (omega arith) ∙ set_so)

    row_result : (whole : ℕ) → ConeTable (net_in inputs nodes fanins) (tables_in rows) leaves t whole →
        get_or after t 0 % 2 ≡ bit (result_at whole row)
    row_result whole is =
        digit_of_value after t
        ∙ ap bit (is.value (value_in after) obeys ∙ ap (result_at whole) (ap row_of has_bits ∙ row_of_bits (length leaves) row below))

  -- All rows

  whole_table : ConeTable (net_in inputs nodes fanins) (tables_in rows) leaves t
      (cone_table (net_in inputs nodes fanins) (tables_in rows) ranked leaves t)
  whole_table =
      cone_table_lem (net_in inputs nodes fanins) (tables_in rows) ranked k t leaves asked.cut asked.drawing.drawn.bounded.nodes asked.gate

  pub rows_none : (before : List ℕ) {values : List ℕ} → nodes ≤ length before → values ≡ cleared nodes before →
      RowsMade inputs nodes fanins rows t leaves values 0 0 values
  unfolding table_of
  rows_none before long e =
      record {
        free = λ v low _. rw e (omega (arith, cleared_low nodes before long v low));
        rest = beyond_same nodes _;
        made = λ whole is. refl;
      }

  module _ {values₀ : List ℕ} {row table : ℕ} {values : List ℕ} (so_far : RowsMade inputs nodes fanins rows t leaves values₀ row table values) where
    pub table_fits_rows : table < 2 ^ row
    table_fits_rows = rw (so_far.made _ whole_table) (table_below row _)

    pub rows_more : (place : ℕ) → FirstPlace order t place → row < 2 ^ length leaves → {mid after : List ℕ} {next : ℕ} →
        LeavesSet leaves (length leaves) row values mid → Swept fanins rows order (place + 1) mid after → next ≡ get_or after t 0 % 2 * 2 ^ row + table →
        RowsMade inputs nodes fanins rows t leaves values₀ (row + 1) next after
    unfolding table_of
    rows_more place first below {mid} {after} {next} set swept e =
        record {
          free = free_after place row first below values mid after so_far.free set swept;
          rest = beyond_then so_far.rest (beyond_after place row first below values mid after so_far.free set swept);
          made = λ whole is.
              e ∙ rw (add-one row, row_result place row first below values mid after so_far.free set swept whole is, so_far.made whole is);
        }

    -- with all rows the table is the cone's
    pub rows_all : row ≡ 2 ^ length leaves → (before : List ℕ) {after : List ℕ} → nodes ≤ length before → values₀ ≡ cleared nodes before → after ≡ cleared nodes values →
        ConeAnswered inputs nodes fanins rows t leaves before table after
    rows_all e before {after} long first last =
        record { table_is = subst (ConeTable (net_in inputs nodes fanins) (tables_in rows) leaves t) (sym same) whole_table; values = ends }
      where
        whole : ℕ
        whole = cone_table (net_in inputs nodes fanins) (tables_in rows) ranked leaves t

        same : table ≡ whole
        same =
            so_far.made whole whole_table
            ∙ tables_agree row _ whole (table_below row _) (subst (λ (n : ℕ). whole < 2 ^ n) (sym e) whole_table.rows) (result_of_table row (result_at whole))

        used : Beyond nodes before values
        used = beyond_then (cleared_beyond nodes before long) (rw first at so_far.rest)

        ends : after ≡ cleared nodes before
        ends = last ∙ cleared_used nodes used
