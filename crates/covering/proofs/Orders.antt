-- Gates and their places in an order that an array holds: its first n entries.
use Prim.Native.Nat.{ℕ, ◌+◌, ◌*◌, ◌-◌, ◌≤◌, ◌<◌}
use native.Mathlib.Omega.{arith}
use mathlib.Core.Path.{◌≡◌, refl, sym, subst, ◌∙◌}
use mathlib.Core.List.{List, Memᴰ}
use lib.ListN.{length, get_or, take, length-take}
use lib.Seq.{get_or-take}
use Rattle.storage.specs.Lists.{size_at}
use Rattle.storage.specs.Drawings.{net_in, Ordered, Arranged}
use Rattle.storage.proofs.Entries.{PartPlace, part_place, member_of_part, one_place}
use Rattle.storage.proofs.Drawings.{gate_of_lem, gate_above, gate_below, drawn_span}
use Rattle.theory.specs.paper.Net.{Net, Gate}
use Rattle.theory.specs.paper.Sound.{Bounded}
use Rattle.theory.specs.paper.Walk.{Walked, Met}
use Rattle.theory.proofs.Walks.{reader_is_gate, walked_node, met_node}
use Rattle.covering.specs.paper.Needed.{Needed}
use Rattle.covering.specs.Covers.{Chosen}

-- what is needed is a gate
pub needed_gate : {chosen : Net} {outputs : List ℕ} {v : ℕ} → Needed chosen outputs v → Gate chosen v
needed_gate (Needed.output m gate) = gate
needed_gate (Needed.leaf n m gate) = gate

-- gates are the same whatever else the arrays hold
module _ (inputs nodes : ℕ) (fanins cuts : List ℕ) where
  pub gate_there : {v : ℕ} → Gate (net_in inputs nodes fanins) v → Gate (net_in inputs nodes cuts) v
  gate_there gate = gate_of_lem inputs nodes cuts (gate_above inputs nodes fanins gate) (gate_below inputs nodes fanins gate)

  same_size : (n : ℕ) → (net_in inputs nodes fanins).inputs + n ≡ (net_in inputs nodes fanins).nodes →
      (net_in inputs nodes cuts).inputs + n ≡ (net_in inputs nodes cuts).nodes
  unfolding net_in
  same_size n e = e

module _ {net : Net} (n : ℕ) (order : List ℕ) (long : n ≤ length order) (ordered : Ordered net (take n order)) where
  part_long : length (take n order) ≡ n
  part_long = simp length-take (omega arith)

  entry : (i : ℕ) → i < n → get_or (take n order) i 0 ≡ get_or order i 0
  entry i h = get_or-take n order i 0 h

  pub order_gate : (i : ℕ) → i < n → Gate net (get_or order i 0)
  order_gate i h = ordered.gates (get_or order i 0) (member_of_part n order i h (omega arith))

  pub gate_place : {v : ℕ} → Gate net v → PartPlace v n order
  gate_place {v} gate = part_place n order (ordered.all v gate)

  pub order_once : (i j : ℕ) → i < n → j < n → get_or order i 0 ≡ get_or order j 0 → i ≡ j
  order_once i j p q e =
      one_place ordered.once i j (omega (arith, part_long)) (omega (arith, part_long)) (entry i p ∙ e ∙ sym (entry j q))

  -- a fanin that is a gate stands at an earlier place
  pub fanin_before : (i : ℕ) {u : ℕ} → i < n → Memᴰ u (net.fanins (get_or order i 0)) →
      Gate net u → (j : ℕ) × (j < i) × (get_or order j 0 ≡ u)
  fanin_before i {u} h m gate =
      let (j, less, e) = ordered.before i u (omega (arith, part_long)) (rw (entry i h) m) gate in
      (j, less, sym (entry j (omega arith)) ∙ e)

  -- What is walked from a gate stands at its place or before, and what is met before.
  module _ {k : ℕ} (bounded : Bounded net k) {t : ℕ} (i : ℕ) (h : i < n) (there : get_or order i 0 ≡ t) where
    t_gate : Gate net t
    t_gate = subst (Gate net) there (order_gate i h)

    reader_place : {v u : ℕ} → (j : ℕ) × (j ≤ i) × (get_or order j 0 ≡ v) → Memᴰ u (net.fanins v) → Gate net u → (j : ℕ) × (j < i) × (get_or order j 0 ≡ u)
    reader_place {v} {u} (j, near, e) m gate =
        let (l, less, e') = fanin_before j (omega arith) (subst (λ (x : ℕ). Memᴰ u (net.fanins x)) (sym e) m) gate in
        (l, omega arith, e')

    pub walked_place : {leaves : List ℕ} {v : ℕ} → Walked net leaves t v → Gate net v → (j : ℕ) × (j ≤ i) × (get_or order j 0 ≡ v)
    walked_place Walked.start gate = (i, omega arith, there)
    walked_place (Walked.step w m out) gate =
        let (j, less, e) = reader_place (walked_place w (reader_is_gate bounded (walked_node bounded t_gate.below w) m)) m gate in
        (j, omega arith, e)

    pub met_place : {leaves : List ℕ} {u : ℕ} → Met net leaves t u → Gate net u → (j : ℕ) × (j < i) × (get_or order j 0 ≡ u)
    met_place m gate =
        reader_place (walked_place m.walked (reader_is_gate bounded (walked_node bounded t_gate.below m.walked) m.feeds)) m.feeds gate

-- Leaves that are met by walks from their gates come before them, so the order is one of the net of the leaves.
module _ (inputs nodes k : ℕ) (fanins order cuts : List ℕ) (drawing : Arranged inputs nodes k fanins order) (stop : ℕ → List ℕ)
    (leaf_met : (g u : ℕ) → Gate (net_in inputs nodes fanins) g → Memᴰ u ((net_in inputs nodes cuts).fanins g) →
    Met (net_in inputs nodes fanins) (stop g) g u) where
  abbrev gates : ℕ
  gates = nodes - inputs

  long : gates ≤ length order
  long = omega (arith, drawing.order_long)

  order_of_leaves : Ordered (net_in inputs nodes cuts) (take gates order)
  order_of_leaves =
      record {
        size = same_size inputs nodes fanins cuts (length (take gates order)) drawing.ordered.size;
        gates = λ v m. gate_there inputs nodes fanins cuts (drawing.ordered.gates v m);
        all = λ v gate. drawing.ordered.all v (gate_there inputs nodes cuts fanins gate);
        once = drawing.ordered.once;
        before = before;
      }
    where
      entry_there : {i u : ℕ} → i < gates → (j : ℕ) × (j < i) × (get_or order j 0 ≡ u) → (j : ℕ) × (j < i) × (get_or (take gates order) j 0 ≡ u)
      entry_there low (j, less, e) = (j, less, get_or-take gates order j 0 (omega arith) ∙ e)

      before : (i u : ℕ) → i < length (take gates order) → Memᴰ u ((net_in inputs nodes cuts).fanins (get_or (take gates order) i 0)) →
          Gate (net_in inputs nodes cuts) u → (j : ℕ) × (j < i) × (get_or (take gates order) j 0 ≡ u)
      before i u inside m gate =
          let low : i < gates = omega (arith, length-take gates order) in
          let here = order_gate gates order long drawing.ordered i low in
          let leaf = rw (get_or-take gates order i 0 low) at m in
          let met = leaf_met (get_or order i 0) u here leaf in
          let gate-u = gate_there inputs nodes cuts fanins gate in
          entry_there low (met_place gates order long drawing.ordered drawing.drawn.bounded i low refl met gate-u)

  leaf_node : {g v : ℕ} → Gate (net_in inputs nodes fanins) g → Memᴰ v ((net_in inputs nodes cuts).fanins g) → v < nodes
  unfolding net_in
  leaf_node {g} {v} gate m = met_node drawing.drawn.bounded gate.below (leaf_met g v gate m)

  -- such leaves are all that `cover` needs
  pub leaves_chosen : 7 * nodes ≤ length cuts → ((g : ℕ) → Gate (net_in inputs nodes fanins) g → size_at cuts g ≤ 6) → Chosen inputs nodes order cuts
  leaves_chosen cuts_long six =
      record {
        span = drawn_span drawing.drawn;
        order_long = drawing.order_long;
        cuts_long = cuts_long;
        six = λ g gate. six g (gate_there inputs nodes cuts fanins gate);
        leaf_nodes = λ g gate v m. leaf_node (gate_there inputs nodes cuts fanins gate) m;
        ordered = order_of_leaves;
      }
