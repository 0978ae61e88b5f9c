-- When all gates are done: the labels are the labels, and the cuts the mapper's. And how large labels grow: the gate at place j has a label of at
-- most j + 1, so labels fit wherever ids do.
use Prim.Native.Nat.{ℕ, zero, suc, ◌≤◌, ◌<◌}
use native.Mathlib.Nat.{not-suc-le-zero}
use native.Mathlib.Omega.{arith}
use mathlib.Core.Path.{sym, ap, subst}
use mathlib.Core.Logic.{◌⊎◌, inl, inr, ⊎_elim}
use mathlib.Core.List.{List, [], Memᴰ}
use lib.ListN.{length, get_or}
use Rattle.storage.specs.Drawings.{Ordered}
use Rattle.storage.proofs.Entries.{place_of}
use Rattle.theory.specs.paper.Net.{Net, Gate, Input}
use Rattle.theory.specs.paper.Sound.{Bounded, Ranked}
use Rattle.theory.specs.paper.Cover.{Label}
use Rattle.theory.specs.paper.Evidence.{peak, MappersCut}
use Rattle.theory.proofs.Walks.{input_or_gate}
use Rattle.theory.proofs.Rules.{peak_agrees}
use Rattle.theory.proofs.Members.{greatest_at_most}
use Rattle.theory.proofs.FlowMap.{labels_at_inputs, label_peaked}
use Rattle.area.proofs.Areas.{input_in_area}
use Rattle.labelling.specs.Evidence.{TrueLabel}
use Rattle.labelling.specs.Labelling.{LabelledTo}
use Rattle.labelling.proofs.Along.{place_gate, true_label, true_labels, agree_behind}

module _ {net : Net} {k : ℕ} {order : List ℕ} {lab : ℕ → ℕ} {choice : ℕ → List ℕ} (ordered : Ordered net order)
    (done : LabelledTo net k order (length order) lab choice) where
  pub all_labels : (v : ℕ) → v < net.nodes → TrueLabel net k v (lab v)
  all_labels v node = by_kind (input_or_gate v node)
    where
      by_kind : Input net v ⊎ Gate net v → TrueLabel net k v (lab v)
      by_kind (inl i) = λ outputs. subst (Label net k outputs v) (sym (done.inputs v i)) (Label.input i)
      by_kind (inr g) =
          let p = place_of (ordered.all v g) in
          subst (λ (x : ℕ). TrueLabel net k x (lab x)) p.entry (done.label p.at p.inside)

  pub all_cuts : (v : ℕ) → Gate net v → MappersCut net k lab v (choice v)
  all_cuts v g =
      let p = place_of (ordered.all v g) in
      subst (λ (x : ℕ). MappersCut net k lab x (choice x)) p.entry (done.cut p.at p.inside)

-- How large labels grow

module _ {net : Net} {k : ℕ} {order : List ℕ} (bounded : Bounded net k) (ordered : Ordered net order) (ranked : Ranked net) where
  label_of : ℕ → ℕ
  label_of = true_label bounded ordered ranked

  true_peak_low : (j : ℕ) → j < length order → ((h : ℕ) → h < j → label_of (get_or order h 0) ≤ suc h) → peak net label_of (get_or order j 0) ≤ j
  unfolding label_of peak
  true_peak_low j inside below = greatest_at_most label_of (net.fanins (get_or order j 0)) j each
    where
      each : (u : ℕ) → Memᴰ u (net.fanins (get_or order j 0)) → label_of u ≤ j
      each u m = by_kind (input_or_gate u (bounded.nodes (get_or order j 0) (place_gate bounded ordered j inside) u m))
        where
          by_kind : Input net u ⊎ Gate net u → label_of u ≤ j
          by_kind (inl i) = let z = labels_at_inputs bounded ranked (true_labels bounded ordered ranked []) u i in omega arith
          by_kind (inr g) = let (h, less, e) = ordered.before j u inside m g in omega (arith, below h less, ap label_of e)

  true_low : (fuel j : ℕ) → j < fuel → j < length order → label_of (get_or order j 0) ≤ suc j
  unfolding label_of
  true_low zero j enough inside = absurd (not-suc-le-zero enough)
  true_low (suc fuel) j enough inside =
      let low = true_peak_low j inside (λ h less. true_low fuel h (omega arith) (omega arith)) in
      ⊎_elim (λ e. omega arith) (λ e. omega arith)
      (label_peaked bounded ranked (true_labels bounded ordered ranked []) (place_gate bounded ordered j inside))

  module _ {i : ℕ} {lab : ℕ → ℕ} {choice : ℕ → List ℕ} (so_far : LabelledTo net k order i lab choice) (inside : i < length order) where
    -- p of the gate whose turn it is
    pub peak_low : peak net lab (get_or order i 0) ≤ i
    unfolding label_of
    peak_low =
        let same = peak_agrees (agree_behind bounded ordered ranked so_far inside i (omega arith)) in
        let low = true_peak_low i inside (λ h less. true_low (suc h) h (omega arith) (omega arith)) in
        omega arith

    -- so p + 1 fits where ids do
    pub label_fits : {most : ℕ} → net.nodes ≤ most → suc (peak net lab (get_or order i 0)) < most
    label_fits few =
        let (v, input, _) = input_in_area {lab = lab} bounded (place_gate bounded ordered i inside) ranked in
        omega (arith, peak_low, ordered.size)
