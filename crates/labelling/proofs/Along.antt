-- Labelling goes along the order: what lies behind a gate comes earlier, so its labels are known when the gate's turn comes, and storing the
-- gate's label changes nothing for the gates before.
use Prim.Native.Nat.{ℕ, suc, ◌+◌, ◌≤◌, ◌<◌}
use native.Mathlib.Decide.{ℕ_discrete}
use native.Mathlib.Omega.{arith}
use mathlib.Core.Path.{◌≡◌, refl, sym, ap, subst, ◌∙◌}
use mathlib.Core.Logic.{◌⊎◌, inl, inr}
use mathlib.Core.List.{List, [], Memᴰ}
use lib.ListN.{length, get_or}
use Rattle.storage.specs.Drawings.{Ordered}
use Rattle.storage.proofs.Entries.{member_at, one_place}
use Rattle.theory.specs.paper.Net.{Net, Gate, Input}
use Rattle.theory.specs.paper.Sound.{Bounded, Ranked}
use Rattle.theory.specs.paper.Lists.{NoRepeats}
use Rattle.theory.specs.paper.Walk.{Walked, Behind}
use Rattle.theory.specs.paper.Cover.{Label}
use Rattle.theory.specs.paper.Evidence.{peak, LeastCut, MappersCut}
use Rattle.theory.specs.Lines.{NeverFalls}
use Rattle.theory.proofs.Walks.{Tight, cut_stops, reader_is_gate, walked_node, met_node, input_or_gate, gate_no_input}
use Rattle.theory.proofs.Labels.{label_is_one, rules_are_labels}
use Rattle.theory.proofs.Duality.{evidence_is_tight}
use Rattle.theory.proofs.Rules.{peak_agrees}
use Rattle.theory.proofs.Existence.{rules_exist}
use Rattle.theory.proofs.FlowMap.{Labels, labels_at_inputs, label_peaked, label_over_inputs, label_at_peak, labels_never_fall}
use Rattle.labelling.specs.Evidence.{TrueLabel}
use Rattle.labelling.specs.Labelling.{Told, LabelledTo}
use Rattle.labelling.proofs.Agreeing.{Agree, agree_back, least_cut_agrees, mappers_cut_agrees, tight_agrees, never_falls_agrees}

-- two places of a list without repeats have different entries
pub apart_places : {l : List ℕ} → NoRepeats l → (i j : ℕ) → i < length l → j < i → get_or l j 0 ≡ get_or l i 0 → ⊥
apart_places once i j inside less e = omega (arith, one_place once j i (omega arith) inside e)

-- v stands in the order before place i
abbrev Earlier : List ℕ → ℕ → ℕ → Type 0
Earlier order i v = (j : ℕ) × (j < i) × (get_or order j 0 ≡ v)

module _ {net : Net} {k : ℕ} {order : List ℕ} (bounded : Bounded net k) (ordered : Ordered net order) where
  module _ (i : ℕ) (inside : i < length order) where
    pub place_gate : Gate net (get_or order i 0)
    place_gate = ordered.gates (get_or order i 0) (member_at order i inside)

    walked_earlier : {v : ℕ} → Walked net [] (get_or order i 0) v → Gate net v → Earlier order (suc i) v
    walked_earlier Walked.start gate = (i, omega arith, refl)
    walked_earlier (Walked.step {v = g} {u = u} way m _) gate =
        let (j, less, e) = walked_earlier way (reader_is_gate bounded (walked_node bounded place_gate.below way) m) in
        let (h, lower, f) = ordered.before j u (omega arith) (subst (λ (x : ℕ). Memᴰ u (net.fanins x)) (sym e) m) gate in
        (h, omega arith, f)

    -- a gate behind the i-th comes before it
    pub behind_earlier : {v : ℕ} → Behind net (get_or order i 0) v → Gate net v → Earlier order i v
    behind_earlier {v} b gate =
        let g = b.reader in
        let (j, less, e) = walked_earlier b.walked (reader_is_gate bounded (walked_node bounded place_gate.below b.walked) b.feeds) in
        let (h, lower, f) = ordered.before j v (omega arith) (subst (λ (x : ℕ). Memᴰ v (net.fanins x)) (sym e) b.feeds) gate in
        (h, omega arith, f)

    -- so is no gate at the place or later
    pub behind_apart : (j : ℕ) → j < length order → i ≤ j → {v : ℕ} → Behind net (get_or order i 0) v → v ≡ get_or order j 0 → ⊥
    behind_apart j far later {v} b e =
        let (h, less, f) = behind_earlier b (subst (Gate net) (sym e) (ordered.gates (get_or order j 0) (member_at order j far))) in
        apart_places ordered.once j h far (omega arith) (f ∙ e)

  -- With the true labels

  module _ (ranked : Ranked net) where
    truth : (lab : ℕ → ℕ) × ((outputs : List ℕ) → Labels net k outputs lab)
    truth = let (lab, choice, rules) = rules_exist bounded ranked in (lab, rules_are_labels bounded ranked rules)

    pub true_label : ℕ → ℕ
    true_label = truth.0

    pub true_labels : (outputs : List ℕ) → Labels net k outputs true_label
    unfolding true_label
    true_labels = truth.1

    pub same_label : {v d : ℕ} → v < net.nodes → TrueLabel net k v d → d ≡ true_label v
    same_label {v} node label = label_is_one (label []) (true_labels [] v node)

    module _ {i : ℕ} {lab : ℕ → ℕ} {choice : ℕ → List ℕ} (so_far : LabelledTo net k order i lab choice) (inside : i < length order) where
      -- behind the next gate the labels are known
      pub agree_behind : (j : ℕ) → j ≤ i → Agree net (get_or order j 0) lab true_label
      agree_behind j low v b = by_kind (input_or_gate v node)
        where
          far : j < length order
          far = omega arith

          node : v < net.nodes
          node = met_node bounded (place_gate j far).below b

          by_kind : Input net v ⊎ Gate net v → lab v ≡ true_label v
          by_kind (inl input) = so_far.inputs v input ∙ sym (labels_at_inputs bounded ranked (true_labels []) v input)
          by_kind (inr gate) =
              let (h, less, e) = behind_earlier j far b gate in
              ap lab (sym e) ∙ same_label (place_gate h (omega arith)).below (so_far.label h (omega arith)) ∙ ap true_label e

      abbrev t : ℕ
      t = get_or order i 0

      gate_here : Gate net t
      gate_here = place_gate i inside

      agree_here : Agree net t lab true_label
      agree_here = agree_behind i (omega arith)

      pub never_falls_here : NeverFalls net lab t
      never_falls_here = never_falls_agrees (agree_back agree_here) (labels_never_fall bounded ranked (true_labels []) gate_here.below)

      same_peak : peak net lab t ≡ peak net true_label t
      same_peak = peak_agrees agree_here

      -- what is told at the gate is its label
      pub told_is_label : {label : ℕ} {leaves : List ℕ} → Told net k lab t label leaves → label ≡ true_label t
      told_is_label (Told.over_inputs none e _) =
          e ∙ sym (label_over_inputs bounded ranked (true_labels []) gate_here (sym same_peak ∙ none))
      told_is_label {leaves = leaves} (Told.cut some e least) =
          let here : LeastCut net k true_label t leaves = least_cut_agrees agree_here least in
          e ∙ same_peak ∙ sym ((label_at_peak bounded ranked (true_labels []) gate_here (let s = same_peak in omega arith)).1 (leaves, here.cut, here.outside))
      told_is_label (Told.paths some e (paths, evidence) _) =
          let tight : Tight net k true_label t = tight_agrees agree_here (evidence_is_tight never_falls_here bounded gate_here.below evidence) in
          e ∙ ap suc same_peak ∙ sym (above tight (label_peaked bounded ranked (true_labels []) gate_here))
        where
          above : Tight net k true_label t → (true_label t ≡ peak net true_label t) ⊎ (true_label t ≡ suc (peak net true_label t)) →
              true_label t ≡ suc (peak net true_label t)
          above tight (inr e) = e
          above tight (inl e) =
              let (leaves, cut, outside) = (label_at_peak bounded ranked (true_labels []) gate_here (let s = same_peak in omega arith)).0 e in
              absurd (tight leaves (cut_stops cut) outside)

      -- and its cut the mapper's
      told_cut : {label : ℕ} {leaves : List ℕ} {mab : ℕ → ℕ} → Agree net t lab mab → mab t ≡ label → Told net k lab t label leaves →
          MappersCut net k mab t leaves
      told_cut agree own (Told.over_inputs none e fanins) =
          MappersCut.above_peak (let p = peak_agrees agree in omega arith) fanins
      told_cut agree own (Told.cut some e least) = MappersCut.at_peak (own ∙ e ∙ peak_agrees agree) (least_cut_agrees agree least)
      told_cut agree own (Told.paths some e _ fanins) = MappersCut.above_peak (own ∙ e ∙ ap suc (peak_agrees agree)) fanins

      -- the step: the gate's label and cut are stored
      module _ {label : ℕ} {leaves : List ℕ} (told : Told net k lab t label leaves) (mab : ℕ → ℕ) (chosen : ℕ → List ℕ) (own : mab t ≡ label)
          (others : (v : ℕ) → (v ≡ t → ⊥) → mab v ≡ lab v) (own-cut : chosen t ≡ leaves)
          (other-cuts : (j : ℕ) → j < i → chosen (get_or order j 0) ≡ choice (get_or order j 0)) where
        kept : (j : ℕ) → j ≤ i → Agree net (get_or order j 0) lab mab
        kept j low v b = sym (others v (λ e. behind_apart j (omega arith) i inside low b e))

        earlier_kept : (j : ℕ) → j < i → mab (get_or order j 0) ≡ lab (get_or order j 0)
        earlier_kept j less = others (get_or order j 0) (apart_places ordered.once i j inside less)

        labels_more : (j : ℕ) → Dec (j ≡ i) → j < i + 1 → TrueLabel net k (get_or order j 0) (mab (get_or order j 0))
        labels_more j (yes e) low =
            let same : mab (get_or order j 0) ≡ true_label (get_or order j 0) =
            ap (λ (h : ℕ). mab (get_or order h 0)) e ∙ own ∙ told_is_label told ∙ ap (λ (h : ℕ). true_label (get_or order h 0)) (sym e) in
            λ outputs. subst (Label net k outputs (get_or order j 0)) (sym same) (true_labels outputs (get_or order j 0) (place_gate j (omega arith)).below)
        labels_more j (no apart) low =
            λ outputs. subst (Label net k outputs (get_or order j 0)) (sym (earlier_kept j (omega arith))) (so_far.label j (omega arith) outputs)

        cuts_more : (j : ℕ) → Dec (j ≡ i) → j < i + 1 → MappersCut net k mab (get_or order j 0) (chosen (get_or order j 0))
        cuts_more j (yes e) low =
            subst (λ (h : ℕ). MappersCut net k mab (get_or order h 0) (chosen (get_or order h 0))) (sym e)
            (subst (MappersCut net k mab t) (sym own-cut) (told_cut (kept i (omega arith)) own told))
        cuts_more j (no apart) low =
            subst (MappersCut net k mab (get_or order j 0)) (sym (other-cuts j (omega arith)))
            (mappers_cut_agrees (kept j (omega arith)) (sym (earlier_kept j (omega arith))) (so_far.cut j (omega arith)))

        pub labelled_more : LabelledTo net k order (i + 1) mab chosen
        labelled_more =
            record {
              inputs = λ v input. others v (λ e. gate_no_input (subst (Gate net) (sym e) gate_here) input) ∙ so_far.inputs v input;
              label = λ j low. labels_more j (ℕ_discrete j i) low;
              cut = λ j low. cuts_more j (ℕ_discrete j i) low;
            }
