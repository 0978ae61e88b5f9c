-- The facts that the mapper stands on, of the true labels: they never fall along fanins; a label is p or p + 1, and 1 if p is 0; it is p exactly
-- when a cut outside D exists. Numbers that keep the local rules exist, and are the labels; so the labels keep the rules, from which all follows.
use Prim.Native.Nat.{ℕ, ◌≤◌, ◌<◌}
use native.Mathlib.Omega.{arith}
use mathlib.Core.Path.{◌≡◌, subst}
use mathlib.Core.Logic.{◌↔◌, ⊎_elim}
use mathlib.Core.List.{List}
use Rattle.theory.specs.paper.Net.{Net, Gate}
use Rattle.theory.specs.paper.Sound.{Bounded, Ranked}
use Rattle.theory.specs.paper.Walk.{Cut}
use Rattle.theory.specs.paper.Cover.{Label}
use Rattle.theory.specs.paper.Evidence.{peak, Outside, Peaked}
use Rattle.theory.specs.Lines.{NeverFalls, ZeroAtInputs}
use Rattle.theory.proofs.Walks.{cut_stops, met_node}
use Rattle.theory.proofs.Bounds.{Unbeaten}
use Rattle.theory.proofs.Labels.{LocalRule, LocalRules, label_is_one, rules_are_labels, rules_unbeaten, low_outside}
use Rattle.theory.proofs.Rules.{rule_agrees, peaked_never_fall}
use Rattle.theory.proofs.Existence.{rules_exist}

-- lab has the label of every node
abbrev pub Labels : Net → ℕ → List ℕ → (ℕ → ℕ) → Type 0
Labels net k outputs lab = (v : ℕ) → v < net.nodes → Label net k outputs v (lab v)

module _ {net : Net} {k : ℕ} {outputs : List ℕ} {lab : ℕ → ℕ} (bounded : Bounded net k) (ranked : Ranked net) (labels : Labels net k outputs lab) where
  pub labels_keep_rules : (choice : ℕ → List ℕ) × LocalRules net k lab choice
  labels_keep_rules =
      let (mab, choice, rules) = rules_exist bounded ranked in
      let same : (v : ℕ) → v < net.nodes → mab v ≡ lab v =
      λ v node. label_is_one (rules_are_labels bounded ranked rules outputs v node) (labels v node) in (
        choice,
        record {
          inputs = λ v i. label_is_one (labels v (let span = bounded.span in omega arith)) (Label.input i);
          gates = λ t gate.
              subst (λ (m : ℕ). LocalRule net k lab t m (choice t)) (same t gate.below)
              (rule_agrees (λ v b. same v (met_node bounded gate.below b)) (rules.gates t gate));
        },
      )

  pub labels_at_inputs : ZeroAtInputs net lab
  labels_at_inputs = labels_keep_rules.1.inputs

  pub labels_unbeaten : Unbeaten net k lab
  labels_unbeaten = rules_unbeaten bounded ranked labels_keep_rules.1

  module _ {t : ℕ} (gate : Gate net t) where
    -- "the label is p or p + 1"
    pub label_peaked : Peaked net lab t (lab t)
    label_peaked = (labels_keep_rules.1.gates t gate).peaked

    pub label_positive : 1 ≤ lab t
    label_positive = let shown = (labels_keep_rules.1.gates t gate).shown in omega arith

    -- "If p is 0 it is 1."
    pub label_over_inputs : peak net lab t ≡ 0 → lab t ≡ 1
    label_over_inputs zero = let some = label_positive in ⊎_elim (λ e. omega arith) (λ e. omega arith) label_peaked

    -- "the label is p exactly when a cut of t exists with all leaves outside D"
    pub label_at_peak : 1 ≤ peak net lab t → (lab t ≡ peak net lab t) ↔ ((leaves : List ℕ) × Cut net k t leaves × Outside net lab t leaves)
    label_at_peak some =
        let (choice, rules) = labels_keep_rules in
        let rule = rules.gates t gate in (
          λ e. (choice t, rule.cut, low_outside (let z = e in omega arith) (let shown = rule.shown in omega arith)),
          λ (leaves, cut, outside).
              ⊎_elim (λ e. e) (λ e. absurd (rule.tight e some leaves (cut_stops cut) outside)) rule.peaked,
        )

  pub labels_never_fall : {t : ℕ} → t < net.nodes → NeverFalls net lab t
  labels_never_fall node = peaked_never_fall bounded node (λ g gate _. label_peaked gate)
