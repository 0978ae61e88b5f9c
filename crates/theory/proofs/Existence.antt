-- Numbers that keep the local rules exist, so every node has a label. They are given out along the rank: at the next gate it is decided, by
-- trying all short lists, whether a cut outside D exists; if so it shows p, else the distinct fanins show p + 1. What the rule
-- at a gate says rests on the numbers behind it alone.
use Prim.Native.Nat.{ℕ, zero, suc, ◌≤◌, ◌<◌}
use native.Mathlib.Nat.{not-suc-le-zero}
use native.Mathlib.Decide.{dec_le, ℕ_discrete}
use native.Mathlib.Omega.{arith}
use mathlib.Core.Path.{◌≡◌, refl, sym, ◌∙◌}
use mathlib.Core.List.{List, []}
use Rattle.theory.specs.paper.Net.{Net, Gate}
use Rattle.theory.specs.paper.Sound.{Bounded, Ranked}
use Rattle.theory.specs.paper.Walk.{Cut}
use Rattle.theory.specs.paper.Cover.{Label}
use Rattle.theory.specs.paper.Evidence.{peak, Outside}
use Rattle.theory.specs.Lines.{NeverFalls, ZeroAtInputs}
use Rattle.theory.proofs.Ranks.{common_bound}
use Rattle.theory.proofs.Tests.{decided}
use Rattle.theory.proofs.Decisions.{decide_both}
use Rattle.theory.proofs.Walks.{Tight, met_rank, gate_no_input, decide_gate}
use Rattle.theory.proofs.DecideEvidence.{is_outside, decides_outside}
use Rattle.theory.proofs.TriedCuts.{decides_some_cut}
use Rattle.theory.proofs.Cuts.{InnerCut, cut_of_stops, distinct_fanins}
use Rattle.theory.proofs.Labels.{LocalRule, LocalRules, rules_are_labels}
use Rattle.theory.proofs.Rules.{rule_agrees, rule_at_peak, rule_above_peak, peaked_never_fall}

-- The rule at the next gate

-- a number and leaves that keep the rule at t
record Kept (net : Net) (k : ℕ) (lab : ℕ → ℕ) (t : ℕ) : Type 0 where
  number : ℕ
  leaves : List ℕ
  rule : LocalRule net k lab t number leaves

module _ {net : Net} {k : ℕ} (bounded : Bounded net k) (ranked : Ranked net) where
  module _ (lab : ℕ → ℕ) {t : ℕ} (gate : Gate net t) where
    -- a cut outside D
    abbrev OutsideCut : Type 0
    OutsideCut = (leaves : List ℕ) × (Cut net k t leaves × Outside net lab t leaves)

    decide_outside_cut : Dec OutsideCut
    decide_outside_cut = decided (decides_some_cut bounded k gate.below (is_outside net lab t) (decides_outside bounded lab gate.below))

    none_outside : (OutsideCut → ⊥) → Tight net k lab t
    none_outside none other s outside =
        let c : InnerCut net k t other = cut_of_stops bounded ranked gate s in
        none (c.inner, (c.cut, λ v m. outside v (c.from v m)))

    by_fanins : (1 ≤ peak net lab t → Tight net k lab t) → Kept net k lab t
    by_fanins tight =
        let (leaves, fanins) = distinct_fanins net t in
        record { number = suc (peak net lab t); leaves = leaves; rule = rule_above_peak bounded gate ranked fanins tight }

    next_rule : ZeroAtInputs net lab → NeverFalls net lab t → Kept net k lab t
    next_rule zeros never_falls = by_peak (dec_le 1 (peak net lab t)) decide_outside_cut
      where
        by_peak : Dec (1 ≤ peak net lab t) → Dec OutsideCut → Kept net k lab t
        by_peak (no low) _ = by_fanins (λ some. absurd (low some))
        by_peak (yes some) (no none) = by_fanins (λ _. none_outside none)
        by_peak (yes some) (yes (leaves, (cut, outside))) =
            record { number = peak net lab t; leaves = leaves; rule = rule_at_peak bounded gate zeros never_falls some cut outside }

  -- Along the rank

  record RulesBelow (f : ℕ) (lab : ℕ → ℕ) (choice : ℕ → List ℕ) : Type 0 where
    inputs : ZeroAtInputs net lab
    gates : (t : ℕ) → Gate net t → ranked.rank t < f → LocalRule net k lab t (lab t) (choice t)

  module _ (f : ℕ) (lab : ℕ → ℕ) (choice : ℕ → List ℕ) (below : RulesBelow f lab choice) where
    abbrev Next : ℕ → Type 0
    Next v = Gate net v × (ranked.rank v ≡ f)

    falls_not : {t : ℕ} → Next t → NeverFalls net lab t
    falls_not {t} next =
        let same = next.1 in
        peaked_never_fall bounded next.0.below (λ g gate b. (below.gates g gate (let less = met_rank ranked b in omega arith)).peaked)

    -- the numbers and leaves so far, with those of the gates whose turn it is
    line : (v : ℕ) → Dec (Next v) → (m : ℕ) × List ℕ
    line v (yes next) = let kept = next_rule lab next.0 below.inputs (falls_not next) in (kept.number, kept.leaves)
    line v (no _) = (lab v, choice v)

    line_rule : (t : ℕ) (d : Dec (Next t)) → Gate net t → ranked.rank t < suc f → LocalRule net k lab t (line t d).0 (line t d).1
    unfolding line
    line_rule t (yes next) gate low = (next_rule lab next.0 below.inputs (falls_not next)).rule
    line_rule t (no old) gate low = below.gates t gate (less (ℕ_discrete (ranked.rank t) f))
      where
        less : Dec (ranked.rank t ≡ f) → ranked.rank t < f
        less (yes e) = absurd (old (gate, e))
        less (no apart) = omega arith

    line_kept : (v : ℕ) (d : Dec (Next v)) → (Next v → ⊥) → lab v ≡ (line v d).0
    unfolding line
    line_kept v (yes next) old = absurd (old next)
    line_kept v (no _) old = refl

    decide_next : (v : ℕ) → Dec (Next v)
    decide_next v = decide_both (decide_gate v) (λ _. ℕ_discrete (ranked.rank v) f)

    abbrev longer_lab : ℕ → ℕ
    longer_lab v = (line v (decide_next v)).0

    abbrev longer_choice : ℕ → List ℕ
    longer_choice v = (line v (decide_next v)).1

    lab_kept : {v : ℕ} → (Next v → ⊥) → lab v ≡ longer_lab v
    lab_kept {v} old = line_kept v (decide_next v) old

    longer : RulesBelow (suc f) longer_lab longer_choice
    longer =
        record {
          inputs = λ v i. sym (lab_kept (λ next. gate_no_input next.0 i)) ∙ below.inputs v i;
          gates = λ t gate low.
              rule_agrees (λ v b. lab_kept (λ next. let less = met_rank ranked b in let e = next.1 in omega arith))
              (line_rule t (decide_next t) gate low);
        }

  rules_below : (f : ℕ) → (lab : ℕ → ℕ) × (choice : ℕ → List ℕ) × RulesBelow f lab choice
  rules_below zero = ((λ _. 0), (λ _. []), record { inputs = λ v i. refl; gates = λ t gate low. absurd (not-suc-le-zero low) })
  rules_below (suc f) =
      let (lab, choice, below) = rules_below f in
      (longer_lab f lab choice below, longer_choice f lab choice below, longer f lab choice below)

  -- numbers that keep the local rules
  pub rules_exist : (lab : ℕ → ℕ) × (choice : ℕ → List ℕ) × LocalRules net k lab choice
  rules_exist =
      let (f, above) = common_bound ranked.rank net.nodes in
      let (lab, choice, below) = rules_below f in
      (lab, choice, record { inputs = below.inputs; gates = λ t gate. below.gates t gate (above t gate.below) })

  -- so every node has a label
  pub label_exists : (outputs : List ℕ) (v : ℕ) → v < net.nodes → (d : ℕ) × Label net k outputs v d
  label_exists outputs v node = let (lab, _, rules) = rules_exist in (lab v, rules_are_labels bounded ranked rules outputs v node)
