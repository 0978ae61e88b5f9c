-- How the local rule comes about at a gate: a cut outside D shows p, and the distinct fanins show p + 1 where nothing outside D stops the walk, as
-- evidence proves. What the rule says rests on the numbers behind the gate alone. So numbers whose lines an inspector finds right are the labels.
use Prim.Native.Nat.{ℕ, suc, ◌-◌, ◌≤◌, ◌<◌}
use native.Mathlib.Decide.{ℕ_discrete}
use native.Mathlib.Omega.{arith}
use mathlib.Core.Path.{◌≡◌, refl, sym, ap, ◌∙◌}
use mathlib.Core.Logic.{inl, inr, ⊎_elim}
use mathlib.Core.List.{List, map, Memᴰ}
use Rattle.theory.specs.paper.Net.{Net, Gate, Input}
use Rattle.theory.specs.paper.Sound.{Bounded, Ranked}
use Rattle.theory.specs.paper.Lists.{greatest}
use Rattle.theory.specs.paper.Walk.{Walked, Behind, Cut}
use Rattle.theory.specs.paper.Cover.{Label}
use Rattle.theory.specs.paper.Evidence.{peak, InD, Outside, DistinctFanins, Peaked, Run, TruePath, Evidence, Owes}
use Rattle.theory.specs.Lines.{NeverFalls, ZeroAtInputs, Lines}
use Rattle.theory.proofs.Members.{at_most_greatest, greatest_at_most}
use Rattle.theory.proofs.Picks.{map_agree}
use Rattle.theory.proofs.Walks.{Tight, met_behind, met_node, reader_is_gate, input_or_gate}
use Rattle.theory.proofs.Cuts.{cut_of_fanins}
use Rattle.theory.proofs.Labels.{LocalRule, LocalRules, peaked_rises, rules_are_labels}
use Rattle.theory.proofs.Duality.{behind_low, evidence_is_tight}

-- The rule rests on the numbers behind

module _ {net : Net} {lab mab : ℕ → ℕ} {t : ℕ} (agree : (v : ℕ) → Behind net t v → lab v ≡ mab v) where
  pub peak_agrees : peak net lab t ≡ peak net mab t
  unfolding peak
  peak_agrees = ap greatest (map_agree lab mab (net.fanins t) (λ v m. agree v (record { reader = t; walked = Walked.start; feeds = m })))

  pub d_agrees : {v : ℕ} → InD net lab t v → InD net mab t v
  d_agrees InD.self = InD.self
  d_agrees {v} (InD.behind gate b e) = InD.behind gate b (sym (agree v b) ∙ e ∙ peak_agrees)

  run_agrees : {path : List ℕ} → Run net lab t path → Run net mab t path
  run_agrees (Run.last deep feeds) = Run.last (d_agrees deep) feeds
  run_agrees (Run.more feeds run) = Run.more feeds (run_agrees run)

  pub rule_agrees : {k m : ℕ} {leaves : List ℕ} → LocalRule net k lab t m leaves → LocalRule net k mab t m leaves
  rule_agrees {m = m} {leaves = leaves} rule =
      let e : peak net lab t ≡ peak net mab t = peak_agrees in
      let f = ap greatest (map_agree lab mab leaves (λ v leaf. agree v (met_behind (rule.cut.met v leaf)))) in
      record {
        cut = rule.cut;
        shown = omega (arith, rule.shown);
        peaked = ⊎_elim (λ (g : m ≡ peak net lab t). inl (g ∙ e)) (λ (g : m ≡ suc (peak net lab t)). inr (g ∙ ap suc e)) rule.peaked;
        tight = λ top some other s outside.
            rule.tight (top ∙ ap suc (sym e)) (omega arith) other s (λ v leaf member. outside v leaf (d_agrees member));
      }

-- So does evidence, and whether it is due

module _ {net : Net} {lab mab : ℕ → ℕ} {t : ℕ} (agree : (v : ℕ) → Behind net t v → lab v ≡ mab v) where
  pub path_agrees : {path : List ℕ} → TruePath net lab t path → TruePath net mab t path
  path_agrees p =
      record {
        first = p.first;
        rest = p.rest;
        whole = p.whole;
        starts = p.starts;
        runs = run_agrees agree p.runs;
        behind = p.behind;
        outside = λ v m deep. p.outside v m (d_agrees (λ w b. sym (agree w b)) deep);
      }

  pub evidence_agrees : {k : ℕ} {paths : List (List ℕ)} → Evidence net k lab t paths → Evidence net k mab t paths
  evidence_agrees e = record { count = e.count; each = λ path m. path_agrees (e.each path m); apart = e.apart }

  pub owes_agrees : lab t ≡ mab t → Owes net lab t → Owes net mab t
  owes_agrees own owes =
      let e : peak net lab t ≡ peak net mab t = peak_agrees agree in
      record { above = sym own ∙ owes.above ∙ ap suc e; some = omega (arith, owes.some) }

-- The two ways to keep it

-- distinct fanins have numbers up to p
pub fanins_low : {net : Net} (lab : ℕ → ℕ) {t : ℕ} {leaves : List ℕ} → DistinctFanins net t leaves → greatest (map lab leaves) ≤ peak net lab t
unfolding peak
fanins_low lab {leaves = leaves} fanins = greatest_at_most lab leaves _ (λ v leaf. at_most_greatest lab (fanins.fanin v leaf))

module _ {net : Net} {k : ℕ} (bounded : Bounded net k) {lab : ℕ → ℕ} {t : ℕ} (gate : Gate net t) where
  -- leaves of a cut outside D have numbers below p
  pub outside_low : {leaves : List ℕ} → ZeroAtInputs net lab → NeverFalls net lab t → 1 ≤ peak net lab t → Cut net k t leaves →
      Outside net lab t leaves → suc (greatest (map lab leaves)) ≤ peak net lab t
  outside_low {leaves} zeros never_falls some cut outside =
      let most = greatest_at_most lab leaves (peak net lab t - 1) (λ v leaf. low v leaf (ℕ_discrete (lab v) (peak net lab t))) in
      omega arith
    where
      low : (v : ℕ) → Memᴰ v leaves → Dec (lab v ≡ peak net lab t) → lab v ≤ peak net lab t - 1
      low v leaf (no below) = let most = behind_low never_falls (met_behind (cut.met v leaf)) in omega arith
      low v leaf (yes e) =
          ⊎_elim (λ (i : Input net v). let z = zeros v i in omega arith)
          (λ (g : Gate net v). absurd (outside v leaf (InD.behind g (met_behind (cut.met v leaf)) e)))
          (input_or_gate v (met_node bounded gate.below (cut.met v leaf)))

  pub rule_at_peak : {leaves : List ℕ} → ZeroAtInputs net lab → NeverFalls net lab t → 1 ≤ peak net lab t → Cut net k t leaves →
      Outside net lab t leaves → LocalRule net k lab t (peak net lab t) leaves
  rule_at_peak zeros never_falls some cut outside =
      record {
        cut = cut;
        shown = outside_low zeros never_falls some cut outside;
        peaked = inl refl;
        tight = λ above. absurd (omega arith);
      }

  pub rule_above_peak : {leaves : List ℕ} → Ranked net → DistinctFanins net t leaves →
      (1 ≤ peak net lab t → Tight net k lab t) → LocalRule net k lab t (suc (peak net lab t)) leaves
  rule_above_peak ranked fanins tight =
      let most = fanins_low lab fanins in
      record {
        cut = cut_of_fanins bounded ranked gate fanins;
        shown = omega arith;
        peaked = inr refl;
        tight = λ _. tight;
      }

-- Evidence keeps it

-- behind t no number falls where each is p or p + 1
pub peaked_never_fall : {net : Net} {k : ℕ} {lab : ℕ → ℕ} {t : ℕ} → Bounded net k → t < net.nodes →
    ((g : ℕ) → Gate net g → Behind net t g → Peaked net lab g (lab g)) → NeverFalls net lab t
peaked_never_fall {net} {lab = lab} bounded node peaked g u b fanin =
    peaked_rises net lab g (peaked g (reader_is_gate bounded (met_node bounded node b) fanin) b) fanin

module _ {net : Net} {k : ℕ} {lab : ℕ → ℕ} {leaves : ℕ → List ℕ} {paths : ℕ → List (List ℕ)} (bounded : Bounded net k) (lines : Lines net k lab leaves paths) where
  pub rules_of_evidence : LocalRules net k lab leaves
  rules_of_evidence = record { inputs = lines.inputs; gates = rule }
    where
      rule : (t : ℕ) → Gate net t → LocalRule net k lab t (lab t) (leaves t)
      rule t gate =
          let line = lines.gates t gate in
          let never_falls = peaked_never_fall bounded gate.below (λ g h _. (lines.gates g h).near) in
          record {
            cut = line.cut;
            shown = omega (arith, line.depth);
            peaked = line.near;
            tight = λ above some. evidence_is_tight never_falls bounded gate.below (line.shown above some);
          }

  -- so the numbers are the labels
  pub lines_are_labels : Ranked net → (outputs : List ℕ) (v : ℕ) → v < net.nodes → Label net k outputs v (lab v)
  lines_are_labels ranked = rules_are_labels bounded ranked rules_of_evidence
