-- Numbers that keep a rule at each gate are the labels. The rule is local: a cut of the gate that shows the number, the number is p or p + 1,
-- and where it is p + 1 no leaves outside D stop the walk. Bounds from above and below meet, by induction along the rank.
use Prim.Native.Nat.{ℕ, suc, ◌≤◌, ◌<◌}
use native.Mathlib.Decide.{dec_le}
use native.Mathlib.Omega.{arith}
use mathlib.Core.Path.{◌≡◌, refl, sym, subst}
use mathlib.Core.Logic.{◌⊎◌, inl, inr, ⊎_elim}
use mathlib.Core.List.{List, map, Memᴰ}
use Rattle.theory.specs.paper.Net.{Net, Gate, Input}
use Rattle.theory.specs.paper.Sound.{Bounded, Ranked}
use Rattle.theory.specs.paper.Lists.{greatest}
use Rattle.theory.specs.paper.Walk.{Walked, Cut}
use Rattle.theory.specs.paper.Cover.{Reaches, Label}
use Rattle.theory.specs.paper.Evidence.{peak, InD, Outside, Peaked}
use Rattle.theory.specs.Lines.{ZeroAtInputs}
use Rattle.theory.proofs.Ranks.{by_rank}
use Rattle.theory.proofs.Members.{at_most_greatest, greatest_stands}
use Rattle.theory.proofs.Walks.{Stops, Tight, inner_stops, leaf_or_walked, input_or_gate, gate_no_input}
use Rattle.theory.proofs.Depths.{within_depth}
use Rattle.theory.proofs.Bounds.{UnbeatenAt, Unbeaten, lower_bound, upper_bound}

-- The rule at gate t, for its number m and its leaves, where `lab` has the numbers behind t
pub record LocalRule (net : Net) (k : ℕ) (lab : ℕ → ℕ) (t m : ℕ) (leaves : List ℕ) : Type 0 where
  pub cut : Cut net k t leaves
  pub shown : suc (greatest (map lab leaves)) ≤ m
  pub peaked : Peaked net lab t m
  pub tight : m ≡ suc (peak net lab t) → 1 ≤ peak net lab t → Tight net k lab t

pub record LocalRules (net : Net) (k : ℕ) (lab : ℕ → ℕ) (choice : ℕ → List ℕ) : Type 0 where
  pub inputs : ZeroAtInputs net lab
  pub gates : (t : ℕ) → Gate net t → LocalRule net k lab t (lab t) (choice t)

-- a number that is p or p + 1 is none below the fanins'
pub peaked_rises : (net : Net) (lab : ℕ → ℕ) (t : ℕ) {m : ℕ} → Peaked net lab t m → {u : ℕ} → Memᴰ u (net.fanins t) → lab u ≤ m
unfolding peak
peaked_rises net lab t peaked fanin =
    let most = at_most_greatest lab fanin in
    ⊎_elim (λ e. omega arith) (λ e. omega arith) peaked

-- leaves whose numbers are all below p lie outside D
pub low_outside : {net : Net} {lab : ℕ → ℕ} {t : ℕ} {leaves : List ℕ} → peak net lab t ≤ lab t →
    greatest (map lab leaves) < peak net lab t → Outside net lab t leaves
low_outside {lab = lab} at low v leaf InD.self = let most = at_most_greatest lab leaf in omega arith
low_outside {lab = lab} at low v leaf (InD.behind _ _ e) = let most = at_most_greatest lab leaf in omega arith

module _ {net : Net} {k : ℕ} {lab : ℕ → ℕ} {choice : ℕ → List ℕ} (bounded : Bounded net k) (ranked : Ranked net) (rules : LocalRules net k lab choice) where
  positive_gate : {v : ℕ} → v < net.nodes → 1 ≤ lab v → Gate net v
  positive_gate {v} node some =
      ⊎_elim (λ (i : Input net v). let z = rules.inputs v i in absurd (omega arith)) (λ g. g) (input_or_gate v node)

  module _ {t : ℕ} (gate : Gate net t) {leaves : List ℕ} (s : Stops net k t leaves) where
    -- where the number is p, a fanin that has it is a leaf, or it is walked and the leaves stop the walk from it
    unbeaten_at_peak : lab t ≡ peak net lab t →
        ((u : ℕ) → Memᴰ u (net.fanins t) → Gate net u → Stops net k u leaves → lab u ≤ suc (greatest (map lab leaves))) →
        lab t ≤ suc (greatest (map lab leaves))
    unfolding peak
    unbeaten_at_peak e below =
        let (u, m, top) = greatest_stands lab (net.fanins t) (omega (arith, (rules.gates t gate).shown)) in
        by_walk u m top (leaf_or_walked Walked.start m)
      where
        by_walk : (u : ℕ) → Memᴰ u (net.fanins t) → lab u ≡ greatest (map lab (net.fanins t)) → Memᴰ u leaves ⊎ Walked net leaves t u →
            lab t ≤ suc (greatest (map lab leaves))
        by_walk u m top (inl leaf) = omega (arith, at_most_greatest lab leaf)
        by_walk u m top (inr w) =
            let g : Gate net u = positive_gate (bounded.nodes t gate u m) (omega (arith, (rules.gates t gate).shown)) in
            omega (arith, below u m g (inner_stops s w))

    -- where it is p + 1, leaves all below p would lie outside D
    unbeaten_above_peak : lab t ≡ suc (peak net lab t) → lab t ≤ suc (greatest (map lab leaves))
    unbeaten_above_peak e = by_order (dec_le (peak net lab t) (greatest (map lab leaves)))
      where
        by_order : Dec (peak net lab t ≤ greatest (map lab leaves)) → lab t ≤ suc (greatest (map lab leaves))
        by_order (yes high) = omega arith
        by_order (no low) = absurd ((rules.gates t gate).tight e (omega arith) leaves s (low_outside (omega arith) (omega arith)))

  pub rules_unbeaten : Unbeaten net k lab
  rules_unbeaten =
      by_rank (UnbeatenAt net k lab) ranked.rank (λ t below gate leaves s.
      ⊎_elim (λ e. unbeaten_at_peak gate s e (λ u m g. below u (ranked.rises u t m) g leaves)) (unbeaten_above_peak gate s)
      (rules.gates t gate).peaked)

  -- the numbers are the labels

  reached_least : (outputs : List ℕ) (t : ℕ) → Gate net t → (d : ℕ) → Reaches net k outputs t d → lab t ≤ d
  reached_least outputs t gate d r = lower_bound rules.inputs rules_unbeaten r.cover (within_depth r.depth)

  gate_label : (outputs : List ℕ) (t : ℕ) → Gate net t → Label net k outputs t (lab t)
  gate_label outputs t gate =
      let (d, less, reaches) = upper_bound ranked (λ g h. (rules.gates g h).cut) bounded (λ g h. (rules.gates g h).shown) outputs t gate in
      let same : d ≡ lab t = let least = reached_least outputs t gate d reaches in omega arith in
      Label.gate gate (subst (Reaches net k outputs t) same reaches) (reached_least outputs t gate)

  pub rules_are_labels : (outputs : List ℕ) (v : ℕ) → v < net.nodes → Label net k outputs v (lab v)
  rules_are_labels outputs v node = by_kind (input_or_gate v node)
    where
      by_kind : Input net v ⊎ Gate net v → Label net k outputs v (lab v)
      by_kind (inl i) = subst (Label net k outputs v) (sym (rules.inputs v i)) (Label.input i)
      by_kind (inr gate) = gate_label outputs v gate

-- a label is one number
pub label_is_one : {net : Net} {k : ℕ} {outputs : List ℕ} {v d e : ℕ} → Label net k outputs v d → Label net k outputs v e → d ≡ e
label_is_one (Label.input i) (Label.input j) = refl
label_is_one (Label.input i) (Label.gate g _ _) = absurd (gate_no_input g i)
label_is_one (Label.gate g _ _) (Label.input i) = absurd (gate_no_input g i)
label_is_one {d = d} {e = e} (Label.gate g r least) (Label.gate h s least') = omega (arith, least e s, least' d r)
