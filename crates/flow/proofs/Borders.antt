-- The area and D: fanins of the area lie in the area, fanins of D lie in D or are ends. So the walk from t with leaves in the area is D and a part
-- of the area, and for a flow a cut outside D is a division.
use Prim.Native.Nat.{ℕ}
use native.Mathlib.Decide.{ℕ_discrete}
use native.Mathlib.Omega.{arith}
use mathlib.Core.Path.{◌≡◌}
use mathlib.Core.Logic.{◌⊎◌, inl, inr, ⊎_elim}
use mathlib.Core.List.{List, [], Memᴰ}
use Rattle.theory.specs.paper.Net.{Net, Gate, Input}
use Rattle.theory.specs.paper.Sound.{Bounded, Ranked}
use Rattle.theory.specs.paper.Walk.{Walked, Met, Behind}
use Rattle.theory.specs.paper.Evidence.{peak, InD, Outside}
use Rattle.theory.specs.Lines.{NeverFalls}
use Rattle.theory.proofs.Walks.{Stops, behind_walked, leaf_or_walked, no_loop, gate_no_input, decide_gate, reader_is_gate, met_node, cone_of_walked}
use Rattle.theory.proofs.Duality.{behind_low, d_is_walked}
use Rattle.area.specs.Area.{InArea, IsEnd}

module _ {net : Net} {k : ℕ} {lab : ℕ → ℕ} {t : ℕ} (bounded : Bounded net k) (ranked : Ranked net) (gate : Gate net t) (never_falls : NeverFalls net lab t) where
  deep_behind : {v : ℕ} → InD net lab t v → Behind net t v → Gate net v × (lab v ≡ peak net lab t)
  deep_behind InD.self b = absurd (no_loop ranked t b)
  deep_behind (InD.behind g _ e) _ = (g, e)

  -- D is decided behind t
  pub deep_or_area : (v : ℕ) → Behind net t v → InD net lab t v ⊎ InArea net lab t v
  deep_or_area v b = by_gate (decide_gate v) (ℕ_discrete (lab v) (peak net lab t))
    where
      by_gate : Dec (Gate net v) → Dec (lab v ≡ peak net lab t) → InD net lab t v ⊎ InArea net lab t v
      by_gate (yes g) (yes e) = inl (InD.behind g b e)
      by_gate (no out) _ = inr (record { behind = b; outside = λ d. out (deep_behind d b).0 })
      by_gate (yes g) (no other) = inr (record { behind = b; outside = λ d. other (deep_behind d b).1 })

  pub area_closed : {u g : ℕ} → InArea net lab t g → Memᴰ u (net.fanins g) → InArea net lab t u
  area_closed {u} {g} a feeds =
      let b : Behind net t u = record { reader = g; walked = behind_walked a.behind; feeds = feeds } in
      let low = behind_low never_falls a.behind in
      let is_gate_lem = reader_is_gate bounded (met_node bounded gate.below a.behind) feeds in
      record {
        behind = b;
        outside = λ d.
            a.outside (InD.behind is_gate_lem a.behind (omega (arith, never_falls g u a.behind feeds, (deep_behind d b).1)));
      }

  deep_walked : {d : ℕ} → InD net lab t d → Walked net [] t d
  deep_walked InD.self = Walked.start
  deep_walked (InD.behind _ b _) = behind_walked b

  pub deep_fanin : {u d : ℕ} → InD net lab t d → Memᴰ u (net.fanins d) → InD net lab t u ⊎ IsEnd net lab t u
  deep_fanin {u} {d} deep feeds =
      ⊎_elim (λ x. inl x) (λ a. inr (record { inside = a; member = d; deep = deep; feeds = feeds }))
      (deep_or_area u (record { reader = d; walked = deep_walked deep; feeds = feeds }))

  pub no_input_deep : {v : ℕ} → InD net lab t v → Input net v → ⊥
  no_input_deep InD.self i = gate_no_input gate i
  no_input_deep (InD.behind g _ _) i = gate_no_input g i

  -- Walks with leaves outside D

  module _ {leaves : List ℕ} (outside : Outside net lab t leaves) where
    -- an end is a leaf or walked
    pub end_met : {v : ℕ} → IsEnd net lab t v → Met net leaves t v
    end_met e = record { reader = e.member; walked = d_is_walked never_falls bounded gate.below outside e.deep; feeds = e.feeds }

    pub end_side : {v : ℕ} → IsEnd net lab t v → Memᴰ v leaves ⊎ Walked net leaves t v
    end_side e = let m = end_met e in leaf_or_walked m.walked m.feeds

    pub walked_no_input : {v : ℕ} → Stops net k t leaves → Walked net leaves t v → Input net v → ⊥
    walked_no_input s w i = gate_no_input (cone_of_walked bounded.nodes s.stops gate w).gate i
