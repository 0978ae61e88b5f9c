-- On any net without loops an input lies in the area of a gate.
use Prim.Native.Nat.{ℕ, zero, suc, ◌<◌}
use native.Mathlib.Nat.{not-suc-le-zero}
use native.Mathlib.Omega.{arith}
use mathlib.Core.Logic.{◌⊎◌, inl, inr}
use mathlib.Core.List.{[]}
use Rattle.theory.specs.paper.Net.{Net, Gate, Input}
use Rattle.theory.specs.paper.Sound.{Bounded, Ranked}
use Rattle.theory.specs.paper.Walk.{Walked, Behind}
use Rattle.theory.specs.paper.Evidence.{InD}
use Rattle.theory.proofs.Members.{some_member}
use Rattle.theory.proofs.Walks.{behind_walked, met_node, input_or_gate, gate_no_input}
use Rattle.area.specs.Area.{InArea}

module _ {net : Net} {k t : ℕ} (bounded : Bounded net k) (gate : Gate net t) (ranked : Ranked net) where
  -- from a gate that is walked there is a way on, so an input is met
  input_within : (fuel g : ℕ) → ranked.rank g < fuel → Gate net g → Walked net [] t g → (v : ℕ) × Input net v × Behind net t v
  input_within zero g enough here way = absurd (not-suc-le-zero enough)
  input_within (suc fuel) g enough here way =
      let (u, m) = some_member (net.fanins g) (bounded.fed g here) in
      let b : Behind net t u = record { reader = g; walked = way; feeds = m } in
      further u b (input_or_gate u (met_node bounded gate.below b)) (λ h.
      input_within fuel u (let less = ranked.rises u g m in omega arith) h (behind_walked b))
    where
      further : (u : ℕ) → Behind net t u → Input net u ⊎ Gate net u → (Gate net u → (v : ℕ) × Input net v × Behind net t v) →
          (v : ℕ) × Input net v × Behind net t v
      further u b (inl i) below = (u, i, b)
      further u b (inr h) below = below h

module _ {net : Net} {lab : ℕ → ℕ} {t : ℕ} where
  input_outside_d : {v : ℕ} → Gate net t → Input net v → InD net lab t v → ⊥
  input_outside_d gate i InD.self = gate_no_input gate i
  input_outside_d gate i (InD.behind g _ _) = gate_no_input g i

  module _ {k : ℕ} (bounded : Bounded net k) (gate : Gate net t) where
    pub input_in_area : Ranked net → (v : ℕ) × Input net v × InArea net lab t v
    input_in_area ranked =
        let (v, i, b) = input_within bounded gate ranked (suc (ranked.rank t)) t (omega arith) gate Walked.start in
        (v, i, record { behind = b; outside = input_outside_d gate i })
