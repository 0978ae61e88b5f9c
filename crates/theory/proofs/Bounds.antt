-- Bounds on depths over all covers. Below: where no leaves that stop a gate's walk beat its number, no cover does, by induction on the depth.
-- Above: one cut for each gate makes a cover, of the LUTs needed from the outputs, and its depths are no greater than numbers that fall from
-- each gate to the leaves of its cut.
use Prim.Native.Nat.{ℕ, suc, ◌≤◌}
use native.Mathlib.Decide.{map_dec}
use native.Mathlib.Omega.{arith}
use mathlib.Core.Path.{◌≡◌, refl}
use mathlib.Core.Bool.{Bool, true, decide}
use mathlib.Mathlib.Data.Bool.Basic.{decide_true, of_decide_true}
use mathlib.Core.Logic.{inr}
use mathlib.Core.List.{List, ◌∷◌, map, Memᴰ}
use Rattle.theory.specs.paper.Net.{Net, Gate}
use Rattle.theory.specs.paper.Sound.{Bounded, Ranked}
use Rattle.theory.specs.paper.Lists.{greatest}
use Rattle.theory.specs.paper.Walk.{Cut}
use Rattle.theory.specs.paper.Cover.{Luts, Wanted, Cover, Reaches}
use Rattle.theory.proofs.Decisions.{decide_both, decide_some}
use Rattle.theory.proofs.Members.{greatest_at_most}
use Rattle.theory.proofs.Leads.{Leads, decide_leads}
use Rattle.theory.proofs.Walks.{Stops, cut_stops, met_rank, decide_gate}
use Rattle.theory.proofs.Depths.{Within, Placed, within_numbers, depth_within}
use Rattle.theory.specs.Lines.{ZeroAtInputs}

-- Below

-- no leaves that stop a gate's walk are all more than one below its number
abbrev pub UnbeatenAt : Net → ℕ → (ℕ → ℕ) → ℕ → Type 0
UnbeatenAt net k lab t = Gate net t → (leaves : List ℕ) → Stops net k t leaves → lab t ≤ suc (greatest (map lab leaves))

abbrev pub Unbeaten : Net → ℕ → (ℕ → ℕ) → Type 0
Unbeaten net k lab = (t : ℕ) → UnbeatenAt net k lab t

module _ {net : Net} {k : ℕ} {outputs : List ℕ} {luts : Luts} {lab : ℕ → ℕ} where
  pub lower_bound : ZeroAtInputs net lab → Unbeaten net k lab → Cover net k outputs luts → {v e : ℕ} → Within net luts v e → lab v ≤ e
  lower_bound zeros unbeaten cover {v} (Within.input i) = let z = zeros v i in omega arith
  lower_bound zeros unbeaten cover {v} (Within.root {e = e} at each) =
      let most = greatest_at_most lab (luts.leaves v) e (λ l leaf. lower_bound zeros unbeaten cover (each l leaf)) in
      let least = unbeaten v (cover.gates v at) (luts.leaves v) (cut_stops (cover.cuts v at)) in
      omega arith

-- Above

-- v is an output gate, or a gate that leaves lead to from one
pub record Needed (net : Net) (choice : ℕ → List ℕ) (outputs : List ℕ) (v : ℕ) : Type 0 where
  pub output : ℕ
  pub listed : Memᴰ output outputs
  pub gate : Gate net output
  pub leads : Leads choice (Gate net) output v

abbrev pub CutsAtGates : Net → ℕ → (ℕ → List ℕ) → Type 0
CutsAtGates net k choice = (t : ℕ) → Gate net t → Cut net k t (choice t)

lead_gate : {net : Net} {choice : ℕ → List ℕ} {o v : ℕ} → Gate net o → Leads choice (Gate net) o v → Gate net v
lead_gate gate Leads.start = gate
lead_gate gate (Leads.step way m pass) = pass

module _ {net : Net} {k : ℕ} {choice : ℕ → List ℕ} (ranked : Ranked net) (cuts : CutsAtGates net k choice) where
  decide_from : {o : ℕ} → Gate net o → (v : ℕ) → Dec (Leads choice (Gate net) o v)
  decide_from {o} gate v =
      decide_leads choice (Gate net) decide_gate ranked.rank o (λ w u way m _. met_rank ranked ((cuts w (lead_gate gate way)).met u m)) v

  decide_needed : (outputs : List ℕ) (v : ℕ) → Dec (Needed net choice outputs v)
  decide_needed outputs v =
      map_dec (λ found. record { output = found.0; listed = found.1; gate = found.2.0; leads = found.2.1 })
      (λ (n : Needed net choice outputs v). (n.output, n.listed, (n.gate, n.leads)))
      (decide_some (λ o. Gate net o × Leads choice (Gate net) o v) outputs (λ o _. decide_both (decide_gate o) (λ gate. decide_from gate v)))

  pub is_needed : List ℕ → ℕ → Bool
  is_needed outputs v = decide (decide_needed outputs v)

  -- the LUTs needed from the outputs
  abbrev pub needed_luts : List ℕ → Luts
  needed_luts outputs = record { root = is_needed outputs; leaves = choice }

  module _ (outputs : List ℕ) where
    root_needed : {v : ℕ} → is_needed outputs v ≡ true → Needed net choice outputs v
    unfolding is_needed
    root_needed {v} at = of_decide_true (decide_needed outputs v) at

    needed_root : {v : ℕ} → Needed net choice outputs v → is_needed outputs v ≡ true
    unfolding is_needed
    needed_root {v} n = decide_true (decide_needed outputs v) n

    lead_wanted : {o v : ℕ} → Memᴰ o outputs → Gate net o → Leads choice (Gate net) o v → Wanted outputs (needed_luts outputs) v
    lead_wanted listed gate Leads.start = Wanted.output listed
    lead_wanted {o} listed gate (Leads.step {v = w} way m pass) =
        Wanted.leaf w (needed_root (record { output = o; listed = listed; gate = gate; leads = way })) m

    wanted_needed : {v : ℕ} → Gate net v → Wanted outputs (needed_luts outputs) v → Needed net choice outputs v
    wanted_needed {v} gate (Wanted.output listed) = record { output = v; listed = listed; gate = gate; leads = Leads.start }
    wanted_needed gate (Wanted.leaf r at m) =
        let n = root_needed at in
        record { output = n.output; listed = n.listed; gate = n.gate; leads = Leads.step n.leads m gate }

    root_gate : (r : ℕ) → is_needed outputs r ≡ true → Gate net r
    root_gate r at = let n = root_needed at in lead_gate n.gate n.leads

    pub needed_cover : Cover net k outputs (needed_luts outputs)
    needed_cover =
        record {
          gates = root_gate;
          cuts = λ r at. cuts r (root_gate r at);
          closed = λ v gate wanted. needed_root (wanted_needed gate wanted);
          needed = λ r at. let n = root_needed at in lead_wanted n.listed n.gate n.leads;
        }

  module _ {lab : ℕ → ℕ} (bounded : Bounded net k) (falls : (t : ℕ) → Gate net t → suc (greatest (map lab (choice t))) ≤ lab t) where
    -- numbers that fall from each gate to the leaves of its cut bound the depth of each root of a cover
    pub shallow_cover : (outputs : List ℕ) {v : ℕ} → Placed net (needed_luts outputs) v → Within net (needed_luts outputs) v (lab v)
    shallow_cover outputs = let cover = needed_cover outputs in within_numbers bounded.nodes cover lab (λ r at. falls r (cover.gates r at))

    pub upper_bound : (outputs : List ℕ) (t : ℕ) → Gate net t → (d : ℕ) × (d ≤ lab t) × Reaches net k outputs t d
    upper_bound outputs t gate =
        let cover : Cover net k (t ∷ outputs) (needed_luts (t ∷ outputs)) = needed_cover (t ∷ outputs) in
        let (d, less, depth) = depth_within (shallow_cover (t ∷ outputs) (inr (cover.closed t gate (Wanted.output (Memᴰ.head refl))))) in
        (d, less, record { luts = needed_luts (t ∷ outputs); cover = cover; depth = depth })
