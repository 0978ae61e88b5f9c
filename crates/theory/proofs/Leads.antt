-- Going from node to node along lists: where `next` leads from a node, through nodes that pass. Where a rank falls on the way it is decided
-- whether one node leads to another, by trying the first steps: that takes a rank and no bound on the nodes, where Marks takes a bound and
-- no rank.
use Prim.Native.Nat.{ℕ, ◌<◌}
use native.Mathlib.Decide.{ℕ_discrete}
use mathlib.Core.Path.{◌≡◌, refl, sym, subst}
use mathlib.Core.Logic.{◌⊎◌, inl, inr, ⊎_elim}
use mathlib.Core.List.{List, Memᴰ}
use Rattle.theory.proofs.Ranks.{by_rank}
use Rattle.theory.proofs.Decisions.{decide_both, decide_some}

pub data Leads (next : ℕ → List ℕ) (Pass : ℕ → Type 0) (t : ℕ) : ℕ → Type 0 where
  start : Leads next Pass t t
  step : {v u : ℕ} → Leads next Pass t v → Memᴰ u (next v) → Pass u → Leads next Pass t u

-- a way to v that goes from t to a further node first
record FirstStep (next : ℕ → List ℕ) (Pass : ℕ → Type 0) (t v : ℕ) : Type 0 where
  first : ℕ
  near : Memᴰ first (next t)
  pass : Pass first
  rest : Leads next Pass first v

module _ {next : ℕ → List ℕ} {Pass : ℕ → Type 0} where
  lead_on : {t u v : ℕ} → Memᴰ u (next t) → Pass u → Leads next Pass u v → Leads next Pass t v
  lead_on m p start = step start m p
  lead_on m p (step way n q) = step (lead_on m p way) n q

  first_step : {t v : ℕ} → Leads next Pass t v → (v ≡ t) ⊎ FirstStep next Pass t v
  first_step start = inl refl
  first_step {t} (step {v = v} {u = u} way m p) = after (first_step way)
    where
      after : (v ≡ t) ⊎ FirstStep next Pass t v → (u ≡ t) ⊎ FirstStep next Pass t u
      after (inl e) = inr (record { first = u; near = subst (λ (x : ℕ). Memᴰ u (next x)) e m; pass = p; rest = start })
      after (inr f) = inr (record { first = f.first; near = f.near; pass = f.pass; rest = step f.rest m p })

module _ (next : ℕ → List ℕ) (Pass : ℕ → Type 0) (passes : (u : ℕ) → Dec (Pass u)) (rank : ℕ → ℕ) where
  abbrev Falls : ℕ → Type 0
  Falls t = (v u : ℕ) → Leads next Pass t v → Memᴰ u (next v) → Pass u → rank u < rank v

  by_first_steps : (t : ℕ) → ((u : ℕ) → rank u < rank t → Falls u → (v : ℕ) → Dec (Leads next Pass u v)) → Falls t → (v : ℕ) → Dec (Leads next Pass t v)
  by_first_steps t further falls v =
      either (ℕ_discrete v t)
      (decide_some (λ u. Pass u × Leads next Pass u v) (next t) (λ u m.
      decide_both (passes u) (λ p. further u (falls t u start m p) (λ w x way n q. falls w x (lead_on m p way) n q) v)))
    where
      either : Dec (v ≡ t) → Dec ((u : ℕ) × Memᴰ u (next t) × (Pass u × Leads next Pass u v)) → Dec (Leads next Pass t v)
      either (yes e) _ = yes (subst (Leads next Pass t) (sym e) start)
      either (no _) (yes (u, m, (p, way))) = yes (lead_on m p way)
      either (no apart) (no none) =
          no (λ way. ⊎_elim apart (λ (f : FirstStep next Pass t v). none (f.first, f.near, (f.pass, f.rest))) (first_step way))

  pub decide_leads : (t : ℕ) → Falls t → (v : ℕ) → Dec (Leads next Pass t v)
  decide_leads = by_rank (λ t. Falls t → (v : ℕ) → Dec (Leads next Pass t v)) rank by_first_steps
