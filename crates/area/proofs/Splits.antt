-- The first pass: what becomes of a node, and one entry more that has become so.
use Prim.Native.Nat.{ℕ, ◌+◌, ◌≤◌, ◌<◌}
use native.Mathlib.Nat.{not-suc-le-zero}
use native.Mathlib.Decide.{ℕ_discrete}
use native.Mathlib.Omega.{arith}
use mathlib.Core.Path.{◌≡◌, sym, subst, ◌∙◌}
use mathlib.Core.Logic.{inl, inr, ⊎_elim}
use mathlib.Core.List.{List}
use lib.ListN.{length, get_or, set, length-set}
use lib.Seq.{get_or-set_same, get_or-set_other}
use Rattle.storage.specs.Roles.{met_bit}
use Rattle.storage.proofs.Clears.{drop_same, beyond_same, beyond_entry}
use Rattle.area.specs.Passes.{IsDeep, DeepAt, MetAt, Becomes, Split}

-- What becomes of a node

module _ {inputs gate p v label met : ℕ} where
  pub gate_within : v ≡ gate → Becomes (IsDeep inputs gate p v label met) (met ≡ 1) 4
  gate_within e = Becomes.within (inl e)

  module _ (apart : v ≡ gate → ⊥) where
    pub unmet_away : (met ≡ 1 → ⊥) → Becomes (IsDeep inputs gate p v label met) (met ≡ 1) 0
    unmet_away none = Becomes.away (λ d. ⊎_elim apart (λ (h : (inputs ≤ v) × (met ≡ 1) × (label ≡ p)). none h.1) d) none

    pub input_outside : met ≡ 1 → v < inputs → Becomes (IsDeep inputs gate p v label met) (met ≡ 1) 5
    input_outside here low =
        Becomes.outside (λ d. ⊎_elim apart (λ (h : (inputs ≤ v) × (met ≡ 1) × (label ≡ p)). let a = h.0 in omega arith) d) here

    pub peak_within : met ≡ 1 → inputs ≤ v → label ≡ p → Becomes (IsDeep inputs gate p v label met) (met ≡ 1) 4
    peak_within here high e = Becomes.within (inr (high, here, e))

    pub other_outside : met ≡ 1 → (label ≡ p → ⊥) → Becomes (IsDeep inputs gate p v label met) (met ≡ 1) 5
    other_outside here less = Becomes.outside (λ d. ⊎_elim apart (λ (h : (inputs ≤ v) × (met ≡ 1) × (label ≡ p)). less h.2) d) here

-- One entry more

pub split_none : (inputs gate p : ℕ) (labels roles : List ℕ) → Split inputs 0 gate p labels roles roles
split_none inputs gate p labels roles = record { each = λ v low. absurd (not-suc-le-zero low); rest = beyond_same 0 roles }

module _ {inputs v gate p : ℕ} {labels roles₀ roles : List ℕ} (so_far : Split inputs v gate p labels roles₀ roles) where
  pub split_more : {label x : ℕ} → v < length roles₀ → label ≡ get_or labels v 0 →
      Becomes (IsDeep inputs gate p v label (met_bit (get_or roles v 0))) (MetAt roles v) x → Split inputs (v + 1) gate p labels roles₀ (set roles v x)
  split_more {label} {x} low read here =
      record {
        each = λ u below. by_place u below (ℕ_discrete u v);
        rest = record {
          size = simp length-set so_far.rest.size;
          beyond = drop_same (v + 1) (set roles v x) roles₀ (simp length-set so_far.rest.size)
              (λ u far. get_or-set_other roles v u x 0 (omega arith) ∙ beyond_entry so_far.rest u (omega arith));
        };
      }
    where
      as_before : get_or roles v 0 ≡ get_or roles₀ v 0
      as_before = beyond_entry so_far.rest v (omega arith)

      now_here : Becomes (DeepAt inputs gate p labels roles₀ v) (MetAt roles₀ v) (get_or (set roles v x) v 0)
      now_here =
          rw (get_or-set_same roles v x 0 (let e = so_far.rest.size in omega arith), ← as_before, ← read) here

      by_place : (u : ℕ) → u < v + 1 → Dec (u ≡ v) → Becomes (DeepAt inputs gate p labels roles₀ u) (MetAt roles₀ u) (get_or (set roles v x) u 0)
      by_place u below (yes e) =
          subst (λ (w : ℕ). Becomes (DeepAt inputs gate p labels roles₀ w) (MetAt roles₀ w) (get_or (set roles v x) w 0)) (sym e) now_here
      by_place u below (no apart) = rw (get_or-set_other roles v u x 0 apart) (so_far.each u (omega arith))
