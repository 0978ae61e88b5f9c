-- Tests for D, for lists outside D and for evidence, each proved to be true exactly where the definition holds. One table of marks, of what
-- lies behind t, serves all nodes and paths of a test.
use Prim.Native.Nat.{ℕ, suc, ◌<◌}
use mathlib.Core.Path.{◌≡◌, refl}
use mathlib.Core.Logic.{◌⊎◌, inl, inr}
use mathlib.Core.Bool.{Bool, false, not, ◌&&◌, ◌||◌, false≢true}
use mathlib.Core.List.{List, [], ◌∷◌, Memᴰ}
use lib.ListN.{length}
use lib.Dec.{ltb, eqb}
use Rattle.theory.specs.paper.Net.{Net, Gate}
use Rattle.theory.specs.paper.Sound.{Bounded}
use Rattle.theory.specs.paper.Lists.{greatest}
use Rattle.theory.specs.Members.{is_member}
use Rattle.theory.specs.paper.Walk.{Behind}
use Rattle.theory.specs.paper.Evidence.{peak, InD, Outside, Run, TruePath, Evidence, joined}
use Rattle.theory.proofs.Tests.{Decides, decides_as, ◌and_then◌, decides_or, decides_not, decides_lt}
use Rattle.theory.proofs.Tests.{decides_equal, decides_member, decides_every, decides_some_below, decides_apart}
use Rattle.theory.proofs.Tests.{every, some_below, is_apart}
use Rattle.theory.proofs.DecideNet.{is_gate, decides_gate}
use Rattle.theory.proofs.DecideCut.{walk_rows, is_met_by, is_met, is_behind, decides_behind}

-- `rows` are the marks of what lies behind t.
unfoldable is_in_d_by : List (List Bool) → Net → (ℕ → ℕ) → ℕ → ℕ → Bool
unfolding is_gate is_met_by peak greatest
is_in_d_by rows net lab t v = eqb v t || (is_gate net v && eqb (lab v) (peak net lab t) && is_met_by rows net t v)

unfoldable is_outside_by : List (List Bool) → Net → (ℕ → ℕ) → ℕ → List ℕ → Bool
unfolding is_in_d_by every
is_outside_by rows net lab t vs = every (λ v. not (is_in_d_by rows net lab t v)) vs

-- is the list that goes on from u with vs a run?
unfoldable is_run_by : List (List Bool) → Net → (ℕ → ℕ) → ℕ → ℕ → List ℕ → Bool
unfolding is_in_d_by some_below is_member
is_run_by rows net lab t u [] = some_below net.nodes (λ d. is_in_d_by rows net lab t d && is_member u (net.fanins d))
is_run_by rows net lab t u (v ∷ vs) = is_member u (net.fanins v) && is_run_by rows net lab t v vs

unfoldable is_path_by : List (List Bool) → Net → (ℕ → ℕ) → ℕ → List ℕ → Bool
unfolding is_run_by is_outside_by is_met_by every
is_path_by rows net lab t [] = false
is_path_by rows net lab t (v ∷ vs) = ltb v net.inputs && is_run_by rows net lab t v vs && every (is_met_by rows net t) (v ∷ vs) && is_outside_by rows net lab t (v ∷ vs)

unfoldable is_evidence_by : List (List Bool) → Net → ℕ → (ℕ → ℕ) → ℕ → List (List ℕ) → Bool
unfolding is_path_by every is_apart joined
is_evidence_by rows net k lab t paths = eqb (length paths) (suc k) && is_apart (joined paths) && every (is_path_by rows net lab t) paths

unfoldable pub is_in_d : Net → (ℕ → ℕ) → ℕ → ℕ → Bool
unfolding is_in_d_by walk_rows
is_in_d net lab t v = is_in_d_by (walk_rows net [] t) net lab t v

unfoldable pub is_outside : Net → (ℕ → ℕ) → ℕ → List ℕ → Bool
unfolding is_outside_by walk_rows
is_outside net lab t vs = is_outside_by (walk_rows net [] t) net lab t vs

unfoldable pub is_evidence : Net → ℕ → (ℕ → ℕ) → ℕ → List (List ℕ) → Bool
unfolding is_evidence_by walk_rows
is_evidence net k lab t paths = is_evidence_by (walk_rows net [] t) net k lab t paths

module _ {net : Net} {b : ℕ} (bounded : Bounded net b) (lab : ℕ → ℕ) {t : ℕ} (node : t < net.nodes) where
  abbrev rows : List (List Bool)
  rows = walk_rows net [] t

  pub decides_in_d : (v : ℕ) → Decides (is_in_d net lab t v) (InD net lab t v)
  unfolding is_in_d is_in_d_by is_met is_behind
  decides_in_d v = decides_as whole split
      (decides_or
      (decides_equal v t)
      (decides_gate net v and_then (λ _. decides_equal (lab v) (peak net lab t)) and_then (λ _. decides_behind bounded node v)))
    where
      whole : (v ≡ t) ⊎ ((Gate net v × (lab v ≡ peak net lab t)) × Behind net t v) → InD net lab t v
      whole (inl e) = rw e InD.self
      whole (inr k) = InD.behind k.0.0 k.1 k.0.1

      split : {u : ℕ} → InD net lab t u → (u ≡ t) ⊎ ((Gate net u × (lab u ≡ peak net lab t)) × Behind net t u)
      split InD.self = inl refl
      split (InD.behind gate behind equal) = inr ((gate, equal), behind)

  pub decides_outside : (vs : List ℕ) → Decides (is_outside net lab t vs) (Outside net lab t vs)
  unfolding is_outside is_outside_by is_in_d
  decides_outside vs = decides_every (λ v. not (is_in_d net lab t v)) (λ v. decides_not (decides_in_d v)) vs

  in_d_below : {d : ℕ} → InD net lab t d → d < net.nodes
  in_d_below InD.self = node
  in_d_below (InD.behind gate behind equal) = gate.below

  decides_run : (u : ℕ) (vs : List ℕ) → Decides (is_run_by rows net lab t u vs) (Run net lab t (u ∷ vs))
  unfolding is_run_by is_in_d
  decides_run u [] = decides_as
      (λ k. Run.last k.2.0 k.2.1)
      split
      (decides_some_below net.nodes _ (λ d _. decides_in_d d and_then (λ _. decides_member u (net.fanins d))))
    where
      split : Run net lab t (u ∷ []) → (d : ℕ) × (d < net.nodes) × (InD net lab t d × Memᴰ u (net.fanins d))
      split (Run.last {d = d} member feeds) = (d, in_d_below member, (member, feeds))
  decides_run u (v ∷ vs) = decides_as (λ k. Run.more k.0 k.1) split (decides_member u (net.fanins v) and_then (λ _. decides_run v vs))
    where
      split : Run net lab t (u ∷ v ∷ vs) → Memᴰ u (net.fanins v) × Run net lab t (v ∷ vs)
      split (Run.more feeds run) = (feeds, run)

  decides_path : (path : List ℕ) → Decides (is_path_by rows net lab t path) (TruePath net lab t path)
  unfolding is_path_by is_outside is_behind is_met
  decides_path [] = record { holds = λ e. absurd (false≢true e); passes = λ p. cc p.whole }
  decides_path (v ∷ vs) = decides_as
      (λ k. record { first = v; rest = vs; whole = refl; starts = k.0.0.0; runs = k.0.0.1; behind = k.0.1; outside = k.1 })
      (λ p. (((let e : v ≡ p.first = cc p.whole in rw e p.starts, p.runs), p.behind), p.outside))
      (decides_lt v net.inputs
      and_then (λ _. decides_run v vs)
      and_then (λ _. decides_every (is_behind net t) (decides_behind bounded node) (v ∷ vs))
      and_then (λ _. decides_outside (v ∷ vs)))

  pub decides_evidence : (k : ℕ) (paths : List (List ℕ)) → Decides (is_evidence net k lab t paths) (Evidence net k lab t paths)
  unfolding is_evidence is_evidence_by
  decides_evidence k paths = decides_as
      (λ h. record { count = h.0.0; each = h.1; apart = h.0.1 })
      (λ e. ((e.count, e.apart), e.each))
      (decides_equal (length paths) (suc k) and_then (λ _. decides_apart (joined paths)) and_then (λ _. decides_every _ decides_path paths))
