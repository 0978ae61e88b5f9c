-- A test for the mapper's cut, true exactly where a list is it: all cuts are tried as the others.
use Prim.Native.Nat.{ℕ, suc, ◌≤◌, ◌<◌}
use mathlib.Core.Path.{◌≡◌}
use mathlib.Core.Logic.{◌⊎◌, inl, inr}
use mathlib.Core.Bool.{Bool, not, ◌&&◌, ◌||◌}
use mathlib.Core.List.{List}
use lib.ListN.{length}
use lib.Dec.{leb, eqb}
use Rattle.theory.specs.paper.Net.{Net}
use Rattle.theory.specs.paper.Sound.{Bounded}
use Rattle.theory.specs.paper.Lists.{greatest}
use Rattle.theory.specs.Members.{is_member}
use Rattle.theory.specs.paper.Walk.{Cone}
use Rattle.theory.specs.paper.Evidence.{peak, LeastCut, DistinctFanins, MappersCut}
use Rattle.theory.proofs.Tests.{Decides, decides_as, ◌and_then◌, decides_or, decides_if, decides_le}
use Rattle.theory.proofs.Tests.{decides_equal, decides_member, decides_every, decides_below, decides_rising}
use Rattle.theory.proofs.Tests.{is_rising, every, every_below}
use Rattle.theory.proofs.DecideCut.{is_cut, decides_cut, walk_rows, is_cone_by, is_cone, decides_cone}
use Rattle.theory.proofs.DecideEvidence.{is_outside, decides_outside}
use Rattle.theory.proofs.TriedCuts.{every_cut, decides_every_cut}

-- is `leaves` no larger than `other`, and of the same size only with a cone that holds the other's?
unfoldable is_better_by : List (List Bool) → Net → ℕ → List ℕ → List ℕ → Bool
unfolding every_below is_cone_by walk_rows
is_better_by rows net t leaves other = leb (length leaves) (length other) &&
    (not (eqb (length other) (length leaves)) || holds (walk_rows net other t))
  where
    holds : List (List Bool) → Bool
    holds others = every_below net.nodes (λ v. not (is_cone_by others net other t v) || is_cone_by rows net leaves t v)

abbrev Better : Net → ℕ → List ℕ → List ℕ → Type 0
Better net t leaves other = (length leaves ≤ length other) × (length other ≡ length leaves → (v : ℕ) → Cone net other t v → Cone net leaves t v)

unfoldable pub is_least_cut : Net → ℕ → (ℕ → ℕ) → ℕ → List ℕ → Bool
unfolding every_cut is_cut is_outside is_better_by walk_rows
is_least_cut net k lab t leaves = is_cut net k t leaves && is_outside net lab t leaves && least (walk_rows net leaves t)
  where
    least : List (List Bool) → Bool
    least rows = every_cut net k t (λ other. not (is_outside net lab t other) || is_better_by rows net t leaves other)

unfoldable pub is_distinct_fanins : Net → ℕ → List ℕ → Bool
unfolding is_rising every is_member
is_distinct_fanins net t leaves = is_rising leaves && every (λ v. is_member v (net.fanins t)) leaves && every (λ v. is_member v leaves) (net.fanins t)

unfoldable pub is_mappers_cut : Net → ℕ → (ℕ → ℕ) → ℕ → List ℕ → Bool
unfolding is_least_cut is_distinct_fanins peak greatest
is_mappers_cut net k lab t leaves = (eqb (lab t) (peak net lab t) && is_least_cut net k lab t leaves) ||
    (eqb (lab t) (suc (peak net lab t)) && is_distinct_fanins net t leaves)

pub decides_distinct_fanins : (net : Net) (t : ℕ) (leaves : List ℕ) → Decides (is_distinct_fanins net t leaves) (DistinctFanins net t leaves)
unfolding is_distinct_fanins
decides_distinct_fanins net t leaves = decides_as
    (λ h. record { rising = h.0.0; fanin = h.0.1; leaf = h.1 })
    (λ d. ((d.rising, d.fanin), d.leaf))
    (decides_rising leaves
    and_then (λ _. decides_every _ (λ v. decides_member v (net.fanins t)) leaves)
    and_then (λ _. decides_every _ (λ v. decides_member v leaves) (net.fanins t)))

module _ {net : Net} {b : ℕ} (bounded : Bounded net b) (k : ℕ) (lab : ℕ → ℕ) {t : ℕ} (node : t < net.nodes) where
  decides_better : (leaves other : List ℕ) → Decides (is_better_by (walk_rows net leaves t) net t leaves other) (Better net t leaves other)
  unfolding is_better_by is_cone
  decides_better leaves other = decides_le (length leaves) (length other)
      and_then (λ _. decides_if
      (decides_equal (length other) (length leaves))
      (λ _. decides_as
      (λ h v cone. h v cone.gate.below cone)
      (λ h v _ cone. h v cone)
      (decides_below net.nodes _ (λ v _. decides_if (decides_cone bounded node other v) (λ _. decides_cone bounded node leaves v)))))

  pub decides_least_cut : (leaves : List ℕ) → Decides (is_least_cut net k lab t leaves) (LeastCut net k lab t leaves)
  unfolding is_least_cut
  decides_least_cut leaves = decides_as
      (λ h. record {
        cut = h.0.0;
        outside = h.0.1;
        fewest = λ other cut outside. (h.1 other cut outside).0;
        largest = λ other cut outside. (h.1 other cut outside).1;
      })
      (λ c. ((c.cut, c.outside), λ other cut outside. (c.fewest other cut outside, c.largest other cut outside)))
      (decides_cut bounded node k leaves
      and_then (λ _. decides_outside bounded lab node leaves)
      and_then (λ _. decides_every_cut bounded k node _
      (λ other. decides_if (decides_outside bounded lab node other) (λ _. decides_better leaves other))))

  pub decides_mappers_cut : (leaves : List ℕ) → Decides (is_mappers_cut net k lab t leaves) (MappersCut net k lab t leaves)
  unfolding is_mappers_cut
  decides_mappers_cut leaves = decides_as whole split
      (decides_or
      (decides_equal (lab t) (peak net lab t) and_then (λ _. decides_least_cut leaves))
      (decides_equal (lab t) (suc (peak net lab t)) and_then (λ _. decides_distinct_fanins net t leaves)))
    where
      whole : ((lab t ≡ peak net lab t) × LeastCut net k lab t leaves) ⊎ ((lab t ≡ suc (peak net lab t)) × DistinctFanins net t leaves) → MappersCut net k lab t leaves
      whole (inl h) = MappersCut.at_peak h.0 h.1
      whole (inr h) = MappersCut.above_peak h.0 h.1

      split : MappersCut net k lab t leaves → ((lab t ≡ peak net lab t) × LeastCut net k lab t leaves) ⊎ ((lab t ≡ suc (peak net lab t)) × DistinctFanins net t leaves)
      split (MappersCut.at_peak e l) = inl (e, l)
      split (MappersCut.above_peak e d) = inr (e, d)
