-- The mapper's cut: there is at most one, and it is a cut that shows the label. Two least cuts have the same number of leaves, so each one's cone
-- contains the other's, and cuts with the same cone are the same.
use Prim.Native.Nat.{ℕ, suc, ◌≤◌}
use native.Mathlib.Omega.{arith}
use mathlib.Core.Path.{◌≡◌}
use mathlib.Core.List.{List, map}
use lib.ListN.{length}
use Rattle.theory.specs.paper.Net.{Net, Gate}
use Rattle.theory.specs.paper.Sound.{Bounded, Ranked}
use Rattle.theory.specs.paper.Lists.{greatest}
use Rattle.theory.specs.paper.Walk.{Cut}
use Rattle.theory.specs.paper.Evidence.{LeastCut, MappersCut}
use Rattle.theory.proofs.Walks.{cut_stops}
use Rattle.theory.proofs.Cuts.{cut_of_fanins, same_cone_same_cut, distinct_fanins_one}
use Rattle.theory.proofs.Rules.{outside_low, fanins_low}
use Rattle.theory.proofs.FlowMap.{Labels, labels_at_inputs, labels_unbeaten, labels_never_fall, label_positive}

module _ {net : Net} {k : ℕ} (bounded : Bounded net k) (ranked : Ranked net) where
  module _ {lab : ℕ → ℕ} {t : ℕ} (gate : Gate net t) where
    least_cut_is_one : {leaves other : List ℕ} → LeastCut net k lab t leaves → LeastCut net k lab t other → leaves ≡ other
    least_cut_is_one {leaves} {other} a b =
        let same : length leaves ≡ length other = omega (arith, a.fewest other b.cut b.outside, b.fewest leaves a.cut a.outside) in
        same_cone_same_cut bounded ranked gate a.cut b.cut (b.largest leaves a.cut a.outside same)
        (a.largest other b.cut b.outside (omega arith))

    pub mappers_cut_is_one : {leaves other : List ℕ} → MappersCut net k lab t leaves → MappersCut net k lab t other → leaves ≡ other
    mappers_cut_is_one (MappersCut.at_peak e a) (MappersCut.at_peak f b) = least_cut_is_one a b
    mappers_cut_is_one (MappersCut.at_peak e a) (MappersCut.above_peak f b) = absurd (omega arith)
    mappers_cut_is_one (MappersCut.above_peak e a) (MappersCut.at_peak f b) = absurd (omega arith)
    mappers_cut_is_one (MappersCut.above_peak e a) (MappersCut.above_peak f b) = distinct_fanins_one a b

    pub mappers_cut_is_cut : {leaves : List ℕ} → MappersCut net k lab t leaves → Cut net k t leaves
    mappers_cut_is_cut (MappersCut.at_peak e a) = a.cut
    mappers_cut_is_cut (MappersCut.above_peak e a) = cut_of_fanins bounded ranked gate a

  -- with true labels it shows the label
  module _ {outputs : List ℕ} {lab : ℕ → ℕ} (labels : Labels net k outputs lab) {t : ℕ} (gate : Gate net t) where
    shown_enough : {leaves : List ℕ} → MappersCut net k lab t leaves → suc (greatest (map lab leaves)) ≤ lab t
    shown_enough (MappersCut.at_peak e a) =
        let some = label_positive bounded ranked labels gate in
        let zeros = labels_at_inputs bounded ranked labels in
        let never_falls = labels_never_fall bounded ranked labels gate.below in
        omega (arith, outside_low bounded gate zeros never_falls (omega arith) a.cut a.outside)
    shown_enough (MappersCut.above_peak e a) = let most = fanins_low lab a in omega arith

    pub mappers_cut_shows_label : {leaves : List ℕ} → MappersCut net k lab t leaves → lab t ≡ suc (greatest (map lab leaves))
    mappers_cut_shows_label {leaves} m =
        let enough = shown_enough m in
        let least = labels_unbeaten bounded ranked labels t gate leaves (cut_stops (mappers_cut_is_cut gate m)) in
        omega arith
