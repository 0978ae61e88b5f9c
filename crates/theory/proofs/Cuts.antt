-- Which leaves are cuts. Of leaves that stop the walk those met are a cut; the distinct fanins of a gate are a cut; two cuts with the same cone
-- are the same list. That a cut has a leaf comes from one lemma, `leaf_met`: a walk back ends only at inputs, since each gate has a fanin.
use Prim.Native.Nat.{ℕ, ◌<◌}
use native.Mathlib.Omega.{arith}
use mathlib.Core.Path.{◌≡◌, refl, subst}
use mathlib.Core.Logic.{⊎_elim}
use mathlib.Core.List.{List, Memᴰ}
use Rattle.theory.specs.paper.Net.{Net, Gate}
use Rattle.theory.specs.paper.Sound.{Bounded, Ranked}
use Rattle.theory.specs.paper.Walk.{Walked, Met, Cut, Cone}
use Rattle.theory.specs.paper.Evidence.{DistinctFanins}
use Rattle.theory.proofs.Ranks.{by_rank}
use Rattle.theory.proofs.Tests.{decided}
use Rattle.theory.proofs.Members.{no_longer, some_member, member_counts, rising_no_repeats, rising_equal, Sorted, sort}
use Rattle.theory.proofs.Walks.{Stops, inner_stops, walk_fewer, meet_on, leaf_or_walked, walked_no_leaf, cone_closed, cone_of_walked, no_loop, met_behind}
use Rattle.theory.proofs.DecideCut.{decides_met}

-- a cut among given leaves
pub record InnerCut (net : Net) (k t : ℕ) (leaves : List ℕ) : Type 0 where
  pub inner : List ℕ
  pub cut : Cut net k t inner
  pub from : (v : ℕ) → Memᴰ v inner → Memᴰ v leaves

-- "t is never its own leaf"
pub root_no_leaf : {net : Net} → Ranked net → {k t : ℕ} {leaves : List ℕ} → Cut net k t leaves → Memᴰ t leaves → ⊥
root_no_leaf ranked {t = t} cut leaf = no_loop ranked t (met_behind (cut.met t leaf))

module _ {net : Net} {k : ℕ} (bounded : Bounded net k) (ranked : Ranked net) where
  -- Every walk that leaves stop meets one of them. This is the only place that uses `fed`, the fact that each gate has a fanin.
  pub leaf_met : {t : ℕ} {leaves : List ℕ} → Gate net t → Stops net k t leaves → (l : ℕ) × Memᴰ l leaves × Met net leaves t l
  leaf_met {t} {leaves} = by_rank LeafMet ranked.rank from_fanin t
    where
      LeafMet : ℕ → Type 0
      LeafMet g = Gate net g → Stops net k g leaves → (l : ℕ) × Memᴰ l leaves × Met net leaves g l

      from_fanin : (g : ℕ) → ((u : ℕ) → ranked.rank u < ranked.rank g → LeafMet u) → LeafMet g
      from_fanin g further gate s =
          let (u, m) = some_member (net.fanins g) (bounded.fed g gate) in
          let lower = further u (ranked.rises u g m) in
          ⊎_elim (λ leaf. (u, leaf, record { reader = g; walked = Walked.start; feeds = m }))
          (λ w. let (l, leaf, met) = lower (cone_of_walked bounded.nodes s.stops gate w).gate (inner_stops s w) in (l, leaf, meet_on w met))
          (leaf_or_walked Walked.start m)

  -- the leaves met, as a rising list, and the walk that they stop
  module _ {t : ℕ} {leaves : List ℕ} (met : Sorted (Met net leaves t) leaves) where
    walk_back : {v : ℕ} → Walked net met.list t v → Walked net leaves t v
    walk_back Walked.start = Walked.start
    walk_back (Walked.step {v = v} {u = u} w m out) =
        let w' = walk_back w in
        Walked.step w' m (λ leaf. out (met.all u leaf (record { reader = v; walked = w'; feeds = m })))

    meet_back : {v : ℕ} → Met net met.list t v → Met net leaves t v
    meet_back m = record { reader = m.reader; walked = walk_back m.walked; feeds = m.feeds }

    meet_there : {v : ℕ} → Met net leaves t v → Met net met.list t v
    meet_there m = record { reader = m.reader; walked = walk_fewer met.from m.walked; feeds = m.feeds }

  pub cut_of_stops : {t : ℕ} {leaves : List ℕ} → Gate net t → Stops net k t leaves → InnerCut net k t leaves
  cut_of_stops {t} {leaves} gate s =
      let met : Sorted (Met net leaves t) leaves = sort (Met net leaves t) leaves (λ v _. decided (decides_met bounded gate.below leaves v)) in
      let (l, leaf, here) = leaf_met gate s in
      record {
        inner = met.list;
        cut = record {
          stops = λ v m i. let m' = meet_back met m in met.all v (s.stops v m' i) m';
          met = λ v m. meet_there met (met.holds v m);
          rising = met.rising;
          some = member_counts (met.all l leaf here);
          few = omega (arith, s.few, no_longer leaves (rising_no_repeats met.rising) met.from);
        };
        from = met.from;
      }

  -- The distinct fanins of a gate are a cut: the walk stops at once.

  fanins_end_walk : {t : ℕ} {leaves : List ℕ} {v : ℕ} → DistinctFanins net t leaves → Walked net leaves t v → v ≡ t
  fanins_end_walk d Walked.start = refl
  fanins_end_walk {t} {leaves = leaves} d (Walked.step {v = v} {u = u} w m out) =
      absurd (out (d.leaf u (subst (λ (x : ℕ). Memᴰ u (net.fanins x)) (fanins_end_walk d w) m)))

  fanins_stop : {t : ℕ} {leaves : List ℕ} → Gate net t → DistinctFanins net t leaves → Stops net k t leaves
  fanins_stop {t} gate d =
      record {
        stops = λ v m _. d.leaf v (subst (λ (x : ℕ). Memᴰ v (net.fanins x)) (fanins_end_walk d m.walked) m.feeds);
        few = omega (arith, bounded.few t gate, no_longer (net.fanins t) (rising_no_repeats d.rising) d.fanin);
      }

  pub cut_of_fanins : {t : ℕ} {leaves : List ℕ} → Gate net t → DistinctFanins net t leaves → Cut net k t leaves
  cut_of_fanins {t} {leaves} gate d =
      let s : Stops net k t leaves = fanins_stop gate d in
      let (l, leaf, here) = leaf_met gate s in
      record {
        stops = s.stops;
        met = λ v m. record { reader = t; walked = Walked.start; feeds = d.fanin v m };
        rising = d.rising;
        some = member_counts leaf;
        few = s.few;
      }

  -- Two cuts with the same cone are the same: the leaves are the nodes met outside the cone.

  leaf_moves : {t : ℕ} {leaves other : List ℕ} → Gate net t → Cut net k t leaves → Cut net k t other →
      ((v : ℕ) → Cone net leaves t v → Cone net other t v) → ((v : ℕ) → Cone net other t v → Cone net leaves t v) →
      (l : ℕ) → Memᴰ l leaves → Memᴰ l other
  leaf_moves {t} gate cut cut' there back l leaf =
      let m = cut.met l leaf in
      let reader = cone_of_walked bounded.nodes cut.stops gate m.walked in
      ⊎_elim (λ cone. absurd (walked_no_leaf (root_no_leaf ranked cut) (back l cone).walked leaf)) (λ found. found)
      (cone_closed bounded.nodes cut'.stops (there m.reader reader) m.feeds)

  pub same_cone_same_cut : {t : ℕ} {leaves other : List ℕ} → Gate net t → Cut net k t leaves → Cut net k t other →
      ((v : ℕ) → Cone net leaves t v → Cone net other t v) → ((v : ℕ) → Cone net other t v → Cone net leaves t v) → leaves ≡ other
  same_cone_same_cut gate cut cut' there back =
      rising_equal cut.rising cut'.rising (leaf_moves gate cut cut' there back) (leaf_moves gate cut' cut back there)

-- the distinct fanins of a node, as a rising list
pub distinct_fanins : (net : Net) (t : ℕ) → (leaves : List ℕ) × DistinctFanins net t leaves
distinct_fanins net t =
    let s : Sorted (λ _. Unit {0}) (net.fanins t) = sort (λ _. Unit {0}) (net.fanins t) (λ _ _. yes tt) in
    (s.list, record { rising = s.rising; fanin = s.from; leaf = λ v m. s.all v m tt })

pub distinct_fanins_one : {net : Net} {t : ℕ} {leaves other : List ℕ} → DistinctFanins net t leaves → DistinctFanins net t other → leaves ≡ other
distinct_fanins_one d e =
    rising_equal d.rising e.rising (λ v m. e.leaf v (d.fanin v m)) (λ v m. d.leaf v (e.fanin v m))
