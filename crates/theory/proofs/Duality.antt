-- Evidence is sound. Where labels never fall along fanins behind t, leaves outside D that stop the walk from t leave all of D walked; so each
-- true path has a leaf on it, and as many disjoint paths there are, so many leaves: K + 1 paths leave no cut outside D. Counting is of members.
use Prim.Native.Nat.{ℕ, suc, ◌≤◌, ◌<◌}
use native.Mathlib.Omega.{arith}
use mathlib.Core.Path.{◌≡◌, refl, sym, ap, subst}
use mathlib.Core.Logic.{◌⊎◌, inl, inr, ⊎_elim}
use mathlib.Core.List.Memᴰ
use mathlib.Core.List.{List, [], ◌∷◌, Memᴰ}
use lib.ListN.{length}
use Rattle.theory.specs.paper.Net.{Net, Gate}
use Rattle.theory.specs.paper.Sound.{Bounded}
use Rattle.theory.specs.paper.Lists.{NoRepeats}
use Rattle.theory.specs.paper.Walk.{Walked, Met, Behind}
use Rattle.theory.specs.paper.Evidence.{peak, InD, Outside, Run, TruePath, joined, Evidence}
use Rattle.theory.specs.Lines.{NeverFalls}
use Rattle.theory.proofs.Members.{no_longer, at_most_greatest, no_repeats_after, no_repeats_apart}
use Rattle.theory.proofs.Walks.{Stops, Tight, walk_on, behind_on, behind_walked, walk_goes_on, leaf_or_walked, met_node, reader_is_gate}

-- a leaf on a path
abbrev pub Crossing : List ℕ → List ℕ → Type 0
Crossing leaves path = (w : ℕ) × Memᴰ w path × Memᴰ w leaves

abbrev HeadMet : Net → List ℕ → ℕ → List ℕ → Type 0
HeadMet net leaves t [] = ⊥
HeadMet net leaves t (v ∷ vs) = Met net leaves t v

module _ {net : Net} {lab : ℕ → ℕ} {t : ℕ} (never_falls : NeverFalls net lab t) where
  walk_low : {u v : ℕ} → Behind net t u → Walked net [] u v → lab v ≤ lab u
  walk_low b Walked.start = omega arith
  walk_low b (Walked.step {v = v} {u = w} way m _) = omega (arith, walk_low b way, never_falls v w (behind_on b way) m)

  met_low : {u v : ℕ} → Walked net [] t v → Memᴰ u (net.fanins v) → lab u ≤ peak net lab t
  unfolding peak
  met_low Walked.start m = at_most_greatest lab m
  met_low {u = x} (Walked.step {v = v} {u = w} way m _) n =
      omega (arith, met_low way m, never_falls w x (record { reader = v; walked = way; feeds = m }) n)

  -- p is the greatest number behind t
  pub behind_low : {v : ℕ} → Behind net t v → lab v ≤ peak net lab t
  behind_low b = met_low b.walked b.feeds

  module _ {k : ℕ} (bounded : Bounded net k) (node : t < net.nodes) where
    -- what lies on the way from t to a member of D is in D
    on_the_way : {u d : ℕ} → Behind net t u → Walked net [] u d → Gate net d → lab d ≡ peak net lab t → InD net lab t u
    on_the_way {u} {d} b rest gate e =
        InD.behind (is_gate_lem (walk_goes_on rest)) b (let low = behind_low b in let high = walk_low b rest in omega arith)
      where
        is_gate_lem : (d ≡ u) ⊎ ((w : ℕ) × Memᴰ w (net.fanins u)) → Gate net u
        is_gate_lem (inl same) = subst (Gate net) same gate
        is_gate_lem (inr (w, fanin)) = reader_is_gate bounded (met_node bounded node b) fanin

    module _ {leaves : List ℕ} (outside : Outside net lab t leaves) where
      walked_on_the_way : {v d : ℕ} → Walked net [] t v → Walked net [] v d → Gate net d → lab d ≡ peak net lab t → Walked net leaves t v
      walked_on_the_way Walked.start rest gate e = Walked.start
      walked_on_the_way (Walked.step {v = v} {u = u} way m none) rest gate e =
          let earlier = walked_on_the_way way (walk_on (Walked.step Walked.start m none) rest) gate e in
          Walked.step earlier m (λ leaf. outside u leaf (on_the_way (record { reader = v; walked = way; feeds = m }) rest gate e))

      -- leaves outside D leave all of D walked
      pub d_is_walked : {d : ℕ} → InD net lab t d → Walked net leaves t d
      d_is_walked InD.self = Walked.start
      d_is_walked (InD.behind gate b e) = walked_on_the_way (behind_walked b) Walked.start gate e

      -- from a path's last node, which is met, back: a leaf, or all of it is met
      run_meets : {path : List ℕ} → Run net lab t path → Crossing leaves path ⊎ HeadMet net leaves t path
      run_meets (Run.last {d = d} member m) = inr (record { reader = d; walked = d_is_walked member; feeds = m })
      run_meets (Run.more {u = u} {v = v} {vs = vs} m run) = back (run_meets run)
        where
          met : Memᴰ v leaves ⊎ Walked net leaves t v → Crossing leaves (u ∷ v ∷ vs) ⊎ Met net leaves t u
          met (inl leaf) = inl (v, Memᴰ.tail (Memᴰ.head refl), leaf)
          met (inr w) = inr (record { reader = v; walked = w; feeds = m })

          back : Crossing leaves (v ∷ vs) ⊎ Met net leaves t v → Crossing leaves (u ∷ v ∷ vs) ⊎ Met net leaves t u
          back (inl (w, on, leaf)) = inl (w, Memᴰ.tail on, leaf)
          back (inr here) = met (leaf_or_walked here.walked here.feeds)

      pub path_meets_leaves : {path : List ℕ} → Stops net k t leaves → TruePath net lab t path → Crossing leaves path
      path_meets_leaves s p = subst (Crossing leaves) (sym p.whole) (crossing (run_meets (subst (Run net lab t) p.whole p.runs)))
        where
          crossing : Crossing leaves (p.first ∷ p.rest) ⊎ Met net leaves t p.first → Crossing leaves (p.first ∷ p.rest)
          crossing (inl found) = found
          crossing (inr met) = (p.first, Memᴰ.head refl, s.stops p.first met p.starts)

-- Counting disjoint paths

-- one leaf from each path, no two alike
record OneOfEach (leaves : List ℕ) (paths : List (List ℕ)) : Type 0 where
  picks : List ℕ
  count : length picks ≡ length paths
  apart : NoRepeats picks
  leaf : (v : ℕ) → Memᴰ v picks → Memᴰ v leaves
  on : (v : ℕ) → Memᴰ v picks → Memᴰ v (joined paths)

pick_each : {leaves : List ℕ} (paths : List (List ℕ)) → ((path : List ℕ) → Memᴰ path paths → Crossing leaves path) →
    NoRepeats (joined paths) → OneOfEach leaves paths
unfolding joined
pick_each [] each apart =
    record { picks = []; count = refl; apart = NoRepeats.none; leaf = λ v m. absurd (Memᴰ.not-nil m); on = λ v m. m }
pick_each {leaves} (path ∷ paths) each apart =
    let (w, on, leaf) = each path (Memᴰ.head refl) in
    let rest : OneOfEach leaves paths = pick_each paths (λ other m. each other (Memᴰ.tail m)) (no_repeats_after path apart) in
    record {
      picks = w ∷ rest.picks;
      count = ap suc rest.count;
      apart = NoRepeats.more (λ m. no_repeats_apart apart on (rest.on w m)) rest.apart;
      leaf = λ v m. ⊎_elim (λ (e : v ≡ w). Memᴰ.cast e leaf) (λ (late : Memᴰ v rest.picks). rest.leaf v late) (Memᴰ.cases_cons m);
      on = λ v m.
          ⊎_elim (λ (e : v ≡ w). Memᴰ.append_left (joined paths) (Memᴰ.cast e on))
          (λ (late : Memᴰ v rest.picks). Memᴰ.append_right path (rest.on v late)) (Memᴰ.cases_cons m);
    }

module _ {net : Net} {lab : ℕ → ℕ} {t k : ℕ} (never_falls : NeverFalls net lab t) (bounded : Bounded net k) (node : t < net.nodes) where
  -- weak duality: no more disjoint true paths than leaves
  pub paths_at_most_leaves : {leaves : List ℕ} (paths : List (List ℕ)) → Outside net lab t leaves → Stops net k t leaves →
      ((path : List ℕ) → Memᴰ path paths → TruePath net lab t path) → NoRepeats (joined paths) → length paths ≤ length leaves
  paths_at_most_leaves {leaves} paths outside s each apart =
      let p : OneOfEach leaves paths = pick_each paths (λ path m. path_meets_leaves never_falls bounded node outside s (each path m)) apart in
      let few = no_longer leaves p.apart p.leaf in
      omega (arith, p.count)

  -- evidence means that no leaves outside D stop the walk
  pub evidence_is_tight : {paths : List (List ℕ)} → Evidence net k lab t paths → Tight net k lab t
  evidence_is_tight {paths} evidence leaves s outside =
      let many = paths_at_most_leaves paths outside s evidence.each evidence.apart in
      omega (arith, evidence.count, s.few)
