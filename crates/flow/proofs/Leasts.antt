-- The leaves of a search without an end are the mapper's cut: a cut of t outside D, with as many leaves as there are paths, hence the fewest, and
-- with a cone that contains the cone of every other such cut, since nothing on another's far side was found.
use Prim.Native.Nat.{ℕ, zero, suc, ◌+◌, ◌≤◌, ◌<◌}
use native.Mathlib.Decide.{ℕ_discrete}
use native.Mathlib.Omega.{arith}
use mathlib.Core.Path.{◌≡◌, refl, ◌∙◌}
use mathlib.Core.Bool.{Bool, true, false, cond}
use mathlib.Core.Logic.{◌⊎◌, inl, inr, ⊎_elim}
use mathlib.Core.List.{List, Memᴰ}
use lib.ListN.{length}
use Rattle.theory.specs.paper.Net.{Net, Gate, Input}
use Rattle.theory.specs.paper.Sound.{Bounded, Ranked}
use Rattle.theory.specs.paper.Walk.{Walked, Met, Cut}
use Rattle.theory.specs.paper.Evidence.{InD, Outside, LeastCut}
use Rattle.theory.specs.Lines.{NeverFalls}
use Rattle.theory.proofs.Decisions.{decide_member}
use Rattle.theory.proofs.Members.{member_counts}
use Rattle.theory.proofs.Ranks.{common_bound}
use Rattle.theory.proofs.Walks.{Stops, cut_stops, leaf_or_walked, decide_walked}
use Rattle.theory.proofs.Cuts.{leaf_met}
use Rattle.flow.specs.Numbers.{sum, those}
use Rattle.flow.specs.Flow.{is_leaf, Linked, Carries, Found, Settled}
use Rattle.area.specs.Area.{IsEnd}
use Rattle.flow.specs.Area.{Marked}
use Rattle.flow.proofs.Sums.{those_length, those_hold, those_all, those_rising, those_in}
use Rattle.flow.proofs.Links.{used_come}
use Rattle.flow.proofs.Counting.{Divides, no_more_paths}
use Rattle.flow.proofs.Reached.{leaves_are_paths, stays_far, found_in_near, out_none}
use Rattle.flow.proofs.Borders.{area_closed, deep_fanin, no_input_deep, end_met, end_side, walked_no_input}

abbrev is : {A : Type 0} → Dec A → Bool
is (yes _) = true
is (no _) = false

abbrev bit_of : {A : Type 0} → Dec A → ℕ
bit_of d = cond (is d) 1 0

is_holds : {A : Type 0} (d : Dec A) → is d ≡ true → A
is_holds (yes a) e = a
is_holds (no _) e = let z : ◌≡◌ {A = Bool} false true = e in absurd (let w : ◌≡◌ {A = ℕ} 0 1 = cc in omega arith)

bit_yes : {A : Type 0} (d : Dec A) → A → bit_of d ≡ 1
bit_yes (yes _) a = refl
bit_yes (no out) a = absurd (out a)

bit_no : {A : Type 0} (d : Dec A) → (A → ⊥) → bit_of d ≡ 0
bit_no (yes a) out = absurd (out a)
bit_no (no _) out = refl

-- the tests of a leaf
leaf_found : (c d : ℕ) → is_leaf c d ≡ true → (1 ≤ c) × (d ≡ 0)
leaf_found zero d e = let z : ◌≡◌ {A = Bool} false true = e in absurd (let w : ◌≡◌ {A = ℕ} 0 1 = cc in omega arith)
leaf_found (suc c) zero e = (omega arith, refl)
leaf_found (suc c) (suc d) e = let z : ◌≡◌ {A = Bool} false true = e in absurd (let w : ◌≡◌ {A = ℕ} 0 1 = cc in omega arith)

found_leaf : (c d : ℕ) → 1 ≤ c → d ≡ 0 → is_leaf c d ≡ true
found_leaf zero d some none = absurd (omega arith)
found_leaf (suc c) zero some none = refl
found_leaf (suc c) (suc d) some none = absurd (omega arith)

module _ {net : Net} {k : ℕ} {lab : ℕ → ℕ} {t : ℕ} (bounded : Bounded net k) (ranked : Ranked net) (gate : Gate net t) (never_falls : NeverFalls net lab t)
    {area ends : ℕ → ℕ} (marked : Marked net lab t area ends) where
  end_inside : (v : ℕ) → ends v ≡ 1 → area v ≡ 1
  end_inside v e = marked.area_all v (marked.ends_holds v e).inside

  -- A cut outside D is a division

  module _ {other : List ℕ} (s : Stops net k t other) (outside : Outside net lab t other) where
    abbrev behind_leaves : ℕ → ℕ
    behind_leaves v = bit_of (decide_walked ranked other t v)

    abbrev at_leaf : ℕ → ℕ
    at_leaf v = bit_of (decide_member v other)

    one_side : (v : ℕ) → Memᴰ v other ⊎ Walked net other t v → 1 ≤ behind_leaves v + at_leaf v
    one_side v (inl leaf) = omega (arith, bit_yes (decide_member v other) leaf)
    one_side v (inr w) = omega (arith, bit_yes (decide_walked ranked other t v) w)

    cut_divides : Divides net area ends behind_leaves at_leaf
    cut_divides =
        record {
          at_start = λ v _ low. bit_no (decide_walked ranked other t v) (λ w. walked_no_input bounded ranked gate never_falls outside s w low);
          at_edge = λ u g _ feeds. by_side u g feeds (decide_walked ranked other t g);
          at_end = λ v e. one_side v (end_side bounded ranked gate never_falls outside (marked.ends_holds v e));
        }
      where
        by_side : (u g : ℕ) → Memᴰ u (net.fanins g) → Dec (Walked net other t g) → behind_leaves g ≤ behind_leaves u + at_leaf u
        by_side u g feeds (yes w) =
            omega (arith, bit_yes (decide_walked ranked other t g) w, one_side u (leaf_or_walked w feeds))
        by_side u g feeds (no out) = omega (arith, bit_no (decide_walked ranked other t g) out)

    few_leaves : sum at_leaf net.nodes ≤ length other
    few_leaves = those_in (λ v. is (decide_member v other)) net.nodes other (λ v e. is_holds (decide_member v other) e)

    -- no more paths than leaves
    pub paths_at_most : {next prev : ℕ → ℕ} {number : ℕ} → Carries net area ends next prev number → number ≤ length other
    paths_at_most flow = omega (arith, few_leaves, no_more_paths flow marked.below cut_divides)

    -- with as many leaves as paths nothing behind the leaves was found
    pub behind_unfound : {next prev found_in found-out parent : ℕ → ℕ} {number last : ℕ} → Carries net area ends next prev number →
        Found net area next found_in found-out parent last → length other ≤ number → {v : ℕ} → Walked net other t v → 1 ≤ found_in v → ⊥
    behind_unfound flow found tight {v} w some =
        omega (
          arith,
          bit_yes (decide_walked ranked other t v) w,
          found_in_near flow marked.below found cut_divides (omega (arith, few_leaves)) v some,
        )

  -- The search's cut

  module _ {next prev found_in found-out parent : ℕ → ℕ} {number last : ℕ}
      (flow : Carries net area ends next prev number)
      (found : Found net area next found_in found-out parent last)
      (settled : (v : ℕ) → area v ≡ 1 → Settled net ends next found_in found-out v) where
    abbrev test : ℕ → Bool
    test v = is_leaf (found_in v) (found-out v)

    abbrev leaves : List ℕ
    leaves = those test net.nodes

    leaf_facts : {v : ℕ} → Memᴰ v leaves → (1 ≤ found_in v) × (found-out v ≡ 0)
    leaf_facts {v} m = leaf_found (found_in v) (found-out v) (those_hold test net.nodes m).1

    leaf_inside : {v : ℕ} → Memᴰ v leaves → area v ≡ 1
    leaf_inside {v} m = found.in_area v (leaf_facts m).0

    leaves_outside : Outside net lab t leaves
    leaves_outside v m = (marked.area_holds v (leaf_inside m)).outside

    pub leaves_count_lem : length leaves ≡ number
    leaves_count_lem = those_length test net.nodes ∙ leaves_are_paths flow marked.below found settled end_inside

    -- in the area, an out-state that was not found is that of a leaf, or the in-state was not found either
    leaf_or_far : (v : ℕ) → area v ≡ 1 → found-out v ≡ 0 → Memᴰ v leaves ⊎ (found_in v ≡ 0)
    leaf_or_far v inside none = by_found (ℕ_discrete (found_in v) 0)
      where
        by_found : Dec (found_in v ≡ 0) → Memᴰ v leaves ⊎ (found_in v ≡ 0)
        by_found (yes e) = inr e
        by_found (no some) =
            inl (those_all test v net.nodes (marked.below v inside) (found_leaf (found_in v) (found-out v) (omega arith) none))

    -- The walk: D, and the area's far side

    met_side : {u v : ℕ} → InD net lab t v ⊎ ((area v ≡ 1) × (found_in v ≡ 0)) → Memᴰ u (net.fanins v) →
        InD net lab t u ⊎ ((area u ≡ 1) × (found-out u ≡ 0))
    met_side {u} (inl deep) feeds =
        ⊎_elim (λ d. inl d)
        (λ (e : IsEnd net lab t u).
        let ended = marked.ends_all u e in inr (end_inside u ended, (settled u (end_inside u ended)).no_end ended))
        (deep_fanin bounded ranked gate never_falls deep feeds)
    met_side {u} {v} (inr (inside, far)) feeds =
        inr (marked.area_all u (area_closed bounded ranked gate never_falls (marked.area_holds v inside) feeds), out_none flow marked.below found settled end_inside inside feeds far)

    walk_side : {v : ℕ} → Walked net leaves t v → InD net lab t v ⊎ ((area v ≡ 1) × (found_in v ≡ 0))
    walk_side Walked.start = inl InD.self
    walk_side (Walked.step {v = v} {u = u} w m out) =
        ⊎_elim (λ (d : InD net lab t u). inl d)
        (λ (h : (area u ≡ 1) × (found-out u ≡ 0)). ⊎_elim (λ leaf. absurd (out leaf)) (λ (e : found_in u ≡ 0). inr (h.0, e)) (leaf_or_far u h.0 h.1))
        (met_side (walk_side w) m)

    leaves_stop : (v : ℕ) → Met net leaves t v → Input net v → Memᴰ v leaves
    leaves_stop v m low =
        ⊎_elim (λ (d : InD net lab t v). absurd (no_input_deep bounded ranked gate never_falls d low))
        (λ (h : (area v ≡ 1) × (found-out v ≡ 0)).
        ⊎_elim (λ leaf. leaf) (λ (e : found_in v ≡ 0). absurd (omega (arith, (settled v h.0).calm.source low))) (leaf_or_far v h.0 h.1))
        (met_side (walk_side m.walked) m.feeds)

    -- Each leaf is met: a path goes on from it to an end, on the far side.

    bound : (b : ℕ) × ((v : ℕ) → v < net.nodes → ranked.rank v < b)
    bound = common_bound ranked.rank net.nodes

    far_met : (fuel v : ℕ) → bound.0 ≤ ranked.rank v + fuel → 1 ≤ next v → found-out v ≡ 0 → Met net leaves t v
    far_met zero v enough used none =
        absurd (omega (arith, bound.1 v (marked.below v (flow.linked.inside v used))))
    far_met (suc fuel) v enough used none = by_link (next v) refl (λ g. far_met fuel g)
      where
        links : Linked net area next prev
        links = flow.linked

        by_link : (c : ℕ) → next v ≡ c → ((g : ℕ) → bound.0 ≤ ranked.rank g + fuel → 1 ≤ next g → found-out g ≡ 0 → Met net leaves t g) → Met net leaves t v
        by_link zero e further = absurd (omega arith)
        by_link (suc zero) e further = end_met bounded ranked gate never_falls leaves_outside (marked.ends_holds v (flow.stops v e))
        by_link (suc (suc g)) e further =
            let feeds = links.edge v g e in
            let goes = used_come links {v = g} (omega (arith, links.ahead v g e)) in
            let far = stays_far flow marked.below found settled end_inside v used none g e in
            let m = further g (omega (arith, ranked.rises v g feeds)) goes (out_far (links.inside g goes) goes far) in
            ⊎_elim (λ leaf. absurd (omega (arith, (leaf_facts leaf).0))) (λ (w : Walked net leaves t g). record { reader = g; walked = w; feeds = feeds })
            (leaf_or_walked m.walked m.feeds)
          where
            out_far : area g ≡ 1 → 1 ≤ next g → found_in g ≡ 0 → found-out g ≡ 0
            out_far inside goes far = by_found (ℕ_discrete (found-out g) 0)
              where
                by_found : Dec (found-out g ≡ 0) → found-out g ≡ 0
                by_found (yes z) = z
                by_found (no some) = absurd (omega (arith, (settled g inside).calm.own goes (omega arith)))

    leaf_goes : {v : ℕ} → Memᴰ v leaves → 1 ≤ next v
    leaf_goes {v} m = by_use (ℕ_discrete (next v) 0)
      where
        by_use : Dec (next v ≡ 0) → 1 ≤ next v
        by_use (no used) = omega arith
        by_use (yes idle) =
            absurd (let h = leaf_facts m in omega (arith, (settled v (leaf_inside m)).calm.through idle h.0))

    leaves_met : (v : ℕ) → Memᴰ v leaves → Met net leaves t v
    leaves_met v m = far_met bound.0 v (omega arith) (leaf_goes m) (leaf_facts m).1

    -- The cut

    leaves_cut : number ≤ k → Cut net k t leaves
    leaves_cut few =
        let s : Stops net k t leaves = record { stops = leaves_stop; few = omega (arith, leaves_count_lem) } in
        let (l, leaf, m) = leaf_met bounded ranked gate s in
        record {
          stops = leaves_stop;
          met = leaves_met;
          rising = those_rising test net.nodes;
          some = member_counts leaf;
          few = s.few;
        }

    larger_walk : {other : List ℕ} → Stops net k t other → Outside net lab t other → length other ≤ number → {v : ℕ} → Walked net other t v → Walked net leaves t v
    larger_walk s outside tight Walked.start = Walked.start
    larger_walk s outside tight (Walked.step {v = v} {u = u} w m out) =
        Walked.step (larger_walk s outside tight w) m
        (λ leaf. behind_unfound s outside flow found tight (Walked.step w m out) (leaf_facts leaf).0)

    pub search_least : number ≤ k → LeastCut net k lab t leaves
    search_least few =
        record {
          cut = leaves_cut few;
          outside = leaves_outside;
          fewest = λ other cut outside. omega (arith, leaves_count_lem, paths_at_most (cut_stops cut) outside flow);
          largest = λ other cut outside same v cone.
              record { walked = larger_walk (cut_stops cut) outside (omega (arith, leaves_count_lem)) cone.walked; gate = cone.gate };
        }
