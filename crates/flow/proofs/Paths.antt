-- A flow's paths are evidence. From an input whose link comes from the source `next` leads to an end, and ranks rise on the way, so no node is twice on a
-- path; and no node is on two paths, since `prev` leads back from it to one start.
use Prim.Native.Nat.{ℕ, zero, suc, ◌+◌, ◌≤◌, ◌<◌}
use native.Mathlib.Omega.{arith}
use mathlib.Core.Path.{◌≡◌, refl, sym, ap, subst, ◌∙◌}
use mathlib.Core.Bool.{Bool, cond}
use mathlib.Core.Logic.{◌⊎◌, inl, inr, ⊎_elim}
use mathlib.Core.List.{List, [], ◌∷◌, map, Memᴰ}
use lib.ListN.{length, length-map}
use lib.Dec.{eqb}
use borrow.Author.Tests.{eqb-true, ne_eqb}
use Rattle.theory.specs.paper.Net.{Net}
use Rattle.theory.specs.paper.Sound.{Ranked}
use Rattle.theory.specs.paper.Lists.{NoRepeats}
use Rattle.theory.specs.paper.Evidence.{Run, TruePath, joined, Evidence}
use Rattle.theory.proofs.Members.{rising_no_repeats, no_repeats_join}
use Rattle.flow.specs.Numbers.{those}
use Rattle.flow.specs.Flow.{one, Linked, Carries}
use Rattle.area.specs.Area.{InArea}
use Rattle.flow.specs.Area.{Marked}
use Rattle.flow.specs.Paths.{onward, follow}
use Rattle.flow.proofs.Sums.{sum_front, sum_same, those_length, those_hold, those_rising}
use Rattle.flow.proofs.Links.{used_come}

joined_member : (f : ℕ → List ℕ) {w : ℕ} (l : List ℕ) → Memᴰ w (joined (map f l)) → (s : ℕ) × Memᴰ s l × Memᴰ w (f s)
unfolding joined
joined_member f [] m = absurd (mathlib.Core.List.Memᴰ.not-nil m)
joined_member f {w} (s ∷ l) m =
    ⊎_elim (λ (here : Memᴰ w (f s)). (s, mathlib.Core.List.Memᴰ.head refl, here))
    (λ (late : Memᴰ w (joined (map f l))). let (r, at, on) = joined_member f l late in (r, mathlib.Core.List.Memᴰ.tail at, on))
    (mathlib.Core.List.Memᴰ.append_cases (f s) m)

-- w lies on the way from s along `next`
pub data On (next : ℕ → ℕ) (s : ℕ) : ℕ → Type 0 where
  here : On next s s
  further : {u w : ℕ} → On next s u → next u ≡ suc (suc w) → On next s w

on_from : {next : ℕ → ℕ} {v g w : ℕ} → next v ≡ suc (suc g) → On next g w → On next v w
on_from e On.here = On.further On.here e
on_from e (On.further o f) = On.further (on_from e o) f

-- a step of `follow`
follow_more : (next : ℕ → ℕ) (room v : ℕ) {w : ℕ} → Memᴰ w (onward (next v) (follow next room)) →
    (g : ℕ) × (next v ≡ suc (suc g)) × Memᴰ w (follow next room g)
follow_more next room v {w} m = by_link (next v) refl m
  where
    by_link : (c : ℕ) → next v ≡ c → Memᴰ w (onward c (follow next room)) → (g : ℕ) × (next v ≡ suc (suc g)) × Memᴰ w (follow next room g)
    by_link zero e m = absurd (mathlib.Core.List.Memᴰ.not-nil m)
    by_link (suc zero) e m = absurd (mathlib.Core.List.Memᴰ.not-nil m)
    by_link (suc (suc g)) e m = (g, e, m)

follow_on : (next : ℕ → ℕ) (room v : ℕ) {w : ℕ} → Memᴰ w (follow next room v) → On next v w
unfolding follow
follow_on next zero v m = absurd (mathlib.Core.List.Memᴰ.not-nil m)
follow_on next (suc room) v {w} m =
    ⊎_elim (λ (e : w ≡ v). subst (On next v) (sym e) On.here)
    (λ (late : Memᴰ w (onward (next v) (follow next room))).
    let (g, e, rest) = follow_more next room v late in on_from e (follow_on next room g rest))
    (mathlib.Core.List.Memᴰ.cases_cons m)

module _ {net : Net} {lab : ℕ → ℕ} {t : ℕ} (ranked : Ranked net) {area ends next prev : ℕ → ℕ} {number : ℕ} (marked : Marked net lab t area ends)
    (flow : Carries net area ends next prev number) where
  links : Linked net area next prev
  links = flow.linked

  -- Starts

  on_come : {s w : ℕ} → On next s w → (w ≡ s) ⊎ ((u : ℕ) × (prev w ≡ suc (suc u)) × On next s u)
  on_come On.here = inl refl
  on_come (On.further {u = u} {w = w} o e) = inr (u, links.ahead u w e, o)

  one_start : {s r w : ℕ} → On next s w → On next r w → prev s ≡ 1 → prev r ≡ 1 → s ≡ r
  one_start {s} {r} On.here o p q =
      ⊎_elim (λ (e : s ≡ r). e) (λ (h : (u : ℕ) × (prev s ≡ suc (suc u)) × On next r u). absurd (omega (arith, h.1))) (on_come o)
  one_start {s} {r} (On.further {u = u} {w = w} o e) other p q =
      ⊎_elim (λ (same : w ≡ r). absurd (omega (arith, ap prev same, links.ahead u w e)))
      (λ (h : (x : ℕ) × (prev w ≡ suc (suc x)) × On next r x).
      one_start o (subst (On next r) (omega (arith, h.1, links.ahead u w e)) h.2) p q)
      (on_come other)

  -- Ranks

  on_rank : {v w : ℕ} → On next v w → ranked.rank v ≤ ranked.rank w
  on_rank On.here = omega arith
  on_rank (On.further {u = u} {w = w} o e) = omega (arith, on_rank o, ranked.rises u w (links.edge u w e))

  follow_apart : (room v : ℕ) → NoRepeats (follow next room v)
  unfolding follow
  follow_apart zero v = NoRepeats.none
  follow_apart (suc room) v =
      NoRepeats.more {v = v} {vs = onward (next v) (follow next room)}
      (λ m. let (g, e, rest) = follow_more next room v m in omega (arith, on_rank (follow_on next room g rest), ranked.rises v g (links.edge v g e)))
      (tail (next v) (λ g. follow_apart room g))
    where
      tail : (c : ℕ) → ((g : ℕ) → NoRepeats (follow next room g)) → NoRepeats (onward c (follow next room))
      tail zero rest = NoRepeats.none
      tail (suc zero) rest = NoRepeats.none
      tail (suc (suc g)) rest = rest g

  paths_apart : (room : ℕ) {l : List ℕ} → NoRepeats l → ((s : ℕ) → Memᴰ s l → prev s ≡ 1) → NoRepeats (joined (map (follow next room) l))
  unfolding joined
  paths_apart room NoRepeats.none starts = NoRepeats.none
  paths_apart room (NoRepeats.more {v = s} {vs = l} new rest) starts =
      no_repeats_join (follow_apart room s) (paths_apart room rest (λ r m. starts r (mathlib.Core.List.Memᴰ.tail m)))
      (λ w here there.
      let (r, at, on) = joined_member (follow next room) l there in
      new
      (mathlib.Core.List.Memᴰ.cast (one_start (follow_on next room s here) (follow_on next room r on) (starts s (mathlib.Core.List.Memᴰ.head refl)) (starts r (mathlib.Core.List.Memᴰ.tail at))) at))

  -- One path

  on_goes : {v w : ℕ} → 1 ≤ next v → On next v w → 1 ≤ next w
  on_goes used On.here = used
  on_goes used (On.further {u = u} {w = w} o e) = used_come links {v = w} (omega (arith, links.ahead u w e))

  module _ {most : ℕ} (low : (v : ℕ) → v < net.nodes → ranked.rank v < most) where
    rank_low : {v : ℕ} → 1 ≤ next v → ranked.rank v < most
    rank_low {v} used = low v (marked.below v (links.inside v used))

    run_from_lem : (room v : ℕ) → 1 ≤ next v → ((g : ℕ) → next v ≡ suc (suc g) → Run net lab t (v ∷ follow next room g)) →
        Run net lab t (v ∷ onward (next v) (follow next room))
    run_from_lem room v used rest = by_link (next v) refl
      where
        by_link : (c : ℕ) → next v ≡ c → Run net lab t (v ∷ onward c (follow next room))
        by_link zero e = absurd (omega arith)
        by_link (suc zero) e = let stop = marked.ends_holds v (flow.stops v e) in Run.last stop.deep stop.feeds
        by_link (suc (suc g)) e = rest g e

    goes_on : {v g : ℕ} → next v ≡ suc (suc g) → 1 ≤ next g
    goes_on {v} {g} e = used_come links {v = g} (omega (arith, links.ahead v g e))

    follow_runs : (room v : ℕ) → most ≤ ranked.rank v + suc room → 1 ≤ next v → Run net lab t (v ∷ onward (next v) (follow next room))
    unfolding follow
    follow_runs zero v enough used =
        run_from_lem zero v used (λ g e. absurd (omega (arith, rank_low (goes_on e), ranked.rises v g (links.edge v g e))))
    follow_runs (suc room) v enough used =
        run_from_lem (suc room) v used
        (λ g e. Run.more (links.edge v g e) (follow_runs room g (omega (arith, ranked.rises v g (links.edge v g e))) (goes_on e)))

    follow_true : (s : ℕ) → prev s ≡ 1 → most ≤ ranked.rank s + net.nodes → TruePath net lab t (follow next net.nodes s)
    unfolding follow
    follow_true s p enough = by_room net.nodes enough
      where
        used : 1 ≤ next s
        used = used_come links {v = s} (omega arith)

        inside : (room w : ℕ) → Memᴰ w (follow next room s) → InArea net lab t w
        inside room w m = marked.area_holds w (links.inside w (on_goes used (follow_on next room s m)))

        by_room : (room : ℕ) → most ≤ ranked.rank s + room → TruePath net lab t (follow next room s)
        by_room zero short = absurd (omega (arith, rank_low used))
        by_room (suc room) short =
            record {
              first = s;
              rest = onward (next s) (follow next room);
              whole = refl;
              starts = flow.starts s p;
              runs = follow_runs room s short used;
              behind = λ w m. (inside (suc room) w m).behind;
              outside = λ w m. (inside (suc room) w m).outside;
            }

    -- Evidence

    abbrev test : ℕ → Bool
    test v = eqb (prev v) 1

    test_one : (v : ℕ) → cond (test v) 1 0 ≡ one (prev v)
    test_one v = by_link (prev v) refl
      where
        by_link : (c : ℕ) → prev v ≡ c → cond (eqb c 1) 1 0 ≡ one c
        by_link zero e = refl
        by_link (suc zero) e = refl
        by_link (suc (suc c)) e = ap (λ (b : Bool). cond b 1 0) (ne_eqb (suc (suc c)) 1 (λ z. omega arith))

    pub starts_count : net.inputs ≤ net.nodes → length (those test net.inputs) ≡ number
    starts_count span =
        those_length test net.inputs
        ∙ sum_same (λ v. cond (test v) 1 0) (λ v. one (prev v)) net.inputs (λ v low. test_one v)
        ∙ sym (sum_front (λ v. one (prev v)) net.inputs net.nodes span (λ v high. none v high (prev v) refl))
        ∙ flow.paths
      where
        none : (v : ℕ) → net.inputs ≤ v → (c : ℕ) → prev v ≡ c → one c ≡ 0
        none v high zero e = refl
        none v high (suc zero) e = absurd (omega (arith, flow.starts v e))
        none v high (suc (suc c)) e = refl

    pub flow_evidence : {k : ℕ} → number ≡ suc k → net.inputs ≤ net.nodes → (1 ≤ net.inputs → most ≤ net.nodes) →
        Evidence net k lab t (map (follow next net.nodes) (those test net.inputs))
    flow_evidence {k} many span enough =
        record {
          count = length-map (those test net.inputs) (follow next net.nodes) ∙ starts_count span ∙ many;
          each = λ path m. each path (mathlib.Core.List.Memᴰ.of_map (follow next net.nodes) (those test net.inputs) m);
          apart = paths_apart net.nodes (rising_no_repeats (those_rising test net.inputs)) (λ s m. (started m).1);
        }
      where
        started : {s : ℕ} → Memᴰ s (those test net.inputs) → (s < net.inputs) × (prev s ≡ 1)
        started {s} m = let h = those_hold test net.inputs m in (h.0, eqb-true (prev s) 1 h.1)

        each : (path : List ℕ) → (s : ℕ) × Memᴰ s (those test net.inputs) × (follow next net.nodes s ≡ path) → TruePath net lab t path
        each path (s, m, e) =
            let h = started m in
            subst (TruePath net lab t) e (follow_true s h.1 (let fits = enough (omega (arith, h.0)) in omega arith))
