-- Paths tell their links: of two pairs of links with the same paths each node has the same. A node that is used lies on the way from a start; the
-- starts are the paths' first nodes, and from there on both lead to the same node, step by step.
use Prim.Native.Nat.{ℕ, zero, suc, ◌+◌, ◌≤◌, ◌<◌}
use native.Mathlib.Decide.{ℕ_discrete}
use native.Mathlib.Omega.{arith}
use mathlib.Core.Path.{◌≡◌, refl, sym, ap, subst, ◌∙◌}
use mathlib.Core.List.Memᴰ
use mathlib.Core.List.{List, [], ◌∷◌, map, Memᴰ}
use lib.Dec.{eqb}
use borrow.Author.Tests.{eqb-true, eq-eqb}
use Rattle.theory.specs.paper.Net.{Net}
use Rattle.theory.specs.paper.Sound.{Ranked}
use Rattle.flow.specs.Numbers.{those}
use Rattle.flow.specs.Paths.{onward, follow, Links}
use Rattle.flow.proofs.Sums.{those_hold, those_all}
use Rattle.flow.proofs.Paths.{On}

head_same : {x y : ℕ} {l m : List ℕ} → x ∷ l ≡ y ∷ m → x ≡ y
head_same e = cc

tail_same : {x y : ℕ} {l m : List ℕ} → x ∷ l ≡ y ∷ m → l ≡ m
tail_same e = cc

not_nil : {x : ℕ} {l : List ℕ} → x ∷ l ≡ [] → ⊥
not_nil e = let z : ◌≡◌ {A = ℕ} 0 1 = cc in omega arith

member_map : (f : ℕ → List ℕ) {s : ℕ} {l : List ℕ} → Memᴰ s l → Memᴰ (f s) (map f l)
member_map f (Memᴰ.head e) = Memᴰ.head (ap f e)
member_map f (Memᴰ.tail m) = Memᴰ.tail (member_map f m)

-- with room for a node, what is followed begins with it
follow_head : (next : ℕ → ℕ) (room v : ℕ) → 1 ≤ room → (rest : List ℕ) × (follow next room v ≡ v ∷ rest)
unfolding follow
follow_head next zero v some = absurd (omega arith)
follow_head next (suc room) v some = (onward (next v) (follow next room), refl)

follow_tail : (next next' : ℕ → ℕ) (room v : ℕ) → follow next (suc room) v ≡ follow next' (suc room) v →
    onward (next v) (follow next room) ≡ onward (next' v) (follow next' room)
unfolding follow
follow_tail next next' room v e = tail_same e

-- two nodes from which the same is followed are the same
heads_same : (next next' : ℕ → ℕ) (room v w : ℕ) → 1 ≤ room → follow next room v ≡ follow next' room w → v ≡ w
heads_same next next' room v w some e =
    let (_, a) = follow_head next room v some in
    let (_, b) = follow_head next' room w some in
    head_same (sym a ∙ e ∙ b)

module _ {net : Net} {next prev : ℕ → ℕ} (l : Links net next prev) where
  used : {v : ℕ} → 1 ≤ prev v → 1 ≤ next v
  used {v} come =
      elim (ℕ_discrete (next v) 0) [
        | yes e ↦ omega (arith, l.idle v e)
        | no apart ↦ omega arith
      ]

  goes_on : {v g : ℕ} → next v ≡ suc (suc g) → 1 ≤ next g
  goes_on {v} {g} e = used {v = g} (omega (arith, l.ahead v g e))

  module _ (ranked : Ranked net) where
    rises : {v g : ℕ} → next v ≡ suc (suc g) → ranked.rank v < ranked.rank g
    rises {v} {g} e = ranked.rises v g (l.edge v g e)

    abbrev Started : ℕ → Type 0
    Started v = (s : ℕ) × (prev s ≡ 1) × On next s v

    -- v is a start, or was come to from a node of lower rank
    come_from : (v : ℕ) → 1 ≤ next v → ((u : ℕ) → ranked.rank u < ranked.rank v → 1 ≤ next u → Started u) → Started v
    come_from v taken before = by_link (prev v) refl
      where
        by_link : (c : ℕ) → prev v ≡ c → Started v
        by_link zero e = absurd (omega (arith, l.fresh v e))
        by_link (suc zero) e = (v, e, On.here)
        by_link (suc (suc u)) e =
            let link = l.back u v e in
            let (s, p, o) = before u (rises link) (omega arith) in
            (s, p, On.further o link)

    from_start : (n v : ℕ) → ranked.rank v ≤ n → 1 ≤ next v → Started v
    from_start zero v less taken = come_from v taken (λ u low _. absurd (omega arith))
    from_start (suc n) v less taken = come_from v taken (λ u low on. from_start n u (omega arith) on)

    -- where ranks are below `most`, there is room for the node that v leads to
    room_left : {most : ℕ} → ((v : ℕ) → v < net.nodes → ranked.rank v < most) → {room v g : ℕ} → most ≤ ranked.rank v + suc room →
        next v ≡ suc (suc g) → 1 ≤ room
    room_left low {v = v} {g = g} enough e = omega (arith, rises e, low g (l.below g (goes_on e)))

module _ {net : Net} (ranked : Ranked net) {most : ℕ} (low : (v : ℕ) → v < net.nodes → ranked.rank v < most) where
  module _ {next prev next' prev' : ℕ → ℕ} (a : Links net next prev) (b : Links net next' prev') where
    -- both use v, and the same follows
    record Shared (v : ℕ) : Type 0 where
      room : ℕ
      enough : most ≤ ranked.rank v + suc room
      alike : follow next (suc room) v ≡ follow next' (suc room) v
      taken : 1 ≤ next v
      taken' : 1 ≤ next' v

    shared_link : {v : ℕ} → Shared v → next v ≡ next' v
    shared_link {v} h = by_links (next v) (next' v) refl refl (follow_tail next next' h.room v h.alike)
      where
        begins : (f : ℕ → ℕ) (g : ℕ) → 1 ≤ h.room → follow f h.room g ≡ [] → ⊥
        begins f g some e = let (_, whole) = follow_head f h.room g some in not_nil (sym whole ∙ e)

        by_links : (c d : ℕ) → next v ≡ c → next' v ≡ d → onward c (follow next h.room) ≡ onward d (follow next' h.room) → next v ≡ next' v
        by_links zero d e f same = absurd (omega (arith, h.taken))
        by_links (suc zero) zero e f same = absurd (omega (arith, h.taken'))
        by_links (suc (suc g)) zero e f same = absurd (omega (arith, h.taken'))
        by_links (suc zero) (suc zero) e f same = omega arith
        by_links (suc zero) (suc (suc g')) e f same = absurd (begins next' g' (room_left b ranked low h.enough f) (sym same))
        by_links (suc (suc g)) (suc zero) e f same = absurd (begins next g (room_left a ranked low h.enough e) same)
        by_links (suc (suc g)) (suc (suc g')) e f same =
            omega (arith, heads_same next next' h.room g g' (room_left a ranked low h.enough e) same)

    step : {u w : ℕ} → Shared u → next u ≡ suc (suc w) → Shared w
    step {u} {w} h e = by_room h.room refl
      where
        e' : next' u ≡ suc (suc w)
        e' = sym (shared_link h) ∙ e

        rest : follow next h.room w ≡ follow next' h.room w
        rest =
            sym (ap (λ (c : ℕ). onward c (follow next h.room)) e) ∙ follow_tail next next' h.room u h.alike
            ∙ ap (λ (c : ℕ). onward c (follow next' h.room)) e'

        by_room : (room : ℕ) → h.room ≡ room → Shared w
        by_room zero none = absurd (omega (arith, room_left a ranked low h.enough e))
        by_room (suc room) some =
            record {
              room = room;
              enough = omega (arith, h.enough, rises a ranked e);
              alike = subst (λ (n : ℕ). follow next n w ≡ follow next' n w) some rest;
              taken = goes_on a e;
              taken' = goes_on b e';
            }

    module _ (fits : 1 ≤ net.inputs → most ≤ net.nodes)
        (same : map (follow next net.nodes) (those (λ v. eqb (prev v) 1) net.inputs)
        ≡ map (follow next' net.nodes) (those (λ v. eqb (prev' v) 1) net.inputs)) where
      start : {s : ℕ} → prev s ≡ 1 → Shared s
      start {s} p = by_room net.nodes refl
        where
          input : s < net.inputs
          input = a.starts s p

          taken : 1 ≤ next s
          taken = used a {v = s} (omega arith)

          -- the path from s is also one of the others
          other : (r : ℕ) × Memᴰ r (those (λ v. eqb (prev' v) 1) net.inputs) × (follow next' net.nodes r ≡ follow next net.nodes s)
          other =
              Memᴰ.of_map (follow next' net.nodes) (those (λ v. eqb (prev' v) 1) net.inputs)
              (subst (Memᴰ (follow next net.nodes s)) same
              (member_map (follow next net.nodes) (those_all (λ v. eqb (prev v) 1) s net.inputs input (eq-eqb (prev s) 1 p))))

          there : other.0 ≡ s
          there = heads_same next' next net.nodes other.0 s (omega (arith, a.below s taken)) other.2

          starts' : prev' other.0 ≡ 1
          starts' = eqb-true (prev' other.0) 1 (those_hold (λ v. eqb (prev' v) 1) net.inputs other.1).1

          by_room : (n : ℕ) → net.nodes ≡ n → Shared s
          by_room zero none = absurd (omega (arith, a.below s taken))
          by_room (suc room) some =
              record {
                room = room;
                enough = omega (arith, fits (omega (arith, input)));
                alike =
                    subst (λ (n : ℕ). follow next n s ≡ follow next' n s) some
                    (sym other.2 ∙ ap (follow next' net.nodes) there);
                taken = taken;
                taken' = used b {v = s} (omega (arith, starts', ap prev' there));
              }

      shared : {s v : ℕ} → prev s ≡ 1 → On next s v → Shared v
      shared p On.here = start p
      shared p (On.further o e) = step (shared p o) e

      leads : (v : ℕ) → 1 ≤ next v → next v ≡ next' v
      leads v taken = let (s, p, o) = from_start a ranked (ranked.rank v) v (omega arith) taken in shared_link (shared p o)

  module _ {next prev next' prev' : ℕ → ℕ} (a : Links net next prev) (b : Links net next' prev') (fits : 1 ≤ net.inputs → most ≤ net.nodes)
      (same : map (follow next net.nodes) (those (λ v. eqb (prev v) 1) net.inputs)
      ≡ map (follow next' net.nodes) (those (λ v. eqb (prev' v) 1) net.inputs)) where
    pub next_same : (v : ℕ) → next v ≡ next' v
    next_same v = by_use (next v) (next' v) refl refl
      where
        by_use : (c d : ℕ) → next v ≡ c → next' v ≡ d → next v ≡ next' v
        by_use zero zero e f = omega arith
        by_use zero (suc d) e f = sym (leads b a fits (sym same) v (omega arith))
        by_use (suc c) d e f = leads a b fits same v (omega arith)

    pub prev_same : (v : ℕ) → prev v ≡ prev' v
    prev_same v = by_use (prev v) (prev' v) refl refl
      where
        by_use : (c d : ℕ) → prev v ≡ c → prev' v ≡ d → prev v ≡ prev' v
        by_use (suc (suc u)) d e f = e ∙ sym (b.ahead u v (sym (next_same u) ∙ a.back u v e))
        by_use zero d e f = e ∙ sym (b.idle v (sym (next_same v) ∙ a.fresh v e))
        by_use (suc zero) zero e f = a.idle v (next_same v ∙ b.fresh v f) ∙ sym f
        by_use (suc zero) (suc zero) e f = omega arith
        by_use (suc zero) (suc (suc u)) e f = a.ahead u v (next_same u ∙ b.back u v f) ∙ sym f
