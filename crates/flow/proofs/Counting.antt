-- Duality by counting. A division gives each node two numbers: x, 1 on the far side, and l, 1 at a leaf between the sides. At each node of a flow one
-- inequality holds; summed, they say that there are no more paths than leaves (weak duality). Where they are equations, there are as many
-- (strong duality), and where there are as many, they are equations (tight): no path comes back from the far side, and each leaf is used.
use Prim.Native.Nat.{ℕ, zero, suc, ◌+◌, ◌≤◌, ◌<◌}
use native.Mathlib.Omega.{arith}
use mathlib.Core.Path.{◌≡◌, refl, sym, ap, ◌∙◌}
use mathlib.Core.Bool.{Bool, cond}
use mathlib.Core.List.{Memᴰ}
use lib.Dec.{eqb}
use borrow.Author.Tests.{eq-eqb, ne_eqb}
use Rattle.theory.specs.paper.Net.{Net}
use Rattle.flow.specs.Numbers.{sum}
use Rattle.flow.specs.Flow.{one, Linked, Carries}
use Rattle.flow.proofs.Sums.{sum_same, sum_at_most, sum_tight, sum_add, sum_zero, sum_pick, sum_swap}
use Rattle.flow.proofs.Links.{used_come}

-- what x is at the node that a link leads to
abbrev led : (ℕ → ℕ) → ℕ → ℕ
led x zero = 0
led x (suc zero) = 0
led x (suc (suc g)) = x g

-- w, where the link comes from a node
abbrev come : ℕ → ℕ → ℕ
come w zero = 0
come w (suc zero) = 0
come w (suc (suc v)) = w

-- w, where the node is used
abbrev pub held : ℕ → ℕ → ℕ
held w zero = 0
held w (suc c) = w

-- what x is at the node that a link leads to, and 1 at the sink
abbrev pub gone : (ℕ → ℕ) → ℕ → ℕ
gone x zero = 0
gone x (suc zero) = 1
gone x (suc (suc g)) = x g

gone_split : (x : ℕ → ℕ) (c : ℕ) → gone x c ≡ one c + led x c
gone_split x zero = refl
gone_split x (suc zero) = refl
gone_split x (suc (suc g)) = omega arith

come_split : (c : ℕ) → held 1 c ≡ one c + come 1 c
come_split zero = refl
come_split (suc zero) = refl
come_split (suc (suc v)) = refl

held_split : (w z c : ℕ) → held (w + z) c ≡ held w c + held z c
held_split w z zero = refl
held_split w z (suc c) = refl

held_less : (w c : ℕ) → held w c ≤ w
held_less w zero = omega arith
held_less w (suc c) = omega arith

-- used or not is the same of both links
held_both : (w c d : ℕ) → (c ≡ 0 → d ≡ 0) → (d ≡ 0 → c ≡ 0) → held w c ≡ held w d
held_both w zero zero f g = refl
held_both w zero (suc d) f g = absurd (omega (arith, f refl))
held_both w (suc c) zero f g = absurd (omega (arith, g refl))
held_both w (suc c) (suc d) f g = refl

-- x at g, where the link leads there
abbrev hit : ℕ → ℕ → ℕ → ℕ
hit c g w = cond (eqb c (suc (suc g))) w 0

hit_there : (c g w : ℕ) → c ≡ suc (suc g) → hit c g w ≡ w
hit_there c g w e = ap (λ (b : Bool). cond b w 0) (eq-eqb c (suc (suc g)) e)

hit_elsewhere : (c g w : ℕ) → (c ≡ suc (suc g) → ⊥) → hit c g w ≡ 0
hit_elsewhere c g w apart = ap (λ (b : Bool). cond b w 0) (ne_eqb c (suc (suc g)) apart)

module _ {net : Net} {area next prev : ℕ → ℕ} (l : Linked net area next prev) (below : (v : ℕ) → area v ≡ 1 → v < net.nodes) where
  abbrev all : (ℕ → ℕ) → ℕ
  all f = sum f net.nodes

  link_below : {v g : ℕ} → next v ≡ suc (suc g) → g < net.nodes
  link_below {v} {g} e = below g (l.inside g (used_come l {v = g} (omega (arith, l.ahead v g e))))

  row : (x : ℕ → ℕ) (v c : ℕ) → next v ≡ c → all (λ g. hit c g (x g)) ≡ led x c
  row x v zero e = sum_zero (λ g. hit 0 g (x g)) net.nodes (λ g low. hit_elsewhere 0 g (x g) (λ z. omega arith))
  row x v (suc zero) e = sum_zero (λ g. hit 1 g (x g)) net.nodes (λ g low. hit_elsewhere 1 g (x g) (λ z. omega arith))
  row x v (suc (suc h)) e =
      sum_pick (λ g. hit (suc (suc h)) g (x g)) net.nodes h (link_below e) (λ g apart. hit_elsewhere (suc (suc h)) g (x g) (λ z. apart (omega arith)))
      ∙ hit_there (suc (suc h)) h (x h) refl

  column : (w g c : ℕ) → prev g ≡ c → all (λ v. hit (next v) g w) ≡ come w c
  column w g zero e = sum_zero (λ v. hit (next v) g w) net.nodes (λ v low. hit_elsewhere (next v) g w (λ z. omega (arith, l.ahead v g z)))
  column w g (suc zero) e = sum_zero (λ v. hit (next v) g w) net.nodes (λ v low. hit_elsewhere (next v) g w (λ z. omega (arith, l.ahead v g z)))
  column w g (suc (suc u)) e =
      let feeds = l.back u g e in
      sum_pick (λ v. hit (next v) g w) net.nodes u (below u (l.inside u (omega arith)))
      (λ v apart. hit_elsewhere (next v) g w (λ z. apart (omega (arith, l.ahead v g z))))
      ∙ hit_there (next u) g w feeds

  -- what is sent along the links is what comes
  conserve : (x : ℕ → ℕ) → all (λ v. led x (next v)) ≡ all (λ g. come (x g) (prev g))
  conserve x =
      sym (sum_same (λ v. all (λ g. hit (next v) g (x g))) (λ v. led x (next v)) net.nodes (λ v low. row x v (next v) refl))
      ∙ sum_swap (λ v g. hit (next v) g (x g)) net.nodes net.nodes
      ∙ sum_same (λ g. all (λ v. hit (next v) g (x g))) (λ g. come (x g) (prev g)) net.nodes (λ g low. column (x g) g (prev g) refl)

  -- as many paths stop as start
  pub stops_are_starts : all (λ v. one (next v)) ≡ all (λ v. one (prev v))
  stops_are_starts =
      let sent = sum_add (λ v. one (next v)) (λ v. led (λ _. 1) (next v)) net.nodes in
      let came = sum_add (λ v. one (prev v)) (λ v. come 1 (prev v)) net.nodes in
      let used : all (λ v. one (next v) + led (λ _. 1) (next v)) ≡ all (λ v. one (prev v) + come 1 (prev v)) =
      sum_same (λ v. one (next v) + led (λ _. 1) (next v)) (λ v. one (prev v) + come 1 (prev v)) net.nodes
      (λ v low. sym (gone_split (λ _. 1) (next v)) ∙ always v (next v) refl ∙ held_both 1 (next v) (prev v) (l.idle v) (l.fresh v) ∙ come_split (prev v)) in
      omega (arith, conserve (λ _. 1))
    where
      always : (v c : ℕ) → next v ≡ c → gone (λ _. 1) c ≡ held 1 c
      always v zero e = refl
      always v (suc zero) e = refl
      always v (suc (suc g)) e = refl

-- A division of the area for these ends.
pub record Divides (net : Net) (area ends x l : ℕ → ℕ) : Type 0 where
  pub at_start : (v : ℕ) → area v ≡ 1 → v < net.inputs → x v ≡ 0
  pub at_edge : (u g : ℕ) → area g ≡ 1 → Memᴰ u (net.fanins g) → x g ≤ x u + l u
  pub at_end : (v : ℕ) → ends v ≡ 1 → 1 ≤ x v + l v

module _ {net : Net} {area ends next prev x l : ℕ → ℕ} {number : ℕ} (flow : Carries net area ends next prev number)
    (below : (v : ℕ) → area v ≡ 1 → v < net.nodes) (d : Divides net area ends x l) where
  abbrev over : (ℕ → ℕ) → ℕ
  over f = sum f net.nodes

  -- the inequality at a node
  at_node : (v : ℕ) → gone x (next v) ≤ held (x v + l v) (next v)
  at_node v = by_link (next v) refl
    where
      by_link : (c : ℕ) → next v ≡ c → gone x c ≤ held (x v + l v) c
      by_link zero e = omega arith
      by_link (suc zero) e = d.at_end v (flow.stops v e)
      by_link (suc (suc g)) e =
          let links = flow.linked in
          d.at_edge v g (links.inside g (used_come links {v = g} (omega (arith, links.ahead v g e)))) (links.edge v g e)

  -- what comes from nodes is what the used nodes have, since starts have nothing
  comes_used : over (λ g. come (x g) (prev g)) ≡ over (λ g. held (x g) (next g))
  comes_used =
      sum_same (λ g. come (x g) (prev g)) (λ g. held (x g) (next g)) net.nodes
      (λ g low. by_link g (prev g) refl ∙ held_both (x g) (prev g) (next g) (flow.linked.fresh g) (flow.linked.idle g))
    where
      by_link : (g c : ℕ) → prev g ≡ c → come (x g) c ≡ held (x g) c
      by_link g zero e = refl
      by_link g (suc zero) e =
          sym (d.at_start g (flow.linked.inside g (used_come flow.linked {v = g} (omega arith))) (flow.starts g e))
      by_link g (suc (suc v)) e = refl

  -- the left sides add up to the paths and the far side's used nodes
  left_sum : over (λ v. gone x (next v)) ≡ number + over (λ v. held (x v) (next v))
  left_sum =
      let split = sum_same (λ v. gone x (next v)) (λ v. one (next v) + led x (next v)) net.nodes (λ v low. gone_split x (next v)) in
      let added = sum_add (λ v. one (next v)) (λ v. led x (next v)) net.nodes in
      let moved = conserve flow.linked below x in
      let many = stops_are_starts flow.linked below in
      omega (arith, comes_used, flow.paths)

  -- the right sides to the far side's used nodes and the used leaves
  right_sum : over (λ v. held (x v + l v) (next v)) ≡ over (λ v. held (x v) (next v)) + over (λ v. held (l v) (next v))
  right_sum =
      sum_same (λ v. held (x v + l v) (next v)) (λ v. held (x v) (next v) + held (l v) (next v)) net.nodes (λ v low. held_split (x v) (l v) (next v))
      ∙ sum_add (λ v. held (x v) (next v)) (λ v. held (l v) (next v)) net.nodes

  sides : over (λ v. gone x (next v)) ≤ over (λ v. held (x v + l v) (next v))
  sides = sum_at_most (λ v. gone x (next v)) (λ v. held (x v + l v) (next v)) net.nodes (λ v low. at_node v)

  used_leaves : over (λ v. held (l v) (next v)) ≤ over l
  used_leaves = sum_at_most (λ v. held (l v) (next v)) l net.nodes (λ v low. held_less (l v) (next v))

  -- weak duality
  pub no_more_paths : number ≤ over l
  no_more_paths = omega (arith, left_sum, right_sum, sides, used_leaves)

  -- strong duality
  pub as_many_paths : ((v : ℕ) → v < net.nodes → gone x (next v) ≡ held (x v + l v) (next v)) →
      ((v : ℕ) → v < net.nodes → held (l v) (next v) ≡ l v) → over l ≡ number
  as_many_paths equal leaves =
      omega (
        arith,
        left_sum,
        right_sum,
        sum_same (λ v. gone x (next v)) (λ v. held (x v + l v) (next v)) net.nodes equal,
        sum_same (λ v. held (l v) (next v)) l net.nodes leaves,
      )

  -- tight divisions
  module _ (tight : over l ≤ number) where
    pub tight_at_node : (v : ℕ) → v < net.nodes → gone x (next v) ≡ held (x v + l v) (next v)
    tight_at_node =
        sum_tight (λ v. gone x (next v)) (λ v. held (x v + l v) (next v)) net.nodes (λ v low. at_node v)
        (omega (arith, left_sum, right_sum, sides, used_leaves))

    pub tight_leaf : (v : ℕ) → v < net.nodes → held (l v) (next v) ≡ l v
    tight_leaf =
        sum_tight (λ v. held (l v) (next v)) l net.nodes (λ v low. held_less (l v) (next v))
        (omega (arith, left_sum, right_sum, sides))
