-- What a search says that found no end. Its leaves divide the area with equations at every node, so that there are as many leaves as paths. And all
-- that it found lies on the near side of every tight division, by induction on the number.
use Prim.Native.Nat.{ℕ, zero, suc, ◌+◌, ◌≤◌, ◌<◌}
use native.Mathlib.Omega.{arith}
use mathlib.Core.Path.{◌≡◌, refl, sym, ap, ◌∙◌}
use mathlib.Core.Bool.{cond}
use mathlib.Core.Logic.{◌⊎◌, inl, inr, ⊎_elim}
use mathlib.Core.List.{Memᴰ}
use Rattle.theory.specs.paper.Net.{Net}
use Rattle.flow.specs.Numbers.{sum}
use Rattle.flow.specs.Flow.{is_leaf, Linked, Carries, WayIn, WayOut, Found, Settled}
use Rattle.flow.proofs.Links.{used_come}
use Rattle.flow.proofs.Counting.{held, gone, Divides, as_many_paths, tight_at_node, tight_leaf}

abbrev pub unfound : ℕ → ℕ
unfound zero = 1
unfound (suc c) = 0

abbrev pub leaf : ℕ → ℕ → ℕ
leaf c d = cond (is_leaf c d) 1 0

out_unfound : (c d : ℕ) → d ≡ 0 → unfound c + leaf c d ≡ 1
out_unfound zero d e = refl
out_unfound (suc c) zero e = refl
out_unfound (suc c) (suc d) e = absurd (omega arith)

both_found : (c d : ℕ) → 1 ≤ c → 1 ≤ d → unfound c + leaf c d ≡ 0
both_found zero d p q = absurd (omega arith)
both_found (suc c) zero p q = absurd (omega arith)
both_found (suc c) (suc d) p q = refl

found_zero : (c : ℕ) → 1 ≤ c → unfound c ≡ 0
found_zero zero p = absurd (omega arith)
found_zero (suc c) p = refl

unfound_one : (c : ℕ) → c ≡ 0 → unfound c ≡ 1
unfound_one zero e = refl
unfound_one (suc c) e = absurd (omega arith)

unfound_most : (c : ℕ) → unfound c ≤ 1
unfound_most zero = omega arith
unfound_most (suc c) = omega arith

no_leaf : (c d : ℕ) → 1 ≤ d → leaf c d ≡ 0
no_leaf zero d p = refl
no_leaf (suc c) zero p = absurd (omega arith)
no_leaf (suc c) (suc d) p = refl

no_leaf_unfound : (c d : ℕ) → c ≡ 0 → leaf c d ≡ 0
no_leaf_unfound zero d e = refl
no_leaf_unfound (suc c) d e = absurd (omega arith)

some_or_none : (c : ℕ) → (c ≡ 0) ⊎ (1 ≤ c)
some_or_none zero = inl refl
some_or_none (suc c) = inr (omega arith)

-- A search without an end

module _ {net : Net} {area ends next prev found_in found-out parent : ℕ → ℕ} {number last : ℕ}
    (flow : Carries net area ends next prev number)
    (below : (v : ℕ) → area v ≡ 1 → v < net.nodes)
    (found : Found net area next found_in found-out parent last)
    (settled : (v : ℕ) → area v ≡ 1 → Settled net ends next found_in found-out v)
    (end_inside : (v : ℕ) → ends v ≡ 1 → area v ≡ 1) where
  abbrev far : ℕ → ℕ
  far v = unfound (found_in v)

  abbrev between : ℕ → ℕ
  between v = leaf (found_in v) (found-out v)

  -- behind an in-state that was not found no out-state was
  pub out_none : {u g : ℕ} → area g ≡ 1 → Memᴰ u (net.fanins g) → found_in g ≡ 0 → found-out u ≡ 0
  out_none {u} {g} inside feeds e =
      ⊎_elim (λ none. none) (λ some. absurd (omega (arith, (settled g inside).calm.fanin u feeds some))) (some_or_none (found-out u))

  pub search_divides : Divides net area ends far between
  search_divides =
      record {
        at_start = λ v inside low. found_zero (found_in v) ((settled v inside).calm.source low);
        at_edge = λ u g inside feeds. by_found u g inside feeds (some_or_none (found_in g));
        at_end = λ v e. omega (arith, out_unfound (found_in v) (found-out v) ((settled v (end_inside v e)).no_end e));
      }
    where
      by_found : (u g : ℕ) → area g ≡ 1 → Memᴰ u (net.fanins g) → (found_in g ≡ 0) ⊎ (1 ≤ found_in g) → far g ≤ far u + between u
      by_found u g inside feeds (inl none) =
          omega (arith, out_unfound (found_in u) (found-out u) (out_none inside feeds none), unfound_most (found_in g))
      by_found u g inside feeds (inr some) = omega (arith, found_zero (found_in g) some)

  search_at_node : (v : ℕ) → gone far (next v) ≡ held (far v + between v) (next v)
  search_at_node v = by_link (next v) refl
    where
      links : Linked net area next prev
      links = flow.linked

      by_found : (g : ℕ) → next v ≡ suc (suc g) → (found_in g ≡ 0) ⊎ (1 ≤ found_in g) → far g ≡ far v + between v
      by_found g e (inl none) =
          let inside = links.inside g (used_come links {v = g} (omega (arith, links.ahead v g e))) in
          unfound_one (found_in g) none ∙ sym (out_unfound (found_in v) (found-out v) (out_none inside (links.edge v g e) none))
      by_found g e (inr some) =
          let here = settled v (links.inside v (omega arith)) in
          let out = here.calm.back g e some in
          found_zero (found_in g) some ∙ sym (both_found (found_in v) (found-out v) (here.calm.own (omega arith) out) out)

      by_link : (c : ℕ) → next v ≡ c → gone far c ≡ held (far v + between v) c
      by_link zero e = refl
      by_link (suc zero) e =
          let ended = flow.stops v e in
          sym (out_unfound (found_in v) (found-out v) ((settled v (end_inside v ended)).no_end ended))
      by_link (suc (suc g)) e = by_found g e (some_or_none (found_in g))

  -- a leaf is used
  pub leaf_used : (v : ℕ) → held (between v) (next v) ≡ between v
  leaf_used v = by_link (next v) refl (some_or_none (found_in v))
    where
      by_link : (c : ℕ) → next v ≡ c → (found_in v ≡ 0) ⊎ (1 ≤ found_in v) → held (between v) c ≡ between v
      by_link (suc c) e _ = refl
      by_link zero e (inl none) = sym (no_leaf_unfound (found_in v) (found-out v) none)
      by_link zero e (inr some) = sym (no_leaf (found_in v) (found-out v) ((settled v (found.in_area v some)).calm.through e some))

  -- as many leaves as paths
  pub leaves_are_paths : sum between net.nodes ≡ number
  leaves_are_paths = as_many_paths flow below search_divides (λ v low. search_at_node v) (λ v low. leaf_used v)

  -- from a used node whose out-state was not found the link goes to the sink or to the far side
  pub stays_far : (v : ℕ) → 1 ≤ next v → found-out v ≡ 0 → (g : ℕ) → next v ≡ suc (suc g) → found_in g ≡ 0
  stays_far v used none g e =
      ⊎_elim (λ z. z) (λ some. absurd (omega (arith, (settled v (flow.linked.inside v used)).calm.back g e some))) (some_or_none (found_in g))

-- All that was found lies on the near side

module _ {net : Net} {area ends next prev x l found_in found-out parent : ℕ → ℕ} {number last : ℕ}
    (flow : Carries net area ends next prev number)
    (below : (v : ℕ) → area v ≡ 1 → v < net.nodes)
    (found : Found net area next found_in found-out parent last)
    (d : Divides net area ends x l)
    (tight : sum l net.nodes ≤ number) where
  mutual
    in_near : (m v : ℕ) → 1 ≤ found_in v → found_in v ≤ m → x v ≡ 0
    in_near zero v some most = absurd (omega arith)
    in_near (suc m) v some most =
        elim (found.in_way v some) [
          | WayIn.source low _ ↦ d.at_start v (found.in_area v some) low
          | WayIn.own _ used out less ↦ omega (arith, out_near m v out (omega arith))
          | WayIn.fanin u _ feeds out less ↦ omega (arith, d.at_edge u v (found.in_area v some) feeds, out_near m u out (omega arith))
        ]

    out_near : (m v : ℕ) → 1 ≤ found-out v → found-out v ≤ m → x v + l v ≡ 0
    out_near zero v some most = absurd (omega arith)
    out_near (suc m) v some most =
        let low = below v (found.out_area v some) in
        elim (found.out_way v some) [
          | WayOut.through e into less ↦
              omega (arith, in_near m v into (omega arith), tight_leaf flow below d tight v low, ap (held (l v)) e)
          | WayOut.back g e into less ↦
              omega (arith, in_near m g into (omega arith), tight_at_node flow below d tight v low, ap (held (x v + l v)) e, ap (gone x) e)
        ]

  pub found_in_near : (v : ℕ) → 1 ≤ found_in v → x v ≡ 0
  found_in_near v some = in_near (found_in v) v some (omega arith)
