-- The three stores that change a flow keep its links: to free the out-state of a node, to link it to a loose node, and to drop a node that only
-- stands between the source and the sink. Freeing adds one start, the others take one away.
use Prim.Native.Nat.{ℕ, suc, ◌≤◌, ◌<◌}
use native.Mathlib.Decide.{ℕ_discrete}
use native.Mathlib.Omega.{arith}
use mathlib.Core.Path.{◌≡◌, refl, sym, ap, subst, ◌∙◌}
use mathlib.Core.Logic.{◌⊎◌, inl, inr, ⊎_elim}
use mathlib.Core.List.{Memᴰ}
use Rattle.storage.specs.Entries.{Upd}
use Rattle.theory.specs.paper.Net.{Net}
use Rattle.flow.specs.Numbers.{sum}
use Rattle.flow.specs.Flow.{one, Linked, Freed}
use Rattle.flow.proofs.Sums.{sum_more}

-- the number of starts after a store of `prev`
module _ {prev prev' : ℕ → ℕ} {n i x : ℕ} (low : i < n) (stored : Upd prev i x prev') where
  abbrev ones : (ℕ → ℕ) → ℕ
  ones f = sum (λ v. one (f v)) n

  pub start_more : one (prev i) ≡ 0 → one x ≡ 1 → ones prev' ≡ suc (ones prev)
  start_more was now =
      sum_more (λ v. one (prev v)) (λ v. one (prev' v)) n i low (omega (arith, ap one stored.here)) (λ j apart. ap one (stored.there j apart))

  pub start_less : one (prev i) ≡ 1 → one x ≡ 0 → suc (ones prev') ≡ ones prev
  start_less was now =
      sym
      (sum_more (λ v. one (prev' v)) (λ v. one (prev v)) n i low (omega (arith, ap one stored.here)) (λ j apart. sym (ap one (stored.there j apart))))

module _ {net : Net} {area next prev : ℕ → ℕ} (l : Linked net area next prev) where
  -- a used node was come to
  pub used_come : {v : ℕ} → 1 ≤ prev v → 1 ≤ next v
  used_come {v} come = by_use (ℕ_discrete (next v) 0)
    where
      by_use : Dec (next v ≡ 0) → 1 ≤ next v
      by_use (yes e) = omega (arith, l.idle v e)
      by_use (no apart) = omega arith

module _ {net : Net} {area next prev next' prev' : ℕ → ℕ} (l : Linked net area next prev) where
  -- Freeing

  module _ {v loose : ℕ} (f : Freed next prev v loose next' prev') where
    -- what stood at the loose node before: nothing, or v
    was_before : (prev loose ≡ 0) ⊎ (prev loose ≡ suc (suc v))
    was_before = ⊎_elim (λ (h : (next v ≡ 0) × (loose ≡ v)). inl (ap prev h.1 ∙ l.idle v h.0)) (λ (h : next v ≡ suc (suc loose)). inr (l.ahead v loose h)) f.freed

    free_idle : (w : ℕ) → next' w ≡ 0 → prev' w ≡ 0
    free_idle w e = by_place (ℕ_discrete w v) (ℕ_discrete w loose)
      where
        by_place : Dec (w ≡ v) → Dec (w ≡ loose) → prev' w ≡ 0
        by_place (yes same) _ = absurd (omega (arith, ap next' same, f.out.here))
        by_place (no apart) (yes same) =
            ⊎_elim (λ (h : (next v ≡ 0) × (loose ≡ v)). absurd (apart (same ∙ h.1)))
            (λ (h : next v ≡ suc (suc loose)).
            absurd (omega (arith, f.out.there w apart, ap prev same, l.idle w (sym (f.out.there w apart) ∙ e), l.ahead v loose h)))
            f.freed
        by_place (no apart) (no far) = f.«in».there w far ∙ l.idle w (sym (f.out.there w apart) ∙ e)

    free_fresh : (w : ℕ) → prev' w ≡ 0 → next' w ≡ 0
    free_fresh w e = by_place (ℕ_discrete w v) (ℕ_discrete w loose)
      where
        by_place : Dec (w ≡ v) → Dec (w ≡ loose) → next' w ≡ 0
        by_place _ (yes same) = absurd (omega (arith, ap prev' same, f.«in».here))
        by_place (no apart) (no far) = f.out.there w apart ∙ l.fresh w (sym (f.«in».there w far) ∙ e)
        by_place (yes same) (no far) =
            ⊎_elim (λ (h : (next v ≡ 0) × (loose ≡ v)). absurd (far (same ∙ sym h.1)))
            (λ (h : next v ≡ suc (suc loose)).
            absurd (omega (arith, ap next same, l.fresh w (sym (f.«in».there w far) ∙ e))))
            f.freed

    free_ahead : (w g : ℕ) → next' w ≡ suc (suc g) → prev' g ≡ suc (suc w)
    free_ahead w g e = by_place (ℕ_discrete w v) (ℕ_discrete g loose)
      where
        by_place : Dec (w ≡ v) → Dec (g ≡ loose) → prev' g ≡ suc (suc w)
        by_place (yes same) _ = absurd (omega (arith, ap next' same, f.out.here))
        by_place (no apart) (no far) = f.«in».there g far ∙ l.ahead w g (sym (f.out.there w apart) ∙ e)
        by_place (no apart) (yes same) =
            let was = l.ahead w g (sym (f.out.there w apart) ∙ e) in
            ⊎_elim (λ (h : prev loose ≡ 0). absurd (omega (arith, ap prev same)))
            (λ (h : prev loose ≡ suc (suc v)). absurd (apart (omega (arith, ap prev same)))) was_before

    free_back : (w g : ℕ) → prev' g ≡ suc (suc w) → next' w ≡ suc (suc g)
    free_back w g e = by_place (ℕ_discrete w v) (ℕ_discrete g loose)
      where
        by_place : Dec (w ≡ v) → Dec (g ≡ loose) → next' w ≡ suc (suc g)
        by_place _ (yes same) = absurd (omega (arith, ap prev' same, f.«in».here))
        by_place (no apart) (no far) = f.out.there w apart ∙ l.back w g (sym (f.«in».there g far) ∙ e)
        by_place (yes same) (no far) =
            let was = l.back w g (sym (f.«in».there g far) ∙ e) in
            ⊎_elim (λ (h : (next v ≡ 0) × (loose ≡ v)). absurd (omega (arith, ap next same, h.0)))
            (λ (h : next v ≡ suc (suc loose)). absurd (far (omega (arith, ap next same)))) f.freed

    pub free_linked : area v ≡ 1 → Linked net area next' prev'
    free_linked inside =
        record {
          inside = λ w used. by_place w used (ℕ_discrete w v);
          idle = free_idle;
          fresh = free_fresh;
          ahead = free_ahead;
          back = free_back;
          edge = λ w g e. by_edge w g e (ℕ_discrete w v);
        }
      where
        by_place : (w : ℕ) → 1 ≤ next' w → Dec (w ≡ v) → area w ≡ 1
        by_place w used (yes same) = ap area same ∙ inside
        by_place w used (no apart) = l.inside w (omega (arith, f.out.there w apart))

        by_edge : (w g : ℕ) → next' w ≡ suc (suc g) → Dec (w ≡ v) → Memᴰ w (net.fanins g)
        by_edge w g e (yes same) = absurd (omega (arith, ap next' same, f.out.here))
        by_edge w g e (no apart) = l.edge w g (sym (f.out.there w apart) ∙ e)

    pub free_starts : {n : ℕ} → loose < n → sum (λ w. one (prev' w)) n ≡ suc (sum (λ w. one (prev w)) n)
    free_starts low = start_more low f.«in» (⊎_elim (λ h. ap one h) (λ h. ap one h) was_before) refl

  -- Linking v, which goes to the sink, to the loose node x

  module _ {v x : ℕ} (goes : next v ≡ 1) (comes : prev x ≡ 1) (out : Upd next v (suc (suc x)) next') (into : Upd prev x (suc (suc v)) prev') where
    link_ahead : (w g : ℕ) → next' w ≡ suc (suc g) → prev' g ≡ suc (suc w)
    link_ahead w g e = by_place (ℕ_discrete w v) (ℕ_discrete g x)
      where
        by_place : Dec (w ≡ v) → Dec (g ≡ x) → prev' g ≡ suc (suc w)
        by_place (yes same) (yes alike) = ap prev' alike ∙ into.here ∙ ap (λ (u : ℕ). suc (suc u)) (sym same)
        by_place (yes same) (no far) = absurd (far (omega (arith, ap next' same, out.here)))
        by_place (no apart) (no far) = into.there g far ∙ l.ahead w g (sym (out.there w apart) ∙ e)
        by_place (no apart) (yes alike) = absurd (omega (arith, ap prev alike, l.ahead w g (sym (out.there w apart) ∙ e)))

    link_back : (w g : ℕ) → prev' g ≡ suc (suc w) → next' w ≡ suc (suc g)
    link_back w g e = by_place (ℕ_discrete w v) (ℕ_discrete g x)
      where
        by_place : Dec (w ≡ v) → Dec (g ≡ x) → next' w ≡ suc (suc g)
        by_place (yes same) (yes alike) = ap next' same ∙ out.here ∙ ap (λ (u : ℕ). suc (suc u)) (sym alike)
        by_place (no apart) (yes alike) = absurd (apart (omega (arith, ap prev' alike, into.here)))
        by_place (no apart) (no far) = out.there w apart ∙ l.back w g (sym (into.there g far) ∙ e)
        by_place (yes same) (no far) = absurd (omega (arith, ap next same, l.back w g (sym (into.there g far) ∙ e)))

    pub link_linked : Memᴰ v (net.fanins x) → Linked net area next' prev'
    link_linked feeds =
        record {
          inside = λ w used. by_inside w used (ℕ_discrete w v);
          idle = λ w e. by_idle w e (ℕ_discrete w v) (ℕ_discrete w x);
          fresh = λ w e. by_fresh w e (ℕ_discrete w v) (ℕ_discrete w x);
          ahead = link_ahead;
          back = link_back;
          edge = λ w g e. by_edge w g e (ℕ_discrete w v);
        }
      where
        by_inside : (w : ℕ) → 1 ≤ next' w → Dec (w ≡ v) → area w ≡ 1
        by_inside w used (yes same) = ap area same ∙ l.inside v (omega arith)
        by_inside w used (no apart) = l.inside w (omega (arith, out.there w apart))

        by_idle : (w : ℕ) → next' w ≡ 0 → Dec (w ≡ v) → Dec (w ≡ x) → prev' w ≡ 0
        by_idle w e (yes same) _ = absurd (omega (arith, ap next' same, out.here))
        by_idle w e (no apart) (no far) = into.there w far ∙ l.idle w (sym (out.there w apart) ∙ e)
        by_idle w e (no apart) (yes alike) = absurd (omega (arith, ap prev alike, l.idle w (sym (out.there w apart) ∙ e)))

        by_fresh : (w : ℕ) → prev' w ≡ 0 → Dec (w ≡ v) → Dec (w ≡ x) → next' w ≡ 0
        by_fresh w e _ (yes alike) = absurd (omega (arith, ap prev' alike, into.here))
        by_fresh w e (no apart) (no far) = out.there w apart ∙ l.fresh w (sym (into.there w far) ∙ e)
        by_fresh w e (yes same) (no far) = absurd (omega (arith, ap next same, l.fresh w (sym (into.there w far) ∙ e)))

        by_edge : (w g : ℕ) → next' w ≡ suc (suc g) → Dec (w ≡ v) → Memᴰ w (net.fanins g)
        by_edge w g e (no apart) = l.edge w g (sym (out.there w apart) ∙ e)
        by_edge w g e (yes same) =
            let alike : g ≡ x = omega (arith, ap next' same, out.here) in
            subst (λ (u : ℕ). Memᴰ u (net.fanins g)) (sym same) (subst (λ (u : ℕ). Memᴰ v (net.fanins u)) (sym alike) feeds)

    pub link_starts : {n : ℕ} → x < n → suc (sum (λ w. one (prev' w)) n) ≡ sum (λ w. one (prev w)) n
    link_starts low = start_less low into (ap one comes) refl

  -- Dropping x, which comes from the source and goes to the sink

  module _ {x : ℕ} (goes : next x ≡ 1) (comes : prev x ≡ 1) (out : Upd next x 0 next') (into : Upd prev x 0 prev') where
    pub drop_linked : Linked net area next' prev'
    drop_linked =
        record {
          inside = λ w used. by_inside w used (ℕ_discrete w x);
          idle = λ w e. by_idle w e (ℕ_discrete w x);
          fresh = λ w e. by_fresh w e (ℕ_discrete w x);
          ahead = λ w g e. by_ahead w g e (ℕ_discrete w x) (ℕ_discrete g x);
          back = λ w g e. by_back w g e (ℕ_discrete w x) (ℕ_discrete g x);
          edge = λ w g e. by_edge w g e (ℕ_discrete w x);
        }
      where
        by_inside : (w : ℕ) → 1 ≤ next' w → Dec (w ≡ x) → area w ≡ 1
        by_inside w used (yes same) = absurd (omega (arith, ap next' same, out.here))
        by_inside w used (no apart) = l.inside w (omega (arith, out.there w apart))

        by_idle : (w : ℕ) → next' w ≡ 0 → Dec (w ≡ x) → prev' w ≡ 0
        by_idle w e (yes same) = ap prev' same ∙ into.here
        by_idle w e (no apart) = into.there w apart ∙ l.idle w (sym (out.there w apart) ∙ e)

        by_fresh : (w : ℕ) → prev' w ≡ 0 → Dec (w ≡ x) → next' w ≡ 0
        by_fresh w e (yes same) = ap next' same ∙ out.here
        by_fresh w e (no apart) = out.there w apart ∙ l.fresh w (sym (into.there w apart) ∙ e)

        by_ahead : (w g : ℕ) → next' w ≡ suc (suc g) → Dec (w ≡ x) → Dec (g ≡ x) → prev' g ≡ suc (suc w)
        by_ahead w g e (yes same) _ = absurd (omega (arith, ap next' same, out.here))
        by_ahead w g e (no apart) (no far) = into.there g far ∙ l.ahead w g (sym (out.there w apart) ∙ e)
        by_ahead w g e (no apart) (yes alike) = absurd (omega (arith, ap prev alike, l.ahead w g (sym (out.there w apart) ∙ e)))

        by_back : (w g : ℕ) → prev' g ≡ suc (suc w) → Dec (w ≡ x) → Dec (g ≡ x) → next' w ≡ suc (suc g)
        by_back w g e _ (yes alike) = absurd (omega (arith, ap prev' alike, into.here))
        by_back w g e (no apart) (no far) = out.there w apart ∙ l.back w g (sym (into.there g far) ∙ e)
        by_back w g e (yes same) (no far) = absurd (omega (arith, ap next same, l.back w g (sym (into.there g far) ∙ e)))

        by_edge : (w g : ℕ) → next' w ≡ suc (suc g) → Dec (w ≡ x) → Memᴰ w (net.fanins g)
        by_edge w g e (yes same) = absurd (omega (arith, ap next' same, out.here))
        by_edge w g e (no apart) = l.edge w g (sym (out.there w apart) ∙ e)

    pub drop_starts : {n : ℕ} → x < n → suc (sum (λ w. one (prev' w)) n) ≡ sum (λ w. one (prev w)) n
    drop_starts low = start_less low into (ap one comes) refl
