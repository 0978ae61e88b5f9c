-- The two passes together: what they make of the roles is D, the area and its ends.
use Prim.Native.Nat.{ℕ, ◌≤◌, ◌<◌}
use native.Mathlib.Omega.{arith}
use mathlib.Core.Path.{◌≡◌, refl, sym, subst, ◌∙◌}
use mathlib.Core.Logic.{◌⊎◌, inl, inr, ⊎_elim}
use mathlib.Core.List.{List, Memᴰ}
use lib.ListN.{get_or}
use Rattle.theory.specs.paper.Net.{Net}
use Rattle.theory.specs.paper.Walk.{Behind}
use Rattle.theory.specs.paper.Evidence.{InD}
use Rattle.storage.specs.Marks.{Marks}
use Rattle.storage.specs.Roles.{met_bit, deep_bit, area_bit, end_bit, deep_in, area_in, ends_in}
use Rattle.storage.specs.Drawings.{net_in}
use Rattle.storage.proofs.Clears.{beyond_then}
use Rattle.storage.proofs.Drawings.{fanins_in, gate_below, fed_in}
use Rattle.storage.proofs.InRoles.{met_at, deep_at, area_at, ends_at}
use Rattle.area.specs.Area.{label_in, InArea, IsEnd, AreaAsked, AreaMarked}
use Rattle.area.specs.Passes.{DeepAt, MetAt, Becomes, SplitAsked, Split, EndIn, EndAt, EndsAsked, EndsMarked}
use Rattle.area.proofs.Ends.{ends_beyond}

-- What a role says, after the first pass

module _ {D M : Type 0} where
  within_of : {r : ℕ} → Becomes D M r → r ≡ 4 → D
  within_of (Becomes.within d) e = d
  within_of (Becomes.outside _ _) e = absurd (omega arith)
  within_of (Becomes.away _ _) e = absurd (omega arith)

  of_within : {r : ℕ} → Becomes D M r → D → r ≡ 4
  of_within (Becomes.within _) d = refl
  of_within (Becomes.outside none _) d = absurd (none d)
  of_within (Becomes.away none _) d = absurd (none d)

  outside_of : {r : ℕ} → Becomes D M r → r ≡ 5 → (D → ⊥) × M
  outside_of (Becomes.within _) e = absurd (omega arith)
  outside_of (Becomes.outside none m) e = (none, m)
  outside_of (Becomes.away _ _) e = absurd (omega arith)

  of_outside : {r : ℕ} → Becomes D M r → (D → ⊥) → M → r ≡ 5
  of_outside (Becomes.within d) none m = absurd (none d)
  of_outside (Becomes.outside _ _) none m = refl
  of_outside (Becomes.away _ unmet) none m = absurd (unmet m)

  becomes_same : {D' M' : Type 0} {r : ℕ} → (D → D') → (D' → D) → (M → M') → (M' → M) → Becomes D M r → Becomes D' M' r
  becomes_same d d' m m' (Becomes.within here) = Becomes.within (d here)
  becomes_same d d' m m' (Becomes.outside none here) = Becomes.outside (λ x. none (d' x)) (m here)
  becomes_same d d' m m' (Becomes.away none unmet) = Becomes.away (λ x. none (d' x)) (λ x. unmet (m' x))

-- What a role says, after both

data Placed (deep area end : Type 0) : ℕ → Type 0 where
  within : deep → (area → ⊥) → (end → ⊥) → Placed deep area end 4
  inner : (deep → ⊥) → area → (end → ⊥) → Placed deep area end 5
  last : (deep → ⊥) → area → end → Placed deep area end 6
  away : (deep → ⊥) → (area → ⊥) → (end → ⊥) → Placed deep area end 0

-- a mark of one statement: 1 if it holds, 0 if not
abbrev Mark : Type 0 → ℕ → Type 0
Mark Q mark = ((mark ≡ 0) × (Q → ⊥)) ⊎ ((mark ≡ 1) × Q)

module _ {D A E : Type 0} where
  deep_mark : {r : ℕ} → Placed D A E r → Mark D (deep_bit r)
  unfolding deep_bit
  deep_mark (Placed.within d _ _) = inr (refl, d)
  deep_mark (Placed.inner d _ _) = inl (refl, d)
  deep_mark (Placed.last d _ _) = inl (refl, d)
  deep_mark (Placed.away d _ _) = inl (refl, d)

  area_mark : {r : ℕ} → Placed D A E r → Mark A (area_bit r)
  unfolding area_bit
  area_mark (Placed.within _ a _) = inl (refl, a)
  area_mark (Placed.inner _ a _) = inr (refl, a)
  area_mark (Placed.last _ a _) = inr (refl, a)
  area_mark (Placed.away _ a _) = inl (refl, a)

  end_mark : {r : ℕ} → Placed D A E r → Mark E (end_bit r)
  unfolding end_bit
  end_mark (Placed.within _ _ e) = inl (refl, e)
  end_mark (Placed.inner _ _ e) = inl (refl, e)
  end_mark (Placed.last _ _ e) = inr (refl, e)
  end_mark (Placed.away _ _ e) = inl (refl, e)

  kind : {r : ℕ} → Placed D A E r → (r ≡ 0) ⊎ (4 ≤ r) × (r ≤ 6)
  kind (Placed.within _ _ _) = inr (omega arith, omega arith)
  kind (Placed.inner _ _ _) = inr (omega arith, omega arith)
  kind (Placed.last _ _ _) = inr (omega arith, omega arith)
  kind (Placed.away _ _ _) = inl refl

-- marks, from a mark at each entry
marks_by : {n : ℕ} {P : ℕ → Type 0} (l : List ℕ) → ((v : ℕ) → v < n → Mark (P v) (get_or l v 0)) → Marks n P l
marks_by {n} {P} l each =
    record {
      bit = λ v low. ⊎_elim (λ (m : (get_or l v 0 ≡ 0) × (P v → ⊥)). inl m.0) (λ (m : (get_or l v 0 ≡ 1) × P v). inr m.0) (each v low);
      holds = λ v low e. ⊎_elim (λ (m : (get_or l v 0 ≡ 0) × (P v → ⊥)). absurd (omega (arith, m.0))) (λ (m : (get_or l v 0 ≡ 1) × P v). m.1) (each v low);
      marked = λ v low p. ⊎_elim (λ (m : (get_or l v 0 ≡ 0) × (P v → ⊥)). absurd (m.1 p)) (λ (m : (get_or l v 0 ≡ 1) × P v). m.0) (each v low);
    }

module _ {inputs nodes : ℕ} {fanins : List ℕ} {gate : ℕ} {labels : List ℕ} {p : ℕ} {roles : List ℕ}
    (asked : AreaAsked inputs nodes fanins gate labels p roles) where
  abbrev net : Net
  net = net_in inputs nodes fanins

  abbrev lab : ℕ → ℕ
  lab = label_in labels

  behind : (v : ℕ) → v < nodes → MetAt roles v → Behind net gate v
  behind v low e = asked.behind_known.holds v low (met_at roles v ∙ e)

  met : (v : ℕ) → v < nodes → Behind net gate v → MetAt roles v
  met v low b = sym (met_at roles v) ∙ asked.behind_known.marked v low b

  in_d_lem : (v : ℕ) → v < nodes → DeepAt inputs gate p labels roles v → InD net lab gate v
  unfolding net_in
  in_d_lem v low deep =
      ⊎_elim (λ (e : v ≡ gate). subst (InD net lab gate) (sym e) InD.self)
      (λ (h : (inputs ≤ v) × (met_bit (get_or roles v 0) ≡ 1) × (get_or labels v 0 ≡ p)).
      InD.behind (record { above = h.0; below = low }) (behind v low h.1) (h.2 ∙ asked.peak_known)) deep

  d_in : (v : ℕ) → v < nodes → InD net lab gate v → DeepAt inputs gate p labels roles v
  unfolding net_in
  d_in v low InD.self = inl refl
  d_in v low (InD.behind g b e) = inr (g.above, met v low b, e ∙ sym asked.peak_known)

  member_below : {d : ℕ} → InD net lab gate d → d < nodes
  member_below InD.self = gate_below inputs nodes fanins asked.gate_stands
  member_below (InD.behind g _ _) = gate_below inputs nodes fanins g

  pub split_asked : SplitAsked nodes labels roles
  split_asked = record { small = asked.small; labels_long = asked.labels_long; roles_long = asked.roles_long }

  module _ {roles₁ : List ℕ} (split : Split inputs nodes gate p labels roles roles₁) where
    turned : (v : ℕ) → v < nodes → Becomes (InD net lab gate v) (Behind net gate v) (get_or roles₁ v 0)
    turned v low = becomes_same (in_d_lem v low) (d_in v low) (behind v low) (met v low) (split.each v low)

    pub ends_asked : EndsAsked nodes fanins roles₁
    ends_asked =
        record {
          small = asked.small;
          fed = λ v low. fed_in asked.drawn v low nodes (omega arith);
          roles_long = omega (arith, asked.roles_long, split.rest.size);
        }

    end_there : (v : ℕ) → v < nodes → EndIn nodes fanins roles₁ v → IsEnd net lab gate v
    end_there v low e =
        let (none, b) = outside_of (turned v low) e.inside in
        record {
          inside = record { behind = b; outside = none };
          member = e.member;
          deep = within_of (turned e.member e.below) e.chosen;
          feeds = subst (Memᴰ v) (sym (fanins_in inputs nodes fanins e.member e.below)) e.feeds;
        }

    end_back : (v : ℕ) → v < nodes → IsEnd net lab gate v → EndIn nodes fanins roles₁ v
    end_back v low e =
        let below : e.member < nodes = member_below e.deep in
        record {
          inside = of_outside (turned v low) e.inside.outside e.inside.behind;
          member = e.member;
          below = below;
          chosen = of_within (turned e.member below) e.deep;
          feeds = subst (Memᴰ v) (fanins_in inputs nodes fanins e.member below) e.feeds;
        }

    module _ {roles₂ : List ℕ} (ends : EndsMarked nodes fanins roles₁ roles₂) where
      -- a role that the second pass leaves
      kept_place : {v r : ℕ} → (IsEnd net lab gate v → ⊥) → Becomes (InD net lab gate v) (Behind net gate v) r →
          Placed (InD net lab gate v) (InArea net lab gate v) (IsEnd net lab gate v) r
      kept_place none (Becomes.within d) = Placed.within d (λ a. a.outside d) none
      kept_place none (Becomes.outside out b) = Placed.inner out (record { behind = b; outside = out }) none
      kept_place none (Becomes.away out unmet) = Placed.away out (λ a. unmet a.behind) none

      placed : (v : ℕ) → v < nodes → Placed (InD net lab gate v) (InArea net lab gate v) (IsEnd net lab gate v) (get_or roles₂ v 0)
      placed v low = by_case (ends.each v)
        where
          by_case : EndAt nodes fanins roles₁ roles₂ v → Placed (InD net lab gate v) (InArea net lab gate v) (IsEnd net lab gate v) (get_or roles₂ v 0)
          by_case (inl (e, six)) = let end = end_there v low e in rw six (Placed.last end.inside.outside end.inside end)
          by_case (inr (none, kept)) = rw kept (kept_place (λ e. none (end_back v low e)) (turned v low))

      pub whole_area : AreaMarked net lab gate roles roles₂
      unfolding net_in
      whole_area =
          record {
            deep_marked = marks_by (deep_in roles₂) (λ v low. rw (deep_at roles₂ v) (deep_mark (placed v low)));
            area_marked = marks_by (area_in roles₂) (λ v low. rw (area_at roles₂ v) (area_mark (placed v low)));
            ends_marked = marks_by (ends_in roles₂) (λ v low. rw (ends_at roles₂ v) (end_mark (placed v low)));
            kinds = λ v low. kind (placed v low);
            rest = beyond_then split.rest (ends_beyond ends_asked.fed ends);
          }
