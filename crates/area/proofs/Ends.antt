-- The second pass: fanin after fanin, and gate of D after gate of D, nodes of the area become ends.
use Prim.Native.Nat.{ℕ, ◌+◌, ◌≤◌, ◌<◌}
use native.Mathlib.Nat.{not-suc-le-zero}
use native.Mathlib.Decide.{ℕ_discrete}
use native.Mathlib.Omega.{arith}
use mathlib.Core.Path.{◌≡◌, refl, ap, sym, subst, ◌∙◌}
use mathlib.Core.Logic.{◌⊎◌, inl, inr, ⊎_elim}
use mathlib.Core.List.Memᴰ
use mathlib.Core.List.{List, Memᴰ}
use lib.ListN.{length, get_or, set, take}
use lib.Seq.{get_or-set_same, get_or-set_other}
use Rattle.storage.specs.Entries.{Beyond}
use Rattle.storage.specs.Lists.{list_at}
use Rattle.storage.proofs.Clears.{drop_same}
use Rattle.storage.specs.Drawings.{Fed}
use Rattle.storage.proofs.Entries.{part_old, part_new, part_cases}
use Rattle.area.specs.Passes.{FaninAt, FaninsMarked, EndIn, EndAt, EndsMarked}

-- One fanin more

pub fanins_none : (l roles : List ℕ) → FaninsMarked (take 0 l) roles roles
fanins_none l roles = record { all = λ v m. absurd (Memᴰ.not-nil m); each = λ v. inr refl }

module _ (l : List ℕ) (i : ℕ) (low : i < length l) {before roles : List ℕ}
    (so_far : FaninsMarked (take i l) before roles) {x : ℕ} (same : x ≡ get_or l i 0) where
  module _ (within : get_or roles x 0 ≡ 5) (inside : x < length roles) where
    marked_here : get_or (set roles x 6) x 0 ≡ 6
    marked_here = get_or-set_same roles x 6 0 inside

    -- what was no node of the area is none after the store
    none_stays : (v : ℕ) → (get_or roles v 0 ≡ 5 → ⊥) ⊎ (v ≡ x) → get_or (set roles x 6) v 0 ≡ 5 → ⊥
    none_stays v here five = by_place (ℕ_discrete v x)
      where
        by_place : Dec (v ≡ x) → ⊥
        by_place (yes e) = let six : get_or (set roles x 6) v 0 ≡ 6 = ap (λ (w : ℕ). get_or (set roles x 6) w 0) e ∙ marked_here in omega arith
        by_place (no apart) =
            ⊎_elim (λ (none : get_or roles v 0 ≡ 5 → ⊥). none (sym (get_or-set_other roles x v 6 0 apart) ∙ five)) apart here

    fanins_mark : FaninsMarked (take (i + 1) l) before (set roles x 6)
    fanins_mark =
        record {
          all = λ v member.
              none_stays v
              (⊎_elim (λ (old : Memᴰ v (take i l)). inl (so_far.all v old)) (λ (new : v ≡ get_or l i 0). inr (new ∙ sym same))
              (part_cases l i low member));
          each = λ v. by_place v (ℕ_discrete v x) (so_far.each v);
        }
      where
        -- the fanin had not been touched, since it lies in the area still
        was_inside : (v : ℕ) → v ≡ x → FaninAt (take i l) before roles v →
            get_or before v 0 ≡ 5
        was_inside v e (inl old) = old.1
        was_inside v e (inr kept) = sym kept ∙ ap (λ (w : ℕ). get_or roles w 0) e ∙ within

        by_place : (v : ℕ) → Dec (v ≡ x) →
            FaninAt (take i l) before roles v →
            FaninAt (take (i + 1) l) before (set roles x 6) v
        by_place v (yes e) was =
            inl (part_new l i low (e ∙ same), was_inside v e was, ap (λ (w : ℕ). get_or (set roles x 6) w 0) e ∙ marked_here)
        by_place v (no apart) (inl old) = inl (part_old l i low old.0, old.1, get_or-set_other roles x v 6 0 apart ∙ old.2)
        by_place v (no apart) (inr kept) = inr (get_or-set_other roles x v 6 0 apart ∙ kept)

  fanins_pass : (get_or roles x 0 ≡ 5 → ⊥) → FaninsMarked (take (i + 1) l) before roles
  fanins_pass without =
      record {
        all = λ v member five.
            ⊎_elim (λ (old : Memᴰ v (take i l)). so_far.all v old five)
            (λ (new : v ≡ get_or l i 0). without (ap (λ (w : ℕ). get_or roles w 0) (same ∙ sym new) ∙ five))
            (part_cases l i low member);
        each = λ v.
            ⊎_elim
            (λ (old : (Memᴰ v (take i l)) × (get_or before v 0 ≡ 5) × (get_or roles v 0 ≡ 6)).
            inl (part_old l i low old.0, old.1, old.2))
            (λ (kept : get_or roles v 0 ≡ get_or before v 0). inr kept) (so_far.each v);
      }

  -- a turn: the fanin is an end if it lies in the area
  pub fanins_turn : {roles' : List ℕ} → x < length roles →
      ((get_or roles x 0 ≡ 5) × (roles' ≡ set roles x 6)) ⊎ ((get_or roles x 0 ≡ 5 → ⊥) × (roles' ≡ roles)) →
      FaninsMarked (take (i + 1) l) before roles'
  fanins_turn inside (inl (within, stored)) = rw stored (fanins_mark within inside)
  fanins_turn inside (inr (without, kept)) = rw kept (fanins_pass without)

-- One gate more

module _ {fanins roles₀ : List ℕ} {d : ℕ} where
  end_later : {v : ℕ} → EndIn d fanins roles₀ v → EndIn (d + 1) fanins roles₀ v
  end_later e =
      record { inside = e.inside; member = e.member; below = (let low = e.below in omega arith); chosen = e.chosen; feeds = e.feeds }

  -- an end of one gate more is an end of before, or of this gate
  end_cases : {v : ℕ} → EndIn (d + 1) fanins roles₀ v → EndIn d fanins roles₀ v ⊎ ((get_or roles₀ d 0 ≡ 4) × Memᴰ v (list_at fanins d))
  end_cases {v} e = by_member (ℕ_discrete e.member d)
    where
      by_member : Dec (e.member ≡ d) → EndIn d fanins roles₀ v ⊎ ((get_or roles₀ d 0 ≡ 4) × Memᴰ v (list_at fanins d))
      by_member (yes same) =
          inr (ap (λ (w : ℕ). get_or roles₀ w 0) (sym same) ∙ e.chosen, subst (λ (w : ℕ). Memᴰ v (list_at fanins w)) same e.feeds)
      by_member (no apart) =
          inl (record { inside = e.inside; member = e.member; below = (let low = e.below in omega arith); chosen = e.chosen; feeds = e.feeds })

  module _ {roles : List ℕ} (so_far : EndsMarked d fanins roles₀ roles) where
    -- a member of D stays what it is
    deep_stays : (v : ℕ) → get_or roles₀ v 0 ≡ 4 → get_or roles v 0 ≡ 4
    deep_stays v four = by_case (so_far.each v)
      where
        by_case : EndAt d fanins roles₀ roles v → get_or roles v 0 ≡ 4
        by_case (inl (e, six)) = absurd (let five = e.inside in omega arith)
        by_case (inr (none, kept)) = kept ∙ four

    deep_was : (v : ℕ) → get_or roles v 0 ≡ 4 → get_or roles₀ v 0 ≡ 4
    deep_was v four = by_case (so_far.each v)
      where
        by_case : EndAt d fanins roles₀ roles v → get_or roles₀ v 0 ≡ 4
        by_case (inl (e, six)) = absurd (omega arith)
        by_case (inr (none, kept)) = sym kept ∙ four

    ends_skip : (get_or roles d 0 ≡ 4 → ⊥) → EndsMarked (d + 1) fanins roles₀ roles
    ends_skip outside = record { size = so_far.size; each = λ v. by_case v (so_far.each v) }
      where
        by_case : (v : ℕ) → EndAt d fanins roles₀ roles v →
            EndAt (d + 1) fanins roles₀ roles v
        by_case v (inl (e, six)) = inl (end_later e, six)
        by_case v (inr (none, kept)) =
            inr (λ e. ⊎_elim none (λ (new : (get_or roles₀ d 0 ≡ 4) × Memᴰ v (list_at fanins d)). outside (deep_stays d new.0)) (end_cases e), kept)

    ends_take : {roles' : List ℕ} → get_or roles d 0 ≡ 4 → length roles' ≡ length roles → FaninsMarked (list_at fanins d) roles roles' →
        EndsMarked (d + 1) fanins roles₀ roles'
    ends_take {roles'} four size marked =
        record { size = size ∙ so_far.size; each = λ v. by_case v (so_far.each v) (marked.each v) }
      where
        by_case : (v : ℕ) → EndAt d fanins roles₀ roles v →
            FaninAt (list_at fanins d) roles roles' v →
            EndAt (d + 1) fanins roles₀ roles' v
        by_case v (inl (e, six)) (inl (member, five, now-six)) = inl (end_later e, now-six)
        by_case v (inl (e, six)) (inr same) = inl (end_later e, same ∙ six)
        by_case v (inr (none, kept)) (inl (member, five, six)) =
            inl (record { inside = sym kept ∙ five; member = d; below = omega arith; chosen = deep_was d four; feeds = member }, six)
        by_case v (inr (none, kept)) (inr same) =
            inr (
              λ e. ⊎_elim none (λ (new : (get_or roles₀ d 0 ≡ 4) × Memᴰ v (list_at fanins d)). marked.all v new.1 (same ∙ kept ∙ e.inside)) (end_cases e),
              same ∙ kept,
            )

-- a turn: a member of D makes its fanins in the area ends
pub ends_turn : {d : ℕ} {fanins roles₀ roles roles' : List ℕ} → EndsMarked d fanins roles₀ roles →
    ((get_or roles d 0 ≡ 4) × (length roles' ≡ length roles) × FaninsMarked (list_at fanins d) roles roles') ⊎ ((get_or roles d 0 ≡ 4 → ⊥) × (roles' ≡ roles)) →
    EndsMarked (d + 1) fanins roles₀ roles'
ends_turn so_far (inl (four, size, marked)) = ends_take so_far four size marked
ends_turn so_far (inr (outside, kept)) = rw kept (ends_skip so_far outside)

pub ends_none : (fanins roles : List ℕ) → EndsMarked 0 fanins roles roles
ends_none fanins roles = record { size = refl; each = λ v. inr (λ e. not-suc-le-zero e.below, refl) }

-- ends are nodes, so what lies beyond the nodes is as before
pub ends_beyond : {nodes : ℕ} {fanins roles₀ roles : List ℕ} → ((v : ℕ) → v < nodes → Fed fanins v nodes) → EndsMarked nodes fanins roles₀ roles →
    Beyond nodes roles₀ roles
ends_beyond {nodes} {fanins} {roles₀} {roles} fed ends =
    record { size = ends.size; beyond = drop_same nodes roles roles₀ ends.size (λ v far. by_case v far (ends.each v)) }
  where
    by_case : (v : ℕ) → nodes ≤ v → EndAt nodes fanins roles₀ roles v →
        get_or roles v 0 ≡ get_or roles₀ v 0
    by_case v far (inl (e, six)) = absurd (let low : v < nodes = (fed e.member e.below).known v e.feeds in omega arith)
    by_case v far (inr (none, kept)) = kept
