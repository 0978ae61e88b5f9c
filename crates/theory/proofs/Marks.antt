-- Which nodes are reached from which, in one or more steps: a table of marks, made by letting one node after another be passed through.
-- After k rounds a mark at u, v says that a way leads from u to v with all nodes between them below k. That is closed under joining two
-- ways at a node below k, so no counting of rounds or nodes is needed; and it asks nothing about loops.
use Prim.Native.Nat.{ℕ, zero, suc, ◌≤◌, ◌<◌}
use native.Mathlib.Nat.{not-suc-le-zero, le_of_suc-le-suc, eq-or-lt_of_le, le_refl, le_of_lt, lt_of_lt_of_le}
use mathlib.Core.Path.{◌≡◌, refl, subst}
use mathlib.Core.Logic.{◌⊎◌, inl, inr, ⊎_elim}
use mathlib.Core.Bool.{Bool, true, false, ◌&&◌, ◌||◌}
use mathlib.Core.List.{List, [], ◌∷◌}
use lib.ListN.{get_or}
use Rattle.theory.proofs.Tests.{Decides, decides_itself, ◌and_then◌, decides_or}

-- one or more steps
pub data Way (Step : ℕ → ℕ → Type 0) (u : ℕ) : ℕ → Type 0 where
  one : {v : ℕ} → Step u v → Way Step u v
  more : {v w : ℕ} → Way Step u v → Step v w → Way Step u w

joined_ways : {Step : ℕ → ℕ → Type 0} {u v w : ℕ} → Way Step u v → Way Step v w → Way Step u w
joined_ways a (Way.one s) = Way.more a s
joined_ways a (Way.more b s) = Way.more (joined_ways a b) s

-- ways whose steps stay below n do
way_inside : {Step : ℕ → ℕ → Type 0} {n : ℕ} → ((u v : ℕ) → u < n → Step u v → v < n) → {u v : ℕ} → u < n → Way Step u v → v < n
way_inside inside {u} hu (Way.one {v = v} s) = inside u v hu s
way_inside inside hu (Way.more {v = v} {w = w} a s) = inside v w (way_inside inside hu a) s

-- a function's values below n, kept in a list
unfoldable values : {A : Type 0} → ℕ → (ℕ → A) → List A
values zero f = []
values (suc n) f = f 0 ∷ values n (λ v. f (suc v))

value_kept : {A : Type 0} (n : ℕ) (f : ℕ → A) (d : A) (v : ℕ) → v < n → get_or (values n f) v d ≡ f v
unfolding values
value_kept zero f d v h = absurd (not-suc-le-zero h)
value_kept (suc n) f d zero h = refl
value_kept (suc n) f d (suc v) h = value_kept n (λ u. f (suc u)) d v (le_of_suc-le-suc h)

unfoldable pub marked : List (List Bool) → ℕ → ℕ → Bool
marked rows u v = get_or (get_or rows u []) v false

unfoldable rows_of : ℕ → (ℕ → ℕ → Bool) → List (List Bool)
unfolding values
rows_of n f = values n (λ u. values n (f u))

-- inside the table the marks are the function's
marked_rows : (n : ℕ) (f : ℕ → ℕ → Bool) (u v : ℕ) → u < n → v < n → marked (rows_of n f) u v ≡ f u v
unfolding marked rows_of
marked_rows n f u v hu hv = rw (value_kept n (λ w. values n (f w)) [] u hu) (value_kept n (f u) false v hv)

unfoldable pub reached : ℕ → (ℕ → ℕ → Bool) → ℕ → List (List Bool)
unfolding marked rows_of
reached n step zero = rows_of n step
reached n step (suc k) = through (reached n step k)
  where
    through : List (List Bool) → List (List Bool)
    through rows = rows_of n (λ u v. marked rows u v || (marked rows u k && marked rows k v))

-- a mark after k rounds
abbrev Mark : ℕ → (ℕ → ℕ → Bool) → ℕ → ℕ → ℕ → Type 0
Mark n step k u v = marked (reached n step k) u v ≡ true

module _ (n : ℕ) (step : ℕ → ℕ → Bool) where
  first_round : (u v : ℕ) → u < n → v < n → marked (reached n step zero) u v ≡ step u v
  unfolding reached
  first_round u v hu hv = marked_rows n step u v hu hv

  next_round : (k u v : ℕ) → u < n → v < n → Decides (marked (reached n step (suc k)) u v) (Mark n step k u v ⊎ (Mark n step k u k × Mark n step k k v))
  unfolding reached
  next_round k u v hu hv = rw (marked_rows n _ u v hu hv) (decides_or (decides_itself _) (decides_itself _ and_then (λ _. decides_itself _)))

  -- a mark stays
  step_marked : (k u v : ℕ) → u < n → v < n → step u v ≡ true → Mark n step k u v
  step_marked zero u v hu hv e = rw (first_round u v hu hv) e
  step_marked (suc k) u v hu hv e = (next_round k u v hu hv).passes (inl (step_marked k u v hu hv e))

  -- two ways join at a node below k: at k - 1 itself by the last round, at a lower one in each of the ways' halves
  joined_marks : (k : ℕ) → k ≤ n → (u w v : ℕ) → u < n → w < k → v < n → Mark n step k u w → Mark n step k w v → Mark n step k u v
  joined_marks zero hk u w v hu hw hv a b = absurd (not-suc-le-zero hw)
  joined_marks (suc k) hk u w v hu hw hv a b = ⊎_elim at (λ l. below (λ x y hx hy. joined_marks k (le_of_lt hk) x w y hx l hy)) (eq-or-lt_of_le (le_of_suc-le-suc hw))
    where
      to : Mark n step (suc k) u k → Mark n step k u k
      to m = ⊎_elim (λ h. h) (λ h. h.0) ((next_round k u k hu hk).holds m)

      from : Mark n step (suc k) k v → Mark n step k k v
      from m = ⊎_elim (λ h. h) (λ h. h.1) ((next_round k k v hk hv).holds m)

      at : w ≡ k → Mark n step (suc k) u v
      at e = (next_round k u v hu hv).passes (inr (to (subst (λ (x : ℕ). Mark n step (suc k) u x) e a), from (subst (λ (x : ℕ). Mark n step (suc k) x v) e b)))

      below : ((x y : ℕ) → x < n → y < n → Mark n step k x w → Mark n step k w y → Mark n step k x y) → Mark n step (suc k) u v
      below join =
          let hw' : w < n = lt_of_lt_of_le hw hk in
          (next_round k u v hu hv).passes (halves ((next_round k u w hu hw').holds a) ((next_round k w v hw' hv).holds b))
        where
          halves : Mark n step k u w ⊎ (Mark n step k u k × Mark n step k k w) → Mark n step k w v ⊎ (Mark n step k w k × Mark n step k k v) →
              Mark n step k u v ⊎ (Mark n step k u k × Mark n step k k v)
          halves (inl c) (inl d) = inl (join u v hu hv c d)
          halves (inl c) (inr d) = inr (join u k hu hk c d.0, d.1)
          halves (inr c) (inl d) = inr (c.0, join k v hk hv c.1 d)
          halves (inr c) (inr d) = inr (c.0, d.1)

  module _ {Step : ℕ → ℕ → Type 0} (decided : (u v : ℕ) → Decides (step u v) (Step u v)) (inside : (u v : ℕ) → u < n → Step u v → v < n) where
    way_of_mark : (k : ℕ) → k ≤ n → (u v : ℕ) → u < n → v < n → Mark n step k u v → Way Step u v
    way_of_mark zero hk u v hu hv m = Way.one ((decided u v).holds (rw (first_round u v hu hv) at m))
    way_of_mark (suc k) hk u v hu hv m = ⊎_elim
        (way_of_mark k (le_of_lt hk) u v hu hv)
        (λ (h : Mark n step k u k × Mark n step k k v). joined_ways (way_of_mark k (le_of_lt hk) u k hu hk h.0) (way_of_mark k (le_of_lt hk) k v hk hv h.1))
        ((next_round k u v hu hv).holds m)

    mark_of_way : {u v : ℕ} → u < n → Way Step u v → Mark n step n u v
    mark_of_way {u} hu (Way.one {v = v} s) = step_marked n u v hu (inside u v hu s) ((decided u v).passes s)
    mark_of_way {u} hu (Way.more {v = v} {w = w} a s) =
        let hv : v < n = way_inside inside hu a in
        let hw : w < n = inside v w hv s in
        joined_marks n (le_refl n) u v w hu hv hw (mark_of_way hu a) (step_marked n v w hv hw ((decided v w).passes s))

    -- After n rounds the marks are the ways.
    pub decides_way : (u v : ℕ) → u < n → v < n → Decides (marked (reached n step n) u v) (Way Step u v)
    decides_way u v hu hv = record { holds = way_of_mark n (le_refl n) u v hu hv; passes = mark_of_way hu }
