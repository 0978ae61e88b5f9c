-- Lists of ids in an array: their members by their places, and what a store of one list does to it and to the others.
use Prim.Native.Nat.{ℕ, suc, ◌+◌, ◌*◌, ◌≤◌, ◌<◌}
use native.Mathlib.Decide.{dec_lt}
use native.Mathlib.Omega.{arith}
use mathlib.Core.Path.{◌≡◌, ap, sym, subst, ◌∙◌}
use mathlib.Core.Logic.{◌⊎◌, inl, inr}
use mathlib.Core.List.{List, ◌∷◌, Memᴰ}
use lib.ListN.{length, get_or, set, drop, length-take, length-drop, length-set}
use lib.Seq.{sets, length-sets, get_or-take, get_or-drop, get_or-set_same, ext_get_or}
use Rattle.storage.specs.Lists.{size_at, entry_at, list_at}
use Rattle.storage.proofs.Entries.{member_at}
use Rattle.storage.proofs.Stores.{stored_beside, stored_at}

module _ (lists : List ℕ) (v : ℕ) (long : 7 * v + 7 ≤ length lists) (six : size_at lists v ≤ 6) where
  pub list_size : length (list_at lists v) ≡ size_at lists v
  list_size = simp (length-take, length-drop) (omega arith)

  pub list_entry : (i : ℕ) → i < size_at lists v → get_or (list_at lists v) i 0 ≡ entry_at lists v i
  list_entry i low = get_or-take (size_at lists v) (drop (7 * v + 1) lists) i 0 low ∙ get_or-drop (7 * v + 1) lists i 0

  pub list_member : (i : ℕ) → i < size_at lists v → Memᴰ (entry_at lists v i) (list_at lists v)
  list_member i low =
      subst (λ (u : ℕ). Memᴰ u (list_at lists v)) (list_entry i low)
      (member_at (list_at lists v) i (omega (arith, list_size)))

-- two arrays that agree at a node's places hold the same list there
pub list_same : (l m : List ℕ) (v : ℕ) → 7 * v + 7 ≤ length l → 7 * v + 7 ≤ length m → size_at l v ≤ 6 → size_at m v ≡ size_at l v →
    ((i : ℕ) → i < size_at l v → entry_at m v i ≡ entry_at l v i) → list_at m v ≡ list_at l v
list_same l m v l-long m-long six size same =
    let few : size_at m v ≤ 6 = omega arith in
    let l-size = list_size l v l-long six in
    let m-size = list_size m v m-long few in
    let sizes : length (list_at m v) ≡ length (list_at l v) = m-size ∙ size ∙ sym l-size in
    ext_get_or 0 (list_at m v) (list_at l v) sizes
    (λ i low.
    let below : i < size_at m v = omega (arith, m-size) in
    list_entry m v m-long few i below ∙ same i (omega arith) ∙ sym (list_entry l v l-long six i (omega arith)))

-- A list stored at node t: its size, then its ids

module _ (lists : List ℕ) (t : ℕ) (ids : List ℕ) (long : 7 * t + 7 ≤ length lists) (six : length ids ≤ 6) where
  stored : List ℕ
  stored = sets lists (7 * t) (length ids ∷ ids)

  pub put_length : length (sets lists (7 * t) (length ids ∷ ids)) ≡ length lists
  put_length = length-sets lists (7 * t) (length ids ∷ ids)

  pub put_size : size_at (sets lists (7 * t) (length ids ∷ ids)) t ≡ length ids
  put_size = stored_beside (set lists (7 * t) (length ids)) (suc (7 * t)) ids (7 * t) (inl (omega arith)) ∙ get_or-set_same lists (7 * t) (length ids) 0 (omega arith)

  pub put_entry : (i : ℕ) → i < length ids → entry_at (sets lists (7 * t) (length ids ∷ ids)) t i ≡ get_or ids i 0
  put_entry i low =
      ap (λ (j : ℕ). get_or (sets lists (7 * t) (length ids ∷ ids)) j 0) (omega arith)
      ∙ stored_at (set lists (7 * t) (length ids)) (suc (7 * t)) ids i low (simp length-set (omega arith))

  pub put_list : list_at (sets lists (7 * t) (length ids ∷ ids)) t ≡ ids
  put_list =
      let few : size_at (sets lists (7 * t) (length ids ∷ ids)) t ≤ 6 = omega (arith, put_size) in
      let room : 7 * t + 7 ≤ length (sets lists (7 * t) (length ids ∷ ids)) = omega (arith, put_length) in
      let size : length (list_at (sets lists (7 * t) (length ids ∷ ids)) t) ≡ length ids = list_size (sets lists (7 * t) (length ids ∷ ids)) t room few ∙ put_size in
      ext_get_or 0 (list_at (sets lists (7 * t) (length ids ∷ ids)) t) ids size
      (λ i low.
      let below : i < length ids = omega (arith, size) in
      list_entry (sets lists (7 * t) (length ids ∷ ids)) t room few i (omega (arith, put_size)) ∙ put_entry i below)

  -- other nodes' places are as they were
  pub put_beside : (at : ℕ) → (at < 7 * t) ⊎ (7 * t + 7 ≤ at) → get_or (sets lists (7 * t) (length ids ∷ ids)) at 0 ≡ get_or lists at 0
  put_beside at (inl before) = stored_beside lists (7 * t) (length ids ∷ ids) at (inl before)
  put_beside at (inr behind) = stored_beside lists (7 * t) (length ids ∷ ids) at (inr (omega arith))

  pub put_other_size : (v : ℕ) → (v ≡ t → ⊥) → size_at (sets lists (7 * t) (length ids ∷ ids)) v ≡ size_at lists v
  put_other_size v apart = put_beside (7 * v) (either (dec_lt v t))
    where
      either : Dec (v < t) → (7 * v < 7 * t) ⊎ (7 * t + 7 ≤ 7 * v)
      either (yes low) = inl (omega arith)
      either (no high) = let above : t < v = omega arith in inr (omega arith)

  pub put_other : (v : ℕ) → (v ≡ t → ⊥) → 7 * v + 7 ≤ length lists → size_at lists v ≤ 6 → list_at (sets lists (7 * t) (length ids ∷ ids)) v ≡ list_at lists v
  put_other v apart room few =
      list_same lists (sets lists (7 * t) (length ids ∷ ids)) v room (omega (arith, put_length)) few (put_other_size v apart)
      (λ i low. put_beside (7 * v + 1 + i) (either i low (dec_lt v t)))
    where
      either : (i : ℕ) → i < size_at lists v → Dec (v < t) → (7 * v + 1 + i < 7 * t) ⊎ (7 * t + 7 ≤ 7 * v + 1 + i)
      either i low (yes below) = inl (omega arith)
      either i low (no high) = let above : t < v = omega arith in inr (omega arith)
