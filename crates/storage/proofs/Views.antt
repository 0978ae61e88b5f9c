-- Views of roles: a view has an entry where the roles have one, and a store of a role is a store in each view.
use Prim.Native.Nat.{ℕ, zero, suc}
use mathlib.Core.Path.{◌≡◌, refl, ap, subst}
use mathlib.Core.List.{List, [], ◌∷◌}
use lib.ListN.{length, get_or, set, drop, length-map, get_or-map}
use Rattle.storage.specs.Marks.{view}

module _ (f : ℕ → ℕ) where
  pub view_size : (l : List ℕ) → length (view f l) ≡ length l
  view_size l = length-map l f

  -- a role of 0 has no mark of any kind
  pub view_at : f 0 ≡ 0 → (l : List ℕ) (v : ℕ) → get_or (view f l) v 0 ≡ f (get_or l v 0)
  view_at none l v = subst (λ (z : ℕ). get_or (view f l) v z ≡ f (get_or l v 0)) none (get_or-map f l v 0)

  pub view_set : (l : List ℕ) (v x : ℕ) → view f (set l v x) ≡ set (view f l) v (f x)
  view_set [] v x = refl
  view_set (y ∷ l) zero x = refl
  view_set (y ∷ l) (suc v) x = ap (λ (m : List ℕ). f y ∷ m) (view_set l v x)

  pub view_drop : (n : ℕ) (l : List ℕ) → view f (drop n l) ≡ drop n (view f l)
  view_drop zero l = refl
  view_drop (suc n) [] = refl
  view_drop (suc n) (y ∷ l) = view_drop n l
