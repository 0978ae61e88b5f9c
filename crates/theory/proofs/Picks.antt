-- Values picked along a list of nodes: two functions that agree at the members give the same list of values and back, and each list of
-- values is that of some function if no node stands twice.
use Prim.Native.Nat.{ℕ}
use native.Mathlib.Omega.{arith}
use mathlib.Core.Path.{◌≡◌, refl, sym, ap, ap₂, ◌∙◌}
use mathlib.Core.Bool.{Bool, false, cond}
use mathlib.Core.List.Memᴰ
use mathlib.Core.List.{List, [], ◌∷◌, map, Memᴰ}
use lib.ListN.{length}
use lib.Dec.{eqb}
use borrow.Author.Tests.{eq-eqb, ne_eqb}
use Rattle.theory.specs.paper.Lists.{NoRepeats}

module _ {A : Type 0} {B : Type 0} (f g : A → B) where
  pub map_agree : (us : List A) → ((u : A) → Memᴰ u us → f u ≡ g u) → map f us ≡ map g us
  map_agree [] same = refl
  map_agree (u ∷ us) same = ap₂ {C = List B} ◌∷◌ (same u (Memᴰ.head refl)) (map_agree us (λ w m. same w (Memᴰ.tail m)))

  pub agree_of_map : {v : A} {us : List A} → map f us ≡ map g us → Memᴰ v us → f v ≡ g v
  agree_of_map {v} same (Memᴰ.head {x = u} e) = let h : f u ≡ g u = cc in ap f e ∙ h ∙ sym (ap g e)
  agree_of_map same (Memᴰ.tail {xs = us} m) = agree_of_map (let h : map f us ≡ map g us = cc in h) m

-- the value at v of those written beside the nodes
unfoldable pub setting_of : List ℕ → List Bool → ℕ → Bool
setting_of [] bs v = false
setting_of (u ∷ us) [] v = false
setting_of (u ∷ us) (b ∷ bs) v = cond (eqb v u) b (setting_of us bs v)

pub setting_written : {us : List ℕ} (bs : List Bool) → NoRepeats us → length bs ≡ length us → map (setting_of us bs) us ≡ bs
unfolding setting_of
setting_written [] NoRepeats.none long = refl
setting_written (b ∷ bs) NoRepeats.none long = absurd (omega arith)
setting_written [] (NoRepeats.more fresh rest) long = absurd (omega arith)
setting_written (b ∷ bs) (NoRepeats.more {v = u} {vs = us} fresh rest) long =
    ap₂ {C = List Bool} ◌∷◌ (ap (λ (t : Bool). cond t b (setting_of us bs u)) (eq-eqb u u refl)) (map_agree _ _ us later ∙ setting_written bs rest (omega arith))
  where
    later : (w : ℕ) → Memᴰ w us → cond (eqb w u) b (setting_of us bs w) ≡ setting_of us bs w
    later w m = ap (λ (t : Bool). cond t b (setting_of us bs w)) (ne_eqb w u (λ e. fresh (Memᴰ.cast (sym e) m)))
