-- Entries of lists of anything, by their places: each is a member, each member has a place, and a mapped list has the entries' values.
use Prim.Native.Nat.{ℕ, zero, suc, ◌<◌, zero-le, suc-le-suc}
use native.Mathlib.Nat.{le_of_suc-le-suc, not-suc-le-zero}
use mathlib.Core.Path.{◌≡◌, refl, sym}
use mathlib.Core.List.{List, [], ◌∷◌, map, Memᴰ}
use lib.ListN.{length, get_or}

module _ {A : Type 0} (default : A) where
  pub entry_member : (l : List A) (i : ℕ) → i < length l → Memᴰ (get_or l i default) l
  entry_member [] i h = absurd (not-suc-le-zero h)
  entry_member (x ∷ l) zero h = Memᴰ.head refl
  entry_member (x ∷ l) (suc i) h = Memᴰ.tail (entry_member l i (le_of_suc-le-suc h))

  -- where a member stands
  pub record PlaceOf (x : A) (l : List A) : Type 0 where
    pub at : ℕ
    pub inside : at < length l
    pub entry : get_or l at default ≡ x

  pub member_place : {x : A} {l : List A} → Memᴰ x l → PlaceOf x l
  member_place (Memᴰ.head e) = record { at = zero; inside = suc-le-suc zero-le; entry = sym e }
  member_place {x} (Memᴰ.tail {x = y} {xs = l} m) = later (member_place m)
    where
      later : PlaceOf x l → PlaceOf x (y ∷ l)
      later p = record { at = suc p.at; inside = suc-le-suc p.inside; entry = p.entry }

pub mapped_at : {A B : Type 0} (f : A → B) (x : A) (y : B) (l : List A) (i : ℕ) → i < length l → get_or (map f l) i y ≡ f (get_or l i x)
mapped_at f x y [] i h = absurd (not-suc-le-zero h)
mapped_at f x y (a ∷ l) zero h = refl
mapped_at f x y (a ∷ l) (suc i) h = mapped_at f x y l i (le_of_suc-le-suc h)
