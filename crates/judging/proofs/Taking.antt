-- A path takes a node by its role: a node that is taken is free no more, and an end if it was one.
use Prim.Native.Nat.{ℕ, ◌<◌}
use native.Mathlib.Decide.{ℕ_discrete}
use native.Mathlib.Omega.{arith}
use mathlib.Core.Path.{◌≡◌, refl, ap, sym, ◌∙◌}
use mathlib.Core.Bool.{true}
use mathlib.Core.List.{List}
use lib.ListN.{length, get_or, set, length-set}
use lib.Seq.{drop-set-lt, map-set_same}
use borrow.Author.Tests.{eqb-true, ne_eqb}
use Rattle.storage.specs.Entries.{Beyond}
use Rattle.storage.specs.Roles.{area_bit, end_bit, area_in, ends_in}
use Rattle.storage.proofs.Views.{view_set}
use Rattle.storage.proofs.InRoles.{area_at}
use Rattle.judging.specs.Paths.{is_marked, Taken}

module _ (roles : List ℕ) (v : ℕ) where
  -- what is free and no end lies in the area
  free_inside : is_marked (area_in roles) v ≡ true → (get_or roles v 0 ≡ 6 → ⊥) → get_or roles v 0 ≡ 5
  unfolding area_bit
  free_inside free apart = by_value (ℕ_discrete (get_or roles v 0) 5)
    where
      marked : area_bit (get_or roles v 0) ≡ 1
      marked = sym (area_at roles v) ∙ eqb-true (get_or (area_in roles) v 0) 1 free

      by_value : Dec (get_or roles v 0 ≡ 5) → get_or roles v 0 ≡ 5
      by_value (yes e) = e
      by_value (no other) = absurd (let none = rw (ne_eqb (get_or roles v 0) 5 other, ne_eqb (get_or roles v 0) 6 apart) at marked in omega arith)

  -- The store

  pub take_end : get_or roles v 0 ≡ 6 → Taken roles v (set roles v 8)
  unfolding area_bit end_bit
  take_end e = record { role = 8; stored = refl; unfree = refl; end_still = rw e }

  pub take_inside : is_marked (area_in roles) v ≡ true → (get_or roles v 0 ≡ 6 → ⊥) → Taken roles v (set roles v 7)
  unfolding area_bit end_bit
  take_inside free apart = record { role = 7; stored = refl; unfree = refl; end_still = rw (free_inside free apart) }

module _ {roles roles' : List ℕ} {v : ℕ} (taken : Taken roles v roles') where
  pub taken_area : area_in roles' ≡ set (area_in roles) v 0
  taken_area = ap area_in taken.stored ∙ view_set area_bit roles v taken.role ∙ ap (set (area_in roles) v) taken.unfree

  pub taken_ends : ends_in roles' ≡ ends_in roles
  taken_ends = ap ends_in taken.stored ∙ map-set_same end_bit roles v taken.role 0 taken.end_still

  pub taken_size : length roles' ≡ length roles
  taken_size = ap length taken.stored ∙ length-set roles v taken.role

  pub taken_beyond : (n : ℕ) → v < n → Beyond n roles roles'
  taken_beyond n low = record { size = taken_size; beyond = rw taken.stored (drop-set-lt n roles v taken.role low) }
