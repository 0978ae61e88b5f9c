-- The roles of a walk: to meet nodes in the roles is to mark them in the two views.
use Prim.Native.Nat.{ℕ, ◌+◌, ◌≤◌, ◌<◌}
use native.Mathlib.Decide.{dec_lt, ℕ_discrete}
use native.Mathlib.Omega.{arith}
use mathlib.Core.Path.{◌≡◌, refl, ap, ◌∙◌}
use mathlib.Core.Bool.{Bool, true, false, cond, ◌||◌}
use mathlib.Core.Logic.{◌⊎◌, inl, inr}
use mathlib.Core.List.{List, [], ◌∷◌, Memᴰ}
use lib.Dec.{eqb}
use lib.ListN.{length, get_or, set, length-set}
use lib.Seq.{set_out, map-set_same, drop-set-lt, get_or-set_same, get_or-set_other}
use Rattle.storage.specs.Entries.{Beyond}
use Rattle.storage.specs.Roles.{walked_bit, met_bit, walked_in, met_in}
use Rattle.storage.proofs.Clears.{beyond_same, beyond_then}
use Rattle.storage.proofs.Entries.{is_member_lem, no_member}
use Rattle.storage.proofs.Views.{view_set}
use Rattle.storage.proofs.InRoles.{walked_at, walked_bit_lem, walked_or}
use Rattle.theory.specs.Members.{is_member}
use Rattle.theory.specs.paper.Values.{bit}
use Rattle.walking.specs.Walking.{meet_one, meet_all, mark_one, mark_open}

-- What a node that is met becomes

met_keeps : (r : ℕ) → walked_bit (2 + walked_bit r) ≡ walked_bit r
unfolding walked_bit
met_keeps r = either (eqb r 1 || eqb r 3)
  where
    either : (b : Bool) → walked_bit (2 + bit b) ≡ bit b
    either true = refl
    either false = refl

met_both : (r : ℕ) (leaf : Bool) → met_bit (cond leaf (2 + walked_bit r) 3) ≡ 1
unfolding walked_bit met_bit
met_both r false = refl
met_both r true = either (eqb r 1 || eqb r 3)
  where
    either : (b : Bool) → met_bit (2 + bit b) ≡ 1
    either true = refl
    either false = refl

met_most : (r : ℕ) (leaf : Bool) → cond leaf (2 + walked_bit r) 3 ≤ 3
met_most r false = omega arith
met_most r true = either (walked_or r)
  where
    either : (walked_bit r ≡ 0) ⊎ (walked_bit r ≡ 1) → 2 + walked_bit r ≤ 3
    either (inl none) = omega arith
    either (inr some) = omega arith

module _ (leaves : List ℕ) where
  -- One node

  module _ (roles : List ℕ) (u : ℕ) where
    pub leaf_met : Memᴰ u leaves → (get_or (walked_in roles) u 0 ≡ 1 → ⊥) → set roles u 2 ≡ meet_one leaves roles u
    leaf_met leaf out = rw (is_member_lem leaf) (ap (set roles u) (either (walked_bit_lem roles u)))
      where
        either : (get_or (walked_in roles) u 0 ≡ 0) ⊎ (get_or (walked_in roles) u 0 ≡ 1) → 2 ≡ 2 + walked_bit (get_or roles u 0)
        either (inl none) = omega (arith, walked_at roles u)
        either (inr some) = absurd (out some)

    pub leaf_both : Memᴰ u leaves → get_or (walked_in roles) u 0 ≡ 1 → set roles u 3 ≡ meet_one leaves roles u
    leaf_both leaf one =
        let both : 3 ≡ 2 + walked_bit (get_or roles u 0) = omega (arith, walked_at roles u) in
        rw (is_member_lem leaf) (ap (set roles u) both)

    pub open_both : (Memᴰ u leaves → ⊥) → set roles u 3 ≡ meet_one leaves roles u
    open_both out = rw (no_member out)

  walked_one : (roles : List ℕ) (u : ℕ) → walked_in (meet_one leaves roles u) ≡ mark_one leaves (walked_in roles) u
  unfolding walked_bit
  walked_one roles u = either (is_member u leaves)
    where
      either : (leaf : Bool) → walked_in (set roles u (cond leaf (2 + walked_bit (get_or roles u 0)) 3)) ≡ cond leaf (walked_in roles) (set (walked_in roles) u 1)
      either true = map-set_same walked_bit roles u _ 0 (met_keeps (get_or roles u 0))
      either false = view_set walked_bit roles u 3

  met_one : (roles : List ℕ) (u : ℕ) → met_in (meet_one leaves roles u) ≡ set (met_in roles) u 1
  met_one roles u = view_set met_bit roles u _ ∙ ap (set (met_in roles) u) (met_both (get_or roles u 0) (is_member u leaves))

  one_most : (roles : List ℕ) (u v : ℕ) → get_or roles v 0 ≤ 3 → get_or (meet_one leaves roles u) v 0 ≤ 3
  one_most roles u v low = either (ℕ_discrete v u) (dec_lt u (length roles))
    where
      either : Dec (v ≡ u) → Dec (u < length roles) → get_or (meet_one leaves roles u) v 0 ≤ 3
      either (no apart) inside = rw (get_or-set_other roles u v _ 0 apart) low
      either (yes e) (yes inside) = rw (e, get_or-set_same roles u _ 0 inside) (met_most (get_or roles u 0) (is_member u leaves))
      either (yes e) (no outside) = rw (set_out roles u _ (omega arith)) low

  -- Nodes one after the other

  pub walked_meets : (roles us : List ℕ) → walked_in (meet_all leaves roles us) ≡ mark_open leaves (walked_in roles) us
  unfolding meet_all mark_open
  walked_meets roles [] = refl
  walked_meets roles (u ∷ us) =
      walked_meets (meet_one leaves roles u) us ∙ ap (λ (x : List ℕ). mark_open leaves x us) (walked_one roles u)

  pub met_meets : (roles us : List ℕ) → met_in (meet_all leaves roles us) ≡ mark_open [] (met_in roles) us
  unfolding meet_all mark_open is_member
  met_meets roles [] = refl
  met_meets roles (u ∷ us) =
      met_meets (meet_one leaves roles u) us ∙ ap (λ (x : List ℕ). mark_open [] x us) (met_one roles u)

  pub meets_most : (roles us : List ℕ) (v : ℕ) → get_or roles v 0 ≤ 3 → get_or (meet_all leaves roles us) v 0 ≤ 3
  unfolding meet_all
  meets_most roles [] v low = low
  meets_most roles (u ∷ us) v low = meets_most (meet_one leaves roles u) us v (one_most roles u v low)

  pub meets_rest : (n : ℕ) (roles us : List ℕ) → ((u : ℕ) → Memᴰ u us → u < n) → Beyond n roles (meet_all leaves roles us)
  unfolding meet_all
  meets_rest n roles [] below = beyond_same n roles
  meets_rest n roles (u ∷ us) below =
      beyond_then
      (record { size = length-set roles u _; beyond = drop-set-lt n roles u _ (below u (Memᴰ.head refl)) })
      (meets_rest n (meet_one leaves roles u) us (λ v m. below v (Memᴰ.tail m)))
