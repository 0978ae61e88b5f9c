-- The steps of `cover` and `depth`: marks set one after the other, marks counted, and the greatest label, each one entry at a time.
use Prim.Native.Nat.{ℕ, zero, suc, max, ◌+◌, ◌≤◌, ◌<◌}
use native.Mathlib.Numerals.{add-one}
use native.Mathlib.Omega.{arith}
use mathlib.Core.Path.{◌≡◌, refl, ◌∙◌}
use mathlib.Core.Logic.{◌⊎◌, inl, inr}
use mathlib.Core.List.{List, [], ◌∷◌, ◌++◌}
use lib.ListN.{length, get_or, take}
use lib.Seq.{get_or-take}
use lib.Dec.{eqb}
use Rattle.std.specs.Prelude.{◌≢◌, true, false}
use Rattle.std.proofs.lemmas.Bool.Decides.{eqb_tells}
use Rattle.std.specs.List.{count_by}
use Rattle.std.proofs.lemmas.List.Sums.{count_by_more_yes, count_by_more_no}
use Rattle.storage.specs.Entries.{Beyond}
use Rattle.storage.proofs.Clears.{drop_same}
use Rattle.theory.specs.paper.Lists.{greatest}
use Rattle.theory.specs.paper.Values.{bit}
use Rattle.covering.specs.Covers.{is_root, lut_count, GateAmong, GatesMarked}

-- Marks

-- marks of gates below `nodes` leave what lies beyond
pub marked_beyond : {ids : List ℕ} {at many inputs nodes : ℕ} {before after : List ℕ} → GatesMarked ids at many inputs before after →
    ((v : ℕ) → GateAmong ids at many inputs v → v < nodes) → Beyond nodes before after
marked_beyond {ids} {at} {many} {inputs} {nodes} {before} {after} m low =
    record { size = m.long; beyond = drop_same nodes after before m.long (λ v far. kept v far (m.others v)) }
  where
    kept : (v : ℕ) → nodes ≤ v → (get_or after v 0 ≡ get_or before v 0) ⊎ GateAmong ids at many inputs v → get_or after v 0 ≡ get_or before v 0
    kept v far (inl e) = e
    kept v far (inr a) = absurd (omega (arith, low v a))

-- Counts

module _ (marks : List ℕ) (nodes : ℕ) where
  roots_below : (n : ℕ) → n ≤ nodes → n ≤ length marks → count_by (λ (m : ℕ). eqb m 1) (take n marks) ≡ lut_count (is_root nodes marks) n
  unfolding lut_count is_root
  roots_below zero few long = refl
  roots_below (suc n) few long = by (roots_below n (omega (arith, few)) (omega (arith, long))) (eqb_tells (get_or marks n 0) 1)
    where
      here : is_root nodes marks n ≡ eqb (get_or marks n 0) 1
      here = rw (get_or-take nodes marks n 0 few)

      by : count_by (λ (m : ℕ). eqb m 1) (take n marks) ≡ lut_count (is_root nodes marks) n →
          ((eqb (get_or marks n 0) 1 ≡ true) × (get_or marks n 0 ≡ 1)) ⊎ ((eqb (get_or marks n 0) 1 ≡ false) × (get_or marks n 0 ≢ 1)) →
          count_by (λ (m : ℕ). eqb m 1) (take (suc n) marks) ≡ bit (is_root nodes marks n) + lut_count (is_root nodes marks) n
      by so_far (inl (root, _)) =
          let one : bit (is_root nodes marks n) ≡ 1 = rw (here, root) in
          (rw (add-one n) at (count_by_more_yes (λ (m : ℕ). eqb m 1) marks n 0 long root)) ∙ omega (arith, so_far, one)
      by so_far (inr (plain, _)) =
          let none : bit (is_root nodes marks n) ≡ 0 = rw (here, plain) in
          (rw (add-one n) at (count_by_more_no (λ (m : ℕ). eqb m 1) marks n 0 long plain)) ∙ omega (arith, so_far, none)

  pub roots_counted : nodes ≤ length marks → count_by (λ (m : ℕ). eqb m 1) (take nodes marks) ≡ lut_count (is_root nodes marks) nodes
  roots_counted long = roots_below nodes (omega arith) long

-- The greatest label

pub greatest_push : (l : List ℕ) (v : ℕ) → greatest (l ++ (v ∷ [])) ≡ max (greatest l) v
unfolding greatest
greatest_push [] v = omega arith
greatest_push (x ∷ l) v = rw (greatest_push l v) (omega arith)
