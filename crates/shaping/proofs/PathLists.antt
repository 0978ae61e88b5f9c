-- Paths read one at a time: where they end, and the range rules on them.
use Prim.Native.Nat.{ℕ, zero, suc, ◌+◌, ◌*◌, ◌-◌, ◌<◌, ◌≤◌}
use native.Mathlib.Omega.{arith}
use mathlib.Core.Path.{◌≡◌, refl, ap, sym, ◌∙◌}
use mathlib.Core.Bool.{Bool, true, false, not, ◌||◌, ◌&&◌, or-true}
use mathlib.Core.List.{List, ◌∷◌}
use borrow.Author.Tests.{le-leb, lt-leb, eq-eqb, ne_eqb, eqb-true, not-true, not-false}
use lib.ListN.{length}
use lib.Dec.{leb, eqb}
use Rattle.theory.specs.paper.Evidence.{joined}
use Rattle.drawing.specs.paper.Bytes.{some_from, ids_at}
use Rattle.drawing.specs.Bytes.{SmallAt}
use Rattle.drawing.proofs.Digits.{some_from_append}
use Rattle.sheet.specs.paper.Shape.{path_end, paths_at, paths_use, some_empty}
use Rattle.shaping.specs.Numbers.{paths_end}
use Rattle.drawing.proofs.Ids.{length_ids, from_one}

second_true : (a b : Bool) → (a && b) ≡ true → b ≡ true
second_true true b e = e
second_true false b e = absurd (let z : ◌≡◌ {A = ℕ} 0 1 = cc in omega arith)

module _ (s : List ℕ) (width : ℕ) where
  pub paths_length : (at q : ℕ) → length (paths_at s at width q) ≡ q
  unfolding paths_at
  paths_length at zero = refl
  paths_length at (suc q) = ap suc (paths_length (path_end s at width) q)

  pub ends_after : (at q : ℕ) → at ≤ paths_end s at width q
  unfolding paths_end
  ends_after at zero = omega arith
  ends_after at (suc q) = omega (arith, ends_after (path_end s at width) q)

  -- the first path's length lies before where they end
  pub ends_inside : (at q : ℕ) → 0 < q → at + width ≤ paths_end s at width q
  unfolding paths_end
  ends_inside at zero some = absurd (omega (arith, some))
  ends_inside at (suc q) some = omega (arith, ends_after (path_end s at width) q)

  past_end : (at q end : ℕ) → end < at → paths_use s at width q end ≡ false
  unfolding paths_use
  past_end at zero end past = ne_eqb at end (λ e. omega (arith, e, past))
  past_end at (suc q) end past = rw (lt-leb (at + width) end (omega arith))

  -- paths that use the value up end where it does
  pub used_to : (at q end : ℕ) → paths_use s at width q end ≡ true → paths_end s at width q ≡ end
  unfolding paths_use paths_end
  used_to at zero end e = eqb-true at end e
  used_to at (suc q) end e = used_to (path_end s at width) q end (second_true (leb (at + width) end) (paths_use s (path_end s at width) width q end) e)

  module _ (at left end : ℕ) where
    pub use_none : left ≤ 0 → paths_use s at width left end ≡ eqb at end
    unfolding paths_use
    use_none none = let z : left ≡ 0 = omega (arith, none) in ap (λ (q : ℕ). paths_use s at width q end) z

    pub use_torn : 0 < left → end < at + width → paths_use s at width left end ≡ false
    unfolding paths_use
    use_torn some past = ap (λ (q : ℕ). paths_use s at width q end) (from_one left some) ∙ rw (lt-leb (at + width) end past)

    module _ {size : ℕ} (read : SmallAt s at width size) (some : 0 < left) (begun : at + width ≤ end) where
      to : path_end s at width ≡ at + (width + size * width)
      to = omega (arith, ap (λ (n : ℕ). n * width) read.number)

      pub use_next : paths_use s at width left end ≡ paths_use s (at + (width + size * width)) width (left - 1) end
      unfolding paths_use
      use_next =
          ap (λ (q : ℕ). paths_use s at width q end) (from_one left some)
          ∙ rw (le-leb (at + width) end begun)
          (ap (λ (n : ℕ). paths_use s n width (left - 1) end) to)

      pub use_past : end < at + (width + size * width) → paths_use s at width left end ≡ false
      use_past past = use_next ∙ past_end (at + (width + size * width)) (left - 1) end past

  -- "empty path; id of n or more"
  abbrev pub out_of_range : (nodes at q : ℕ) → Bool
  out_of_range nodes at q = some_empty (paths_at s at width q) || some_from nodes (joined (paths_at s at width q))

  module _ (nodes at left : ℕ) where
    pub range_none : left ≤ 0 → out_of_range nodes at left ≡ false
    unfolding paths_at some_empty joined some_from
    range_none none = let z : left ≡ 0 = omega (arith, none) in ap (out_of_range nodes at) z

    module _ {size : ℕ} (read : SmallAt s at width size) (some : 0 < left) where
      abbrev path : List ℕ
      path = ids_at s (at + width) width size

      abbrev rest : List (List ℕ)
      rest = paths_at s (at + width + size * width) width (left - 1)

      as_read : paths_at s at width left ≡ path ∷ rest
      unfolding paths_at
      as_read =
          ap (paths_at s at width) (from_one left some)
          ∙ ap (λ (n : ℕ). ids_at s (at + width) width n ∷ paths_at s (at + width + n * width) width (left - 1)) (sym read.number)

      pub ends_next : paths_end s at width left ≡ paths_end s (at + width + size * width) width (left - 1)
      unfolding paths_end
      ends_next =
          ap (paths_end s at width) (from_one left some) ∙ ap (λ (n : ℕ). paths_end s (at + width + n * width) width (left - 1)) (sym read.number)

      pub range_empty : size ≡ 0 → out_of_range nodes at left ≡ true
      unfolding some_empty
      range_empty none =
          ap (λ (ps : List (List ℕ)). some_empty ps || some_from nodes (joined ps)) as_read
          ∙ rw (eq-eqb (length path) 0 (length_ids s (at + width) width size ∙ none))

      module _ {below : Bool} (told : below ≡ not (some_from nodes path)) where
        pub range_far : below ≡ false → out_of_range nodes at left ≡ true
        unfolding joined
        range_far far =
            ap (λ (ps : List (List ℕ)). some_empty ps || some_from nodes (joined ps)) as_read
            ∙ rw (some_from_append nodes path (joined rest), not-false (some_from nodes path) (sym told ∙ far)) (or-true (some_empty (path ∷ rest)))

        pub range_next : (size ≡ 0 → ⊥) → below ≡ true → out_of_range nodes at left ≡ out_of_range nodes (at + width + size * width) (left - 1)
        unfolding joined some_empty
        range_next filled near =
            ap (λ (ps : List (List ℕ)). some_empty ps || some_from nodes (joined ps)) as_read
            ∙ rw (
              some_from_append nodes path (joined rest),
              not-true (some_from nodes path) (sym told ∙ near),
              ne_eqb (length path) 0 (λ e. filled (sym (length_ids s (at + width) width size) ∙ e)),
            )
