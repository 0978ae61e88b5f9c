-- Covers at their least depth. No cover is shallower than the greatest label of its outputs; where each root's leaves show its label, as in the
-- mapper's cover, a root's depth is its label and the cover's depth is that greatest label. Covers that have the same cuts have the same roots,
-- by induction from the outputs down the ranks.
use Prim.Native.Nat.{ℕ, suc, ◌-◌, ◌≤◌, ◌<◌}
use native.Mathlib.Omega.{arith}
use mathlib.Core.Path.{◌≡◌, refl, sym, subst}
use mathlib.Core.Bool.{Bool, true, false}
use mathlib.Core.List.{List, map, Memᴰ}
use Rattle.theory.specs.paper.Net.{Net}
use Rattle.theory.specs.paper.Sound.{Bounded, Ranked}
use Rattle.theory.specs.paper.Lists.{greatest}
use Rattle.theory.specs.paper.Cover.{Luts, Wanted, Cover, Depth, Depths}
use Rattle.theory.proofs.Ranks.{by_rank, common_bound}
use Rattle.theory.proofs.Members.{at_most_greatest, greatest_at_most}
use Rattle.theory.proofs.Walks.{met_rank}
use Rattle.theory.proofs.Depths.{Within, EachWithin, Placed, within_depth, within_depths, within_more, within_numbers, depth_within, depths_within, wanted_placed}
use Rattle.theory.proofs.Bounds.{lower_bound}
use Rattle.theory.proofs.FlowMap.{Labels, labels_at_inputs, labels_unbeaten}

module _ {net : Net} {k : ℕ} {outputs : List ℕ} {lab : ℕ → ℕ} (bounded : Bounded net k) (ranked : Ranked net) (labels : Labels net k outputs lab) where
  module _ {wanted : List ℕ} {luts : Luts} (cover : Cover net k wanted luts) where
    label_at_most_depth : {v e : ℕ} → Within net luts v e → lab v ≤ e
    label_at_most_depth within = lower_bound (labels_at_inputs bounded ranked labels) (labels_unbeaten bounded ranked labels) cover within

    -- no cover is shallower
    pub no_cover_shallower : {d : ℕ} → Depths net luts wanted d → greatest (map lab wanted) ≤ d
    no_cover_shallower {d} depths = greatest_at_most lab wanted d (λ v m. label_at_most_depth (within_depths depths v m))

    module _ (shown : (r : ℕ) → luts.root r ≡ true → lab r ≡ suc (greatest (map lab (luts.leaves r)))) where
      within_label : {v : ℕ} → Placed net luts v → Within net luts v (lab v)
      within_label placed = within_numbers bounded.nodes cover lab (λ r at. let e = shown r at in omega arith) placed

      -- a root's depth is its label
      pub depth_is_label : {v : ℕ} → Placed net luts v → Depth net luts v (lab v)
      depth_is_label {v} placed =
          let (d, less, depth) = depth_within (within_label placed) in
          let same : d ≡ lab v = let least = label_at_most_depth (within_depth depth) in omega arith in
          subst (Depth net luts v) same depth

      -- the cover's depth is the greatest label of its outputs
      pub cover_depth_is_label : ((v : ℕ) → Memᴰ v wanted → v < net.nodes) → Depths net luts wanted (greatest (map lab wanted))
      cover_depth_is_label nodes =
          let each : EachWithin net luts wanted (greatest (map lab wanted)) =
          λ v m. within_more (at_most_greatest lab m) (within_label (wanted_placed cover (nodes v m) (Wanted.output m))) in
          let (d, less, depths) = depths_within wanted (greatest (map lab wanted)) each in
          let same : d ≡ greatest (map lab wanted) = let least = no_cover_shallower depths in omega arith in
          subst (Depths net luts wanted) same depths

-- The mapper's cover is one

pub same_test : (a b : Bool) → (a ≡ true → b ≡ true) → (b ≡ true → a ≡ true) → a ≡ b
same_test true b there back = sym (there refl)
same_test false true there back = back refl
same_test false false there back = refl

module _ {net : Net} {k : ℕ} {outputs : List ℕ} (ranked : Ranked net) where
  module _ {luts other : Luts} (cover : Cover net k outputs luts) (cover' : Cover net k outputs other)
      (same : (r : ℕ) → luts.root r ≡ true → other.root r ≡ true → luts.leaves r ≡ other.leaves r) where
    abbrev RootMoves : ℕ → Type 0
    RootMoves r = luts.root r ≡ true → other.root r ≡ true

    -- a root is an output, or a leaf of a root of a higher rank
    moves_after : (r : ℕ) → ((s : ℕ) → luts.root s ≡ true → ranked.rank r < ranked.rank s → other.root s ≡ true) → RootMoves r
    moves_after r higher at = by_want (cover.needed r at)
      where
        by_want : Wanted outputs luts r → other.root r ≡ true
        by_want (Wanted.output m) = cover'.closed r (cover.gates r at) (Wanted.output m)
        by_want (Wanted.leaf s up m) =
            let up' = higher s up (met_rank ranked ((cover.cuts s up).met r m)) in
            cover'.closed r (cover.gates r at) (Wanted.leaf s up' (subst (Memᴰ r) (same s up up') m))

    root_moves : (r : ℕ) → RootMoves r
    root_moves =
        let (b, above) = common_bound ranked.rank net.nodes in
        by_rank RootMoves (λ r. b - ranked.rank r) (λ r higher.
        moves_after r (λ s up less. higher s (let low = above s (cover.gates s up).below in omega arith) up))

  -- covers whose common roots have the same leaves have the same roots
  pub roots_are_one : {luts other : Luts} → Cover net k outputs luts → Cover net k outputs other →
      ((r : ℕ) → luts.root r ≡ true → other.root r ≡ true → luts.leaves r ≡ other.leaves r) → (r : ℕ) → luts.root r ≡ other.root r
  roots_are_one {luts} {other} cover cover' same r =
      same_test (luts.root r) (other.root r) (root_moves cover cover' same r) (root_moves cover' cover (λ s at at'. sym (same s at' at)) r)
