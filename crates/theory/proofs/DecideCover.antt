-- A test for covers, proved to be true exactly where the definition holds. The LUTs come as the list of their roots and the leaves of each.
use Prim.Native.Nat.{ℕ, ◌<◌}
use mathlib.Core.Path.{◌≡◌}
use mathlib.Core.Logic.{◌⊎◌, inl, inr}
use mathlib.Core.Bool.{Bool, true, not, ◌&&◌, ◌||◌}
use mathlib.Core.List.{List, Memᴰ}
use lib.Dec.{ltb}
use Rattle.theory.specs.paper.Net.{Net}
use Rattle.theory.specs.paper.Sound.{Bounded}
use Rattle.theory.specs.paper.Cover.{Luts, Wanted, Cover}
use Rattle.theory.specs.Members.{luts_of, is_member}
use Rattle.theory.proofs.Tests.{Decides, decides_as, decides_itself, ◌and_then◌, decides_or, decides_if}
use Rattle.theory.proofs.Tests.{decides_lt, decides_member, decides_every, decides_below, decides_some_below}
use Rattle.theory.proofs.Tests.{every, every_below, some_below}
use Rattle.theory.proofs.DecideNet.{is_gate, decides_gate}
use Rattle.theory.proofs.DecideCut.{is_cut, decides_cut}

unfoldable is_wanted : Net → List ℕ → Luts → ℕ → Bool
unfolding is_member some_below
is_wanted net outputs luts v = is_member v outputs || some_below net.nodes (λ r. luts.root r && is_member v (luts.leaves r))

unfoldable is_cover_of : Net → ℕ → List ℕ → Luts → Bool
unfolding every_below is_gate is_cut is_wanted
is_cover_of net k outputs luts =
    every_below net.nodes (λ r. not (luts.root r) || (is_gate net r && is_cut net k r (luts.leaves r) && is_wanted net outputs luts r)) &&
    every_below net.nodes (λ v. not (is_gate net v) || (not (is_wanted net outputs luts v) || luts.root v))

unfoldable pub is_cover : Net → ℕ → List ℕ → List ℕ → (ℕ → List ℕ) → Bool
unfolding every is_cover_of is_member
is_cover net k outputs roots leaves = every (λ r. ltb r net.nodes) roots && is_cover_of net k outputs (luts_of roots leaves)

module _ {net : Net} {b : ℕ} (bounded : Bounded net b) (luts : Luts) (below : (r : ℕ) → luts.root r ≡ true → r < net.nodes) (outputs : List ℕ) where
  decides_wanted : (v : ℕ) → Decides (is_wanted net outputs luts v) (Wanted outputs luts v)
  unfolding is_wanted
  decides_wanted v = decides_as whole split
      (decides_or
      (decides_member v outputs)
      (decides_some_below net.nodes _ (λ r _. decides_itself (luts.root r) and_then (λ _. decides_member v (luts.leaves r)))))
    where
      whole : Memᴰ v outputs ⊎ ((r : ℕ) × (r < net.nodes) × ((luts.root r ≡ true) × Memᴰ v (luts.leaves r))) → Wanted outputs luts v
      whole (inl m) = Wanted.output m
      whole (inr h) = Wanted.leaf h.0 h.2.0 h.2.1

      split : Wanted outputs luts v → Memᴰ v outputs ⊎ ((r : ℕ) × (r < net.nodes) × ((luts.root r ≡ true) × Memᴰ v (luts.leaves r)))
      split (Wanted.output m) = inl m
      split (Wanted.leaf r root m) = inr (r, below r root, (root, m))

  decides_cover_of : (k : ℕ) → Decides (is_cover_of net k outputs luts) (Cover net k outputs luts)
  unfolding is_cover_of
  decides_cover_of k = decides_as
      (λ h. record {
        gates = λ r root. (h.0 r (below r root) root).0.0;
        cuts = λ r root. (h.0 r (below r root) root).0.1;
        closed = λ v gate wanted. h.1 v gate.below gate wanted;
        needed = λ r root. (h.0 r (below r root) root).1;
      })
      (λ c. (λ r _ root. ((c.gates r root, c.cuts r root), c.needed r root), λ v _ gate wanted. c.closed v gate wanted))
      (decides_below net.nodes _ (λ r node. decides_if (decides_itself (luts.root r)) (λ _. decides_gate net r
      and_then (λ _. decides_cut bounded node k (luts.leaves r))
      and_then (λ _. decides_wanted r)))
      and_then (λ _. decides_below net.nodes _ (λ v _. decides_if (decides_gate net v) (λ _. decides_if (decides_wanted v) (λ _. decides_itself (luts.root v))))))

pub decides_cover : {net : Net} {b : ℕ} → Bounded net b → (k : ℕ) (outputs roots : List ℕ) (leaves : ℕ → List ℕ) →
    Decides (is_cover net k outputs roots leaves) (Cover net k outputs (luts_of roots leaves))
unfolding is_cover
decides_cover {net} bounded k outputs roots leaves = decides_as
    (λ h. h.1)
    (λ c. (λ r m. (c.gates r ((decides_member r roots).passes m)).below, c))
    (decides_every _ (λ r. decides_lt r net.nodes) roots
    and_then (λ below. decides_cover_of bounded (luts_of roots leaves) (λ r e. below r ((decides_member r roots).holds e)) outputs k))
