-- Tests for a net's form: gates, bounds, and a claimed rank, each proved to be true exactly where the definition holds. Numbers that pass for
-- a rank at the nodes are one where nothing beyond the nodes has fanins.
use Prim.Native.Nat.{ℕ, ◌≤◌, ◌<◌}
use native.Mathlib.Decide.{dec_lt}
use native.Mathlib.Omega.{arith}
use mathlib.Core.Path.{◌≡◌, refl}
use mathlib.Core.Bool.{Bool, not, ◌&&◌, ◌||◌}
use mathlib.Core.List.Memᴰ
use mathlib.Core.List.{List, [], ◌∷◌, Memᴰ}
use lib.ListN.{length}
use lib.Dec.{leb, ltb, eqb}
use Rattle.theory.specs.paper.Net.{Net, Gate}
use Rattle.theory.specs.paper.Sound.{Bounded, Ranked}
use Rattle.theory.proofs.Tests.{Decides, decides_as, ◌and_then◌, decides_if, decides_le, decides_lt, decides_equal, decides_every, decides_below, every, every_below}

unfoldable pub is_gate : Net → ℕ → Bool
is_gate net v = leb net.inputs v && ltb v net.nodes

pub decides_gate : (net : Net) (v : ℕ) → Decides (is_gate net v) (Gate net v)
unfolding is_gate
decides_gate net v = decides_as (λ k. record { above = k.0; below = k.1 }) (λ g. (g.above, g.below)) (decides_le net.inputs v and_then (λ _. decides_lt v net.nodes))

no_length : {A : Type 0} (l : List A) → length l ≡ 0 → l ≡ []
no_length [] e = refl
no_length (x ∷ l) e = absurd (omega arith)

unfoldable is_bounded_at : Net → ℕ → ℕ → Bool
unfolding every
is_bounded_at net k g = leb 1 (length (net.fanins g)) && leb (length (net.fanins g)) k && every (λ v. ltb v net.nodes) (net.fanins g)

unfoldable pub is_bounded : Net → ℕ → Bool
unfolding every_below is_gate is_bounded_at
is_bounded net k = leb net.inputs net.nodes && every_below net.inputs (λ v. eqb (length (net.fanins v)) 0) &&
    every_below net.nodes (λ g. not (is_gate net g) || is_bounded_at net k g)

pub decides_bounded : (net : Net) (k : ℕ) → Decides (is_bounded net k) (Bounded net k)
unfolding is_bounded is_bounded_at
decides_bounded net k = decides_as
    (λ h. record {
      span = h.0.0;
      inputs_feed = λ v input. no_length (net.fanins v) (h.0.1 v input);
      fed = λ g gate. (h.1 g gate.below gate).0.0;
      few = λ g gate. (h.1 g gate.below gate).0.1;
      nodes = λ g gate. (h.1 g gate.below gate).1;
    })
    (λ b. ((b.span, λ v input. rw (b.inputs_feed v input) refl), λ g _ gate. ((b.fed g gate, b.few g gate), b.nodes g gate)))
    (decides_le net.inputs net.nodes
    and_then (λ _. decides_below net.inputs _ (λ v _. decides_equal (length (net.fanins v)) 0))
    and_then (λ _. decides_below net.nodes _ (λ g _. decides_if (decides_gate net g) (λ _. decides_le 1 (length (net.fanins g))
    and_then (λ _. decides_le (length (net.fanins g)) k)
    and_then (λ _. decides_every _ (λ v. decides_lt v net.nodes) (net.fanins g))))))

-- do the numbers `rank` rise from fanins to gates?
unfoldable pub is_ranked_by : (ℕ → ℕ) → Net → Bool
unfolding every_below every
is_ranked_by rank net = every_below net.nodes (λ g. every (λ u. ltb (rank u) (rank g)) (net.fanins g))

abbrev pub RisesBelow : (ℕ → ℕ) → Net → Type 0
RisesBelow rank net = (g : ℕ) → g < net.nodes → (u : ℕ) → Memᴰ u (net.fanins g) → rank u < rank g

pub decides_ranked_by : (rank : ℕ → ℕ) (net : Net) → Decides (is_ranked_by rank net) (RisesBelow rank net)
unfolding is_ranked_by
decides_ranked_by rank net = decides_below net.nodes _ (λ g _. decides_every _ (λ u. decides_lt (rank u) (rank g)) (net.fanins g))

-- what is no node has no fanins
abbrev pub NothingBeyond : Net → Type 0
NothingBeyond net = (g : ℕ) → net.nodes ≤ g → net.fanins g ≡ []

unfoldable pub ranked_by : {net : Net} {rank : ℕ → ℕ} → NothingBeyond net → RisesBelow rank net → Ranked net
ranked_by {net} {rank} nothing rises = record { rank = rank; rises = λ u g feeds. rises g (node g u feeds (dec_lt g net.nodes)) u feeds }
  where
    node : (g u : ℕ) → Memᴰ u (net.fanins g) → Dec (g < net.nodes) → g < net.nodes
    node g u feeds (yes below) = below
    node g u feeds (no beyond) = absurd (Memᴰ.not-nil (rw (nothing g (omega arith)) at feeds))
