-- Each setting of the inputs has exactly one valuation that obeys the gates, if the net has a rank. Shown once for any nodes that read
-- others of lower rank through tables, since gates, the gates of a cone and LUTs are all such nodes: uniqueness by induction on the rank,
-- existence by a recursion that the rank bounds.
use Prim.Native.Nat.{ℕ, zero, suc, ◌<◌}
use native.Mathlib.Nat.{le_refl}
use native.Mathlib.Omega.{arith}
use mathlib.Core.Path.{◌≡◌, refl, sym, ap, ◌∙◌}
use mathlib.Core.Logic.{◌⊎◌, inl, inr, ⊎_elim}
use mathlib.Core.Bool.{Bool, true, false, cond}
use mathlib.Core.List.{List, map, Memᴰ}
use lib.Dec.{leb}
use borrow.Author.Tests.{le-leb, lt-leb}
use Rattle.theory.specs.paper.Net.{Net, Gate, Input}
use Rattle.theory.specs.paper.Values.{row_of, result_at, Values}
use Rattle.theory.specs.paper.Sound.{Ranked}
use Rattle.theory.proofs.Ranks.{by_rank}
use Rattle.theory.proofs.Picks.{map_agree}
use Rattle.theory.proofs.Walks.{NodesFeed, input_or_gate}

-- v's value is its table's bit at the row that the values it reads make
abbrev pub Follows : (ℕ → List ℕ) → (ℕ → ℕ) → (ℕ → Bool) → ℕ → Type 0
Follows reads tables x v = x v ≡ result_at (tables v) (row_of (map x (reads v)))

result_agrees : (table : ℕ) (us : List ℕ) (x y : ℕ → Bool) → ((u : ℕ) → Memᴰ u us → x u ≡ y u) →
    result_at table (row_of (map x us)) ≡ result_at table (row_of (map y us))
result_agrees table us x y same = ap (λ (l : List Bool). result_at table (row_of l)) (map_agree x y us same)

module _ (reads : ℕ → List ℕ) (tables rank : ℕ → ℕ) (Driven : ℕ → Type 0)
    (rises : (v : ℕ) → Driven v → (u : ℕ) → Memᴰ u (reads v) → rank u < rank v) where
  -- Two valuations that follow at the driven nodes, and agree at what these read from outside, agree at them.
  module _ (x y : ℕ → Bool) (closed : (v : ℕ) → Driven v → (u : ℕ) → Memᴰ u (reads v) → Driven u ⊎ (x u ≡ y u))
      (x-follows : (v : ℕ) → Driven v → Follows reads tables x v) (y-follows : (v : ℕ) → Driven v → Follows reads tables y v) where
    pub follows_agree : (v : ℕ) → Driven v → x v ≡ y v
    follows_agree =
        by_rank (λ v. Driven v → x v ≡ y v) rank (λ v below d.
        x-follows v d ∙ result_agrees (tables v) (reads v) x y (λ u m. ⊎_elim (below u (rises v d u m)) (λ e. e) (closed v d u m))
        ∙ sym (y-follows v d))

-- The value at v of the valuation that follows at the nodes that are driven and has the setting at the others; the first number bounds how
-- far back it reads.
module _ (reads : ℕ → List ℕ) (tables : ℕ → ℕ) (driven setting : ℕ → Bool) where
  unfoldable pub value_within : ℕ → ℕ → Bool
  value_within zero v = setting v
  value_within (suc far) v = cond (driven v) (result_at (tables v) (row_of (map (value_within far) (reads v)))) (setting v)

unfoldable pub settle : (reads : ℕ → List ℕ) (tables rank : ℕ → ℕ) (driven setting : ℕ → Bool) → ℕ → Bool
settle reads tables rank driven setting v = value_within reads tables driven setting (suc (rank v)) v

cond_agrees : (b d : Bool) {a c : Bool} → (b ≡ true → a ≡ c) → cond b a d ≡ cond b c d
cond_agrees true d same = same refl
cond_agrees false d same = refl

module _ (reads : ℕ → List ℕ) (tables rank : ℕ → ℕ) (driven setting : ℕ → Bool) where
  pub settle_sets : (v : ℕ) → driven v ≡ false → settle reads tables rank driven setting v ≡ setting v
  unfolding settle value_within
  settle_sets v free = rw free

  module _ (rises : (v : ℕ) → driven v ≡ true → (u : ℕ) → Memᴰ u (reads v) → rank u < rank v) where
    -- to read further back than the rank changes nothing
    steady : (m n v : ℕ) → rank v < m → rank v < n → value_within reads tables driven setting m v ≡ value_within reads tables driven setting n v
    unfolding value_within
    steady zero n v hm hn = absurd (omega arith)
    steady (suc m) zero v hm hn = absurd (omega arith)
    steady (suc m) (suc n) v hm hn =
        cond_agrees (driven v) (setting v) (λ (d : driven v ≡ true). result_agrees (tables v) (reads v) _ _ (λ u k.
        let below = rises v d u k in steady m n u (omega arith) (omega arith)))

    pub settle_follows : (v : ℕ) → driven v ≡ true → Follows reads tables (settle reads tables rank driven setting) v
    unfolding settle value_within
    settle_follows v d =
        rw d (result_agrees (tables v) (reads v) _ _ (λ u k. steady (rank v) (suc (rank u)) u (rises v d u k) (le_refl (suc (rank u)))))

-- Nets

module _ (net : Net) (tables : ℕ → ℕ) (ranked : Ranked net) where
  -- the value of each node for a setting of the inputs
  pub value_of : (ℕ → Bool) → ℕ → Bool
  value_of = settle net.fanins tables ranked.rank (leb net.inputs)

  pub value_of_obeys : (setting : ℕ → Bool) → Values net tables setting (value_of setting)
  unfolding value_of
  value_of_obeys setting =
      record {
        at_inputs = λ v h. settle_sets _ _ _ _ _ v (lt-leb net.inputs v h);
        at_gates = λ g gate. settle_follows _ _ _ _ _ (λ v d u m. ranked.rises u v m) g (le-leb net.inputs g gate.above);
      }

  pub values_agree : NodesFeed net → (setting x y : ℕ → Bool) → Values net tables setting x → Values net tables setting y →
      (v : ℕ) → v < net.nodes → x v ≡ y v
  values_agree feed setting x y vx vy v h = ⊎_elim (at_input v) (at_gate v) (input_or_gate v h)
    where
      at_input : (u : ℕ) → Input net u → x u ≡ y u
      at_input u i = vx.at_inputs u i ∙ sym (vy.at_inputs u i)

      closed : (g : ℕ) → Gate net g → (u : ℕ) → Memᴰ u (net.fanins g) → Gate net u ⊎ (x u ≡ y u)
      closed g gate u m = ⊎_elim (λ i. inr (at_input u i)) inl (input_or_gate u (feed g gate u m))

      at_gate : (g : ℕ) → Gate net g → x g ≡ y g
      at_gate = follows_agree net.fanins tables ranked.rank (Gate net) (λ g gate u m. ranked.rises u g m) x y closed vx.at_gates vy.at_gates
