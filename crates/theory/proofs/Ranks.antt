-- Going along a rank: induction over nodes whose ranks are lower, and a bound on the ranks of finitely many nodes.
use Prim.Native.Nat.{ℕ, zero, suc, max, ◌<◌}
use native.Mathlib.Nat.{not-suc-le-zero}
use native.Mathlib.Decide.{ℕ_discrete}
use native.Mathlib.Omega.{arith}
use mathlib.Core.Path.{◌≡◌, ap}

-- what holds at a node where it holds at all nodes of lower rank holds everywhere
module _ (P : ℕ → Type 0) (rank : ℕ → ℕ) (next : (v : ℕ) → ((u : ℕ) → rank u < rank v → P u) → P v) where
  below_rank : (r v : ℕ) → rank v < r → P v
  below_rank zero v low = absurd (not-suc-le-zero low)
  below_rank (suc r) v low = next v (λ u lower. below_rank r u (omega arith))

  pub by_rank : (v : ℕ) → P v
  by_rank v = below_rank (suc (rank v)) v (omega arith)

-- the ranks of the nodes below n have a common bound
pub common_bound : (rank : ℕ → ℕ) (n : ℕ) → (b : ℕ) × ((v : ℕ) → v < n → rank v < b)
common_bound rank zero = (0, λ v low. absurd (not-suc-le-zero low))
common_bound rank (suc n) =
    let (b, above) = common_bound rank n in
    (max b (suc (rank n)), λ v low. by_last b above v low (ℕ_discrete v n))
  where
    by_last : (b : ℕ) → ((v : ℕ) → v < n → rank v < b) → (v : ℕ) → v < suc n → Dec (v ≡ n) → rank v < max b (suc (rank n))
    by_last b above v low (yes e) = omega (arith, ap rank e)
    by_last b above v low (no apart) = let less = above v (omega arith) in omega arith
