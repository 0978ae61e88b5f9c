-- The marks on which the flow works: what lies behind t outside D, and which of these nodes feed D.
use Rattle.std.specs.Prelude.{ℕ, ◌<◌, ◌≡◌}
use Rattle.theory.specs.paper.Net.{Net}
use Rattle.area.specs.Area.{InArea, IsEnd}

-- `area` and `ends` are 1 exactly there.
pub record Marked (net : Net) (lab : ℕ → ℕ) (t : ℕ) (area ends : ℕ → ℕ) : Type 0 where
  pub below : (v : ℕ) → area v ≡ 1 → v < net.nodes
  pub area_holds : (v : ℕ) → area v ≡ 1 → InArea net lab t v
  pub area_all : (v : ℕ) → InArea net lab t v → area v ≡ 1
  pub ends_holds : (v : ℕ) → ends v ≡ 1 → IsEnd net lab t v
  pub ends_all : (v : ℕ) → IsEnd net lab t v → ends v ≡ 1
