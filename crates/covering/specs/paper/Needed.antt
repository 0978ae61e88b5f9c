-- The LUTs that outputs need.
use Rattle.std.specs.Prelude.{ℕ}
use mathlib.Core.List.{List, Memᴰ}
use Rattle.theory.specs.paper.Net.{Net, Gate}

-- "Its LUTs are the output gates, then their gate leaves, and so back to the inputs": the gates needed, where a gate's fanins are its leaves.
pub data Needed (chosen : Net) (outputs : List ℕ) : ℕ → Type 0 where
  output : {v : ℕ} → Memᴰ v outputs → Gate chosen v → Needed chosen outputs v
  leaf : {r v : ℕ} → Needed chosen outputs r → Memᴰ v (chosen.fanins r) → Gate chosen v → Needed chosen outputs v
