-- What a gate's line keeps in a table that reads whole.
use Rattle.std.specs.Prelude.{ℕ, ◌^◌, ◌≤◌, ◌<◌, length}
use mathlib.Core.List.{Memᴰ}
use Rattle.drawing.specs.paper.Table.{GateLine}

-- A gate's line keeps the paper's numbers.
pub record SoundLine (k nodes : ℕ) (g : GateLine) : Type 0 where
  pub some : 1 ≤ length g.fanins
  pub few : length g.fanins ≤ k
  pub nodes_only : (v : ℕ) → Memᴰ v g.fanins → v < nodes
  pub rows : g.table < 2 ^ (2 ^ length g.fanins)
