-- Arrays that are ready for mapping and inspecting.
use Rattle.std.specs.Prelude.{ℕ, ◌≤◌, ◌≡◌, List, length, take}
use Rattle.theory.specs.paper.Net.{Gate}
use Rattle.storage.specs.Drawings.{net_in, tables_in, Arranged}
use Rattle.drawing.specs.paper.Table.{tables_of}
use Rattle.drawing.specs.paper.Fields.{head_k}
use Rattle.drawing.specs.paper.Reading.{table_of, nodes_of, sources_of, roots_of}
use Rattle.taking.specs.paper.Taken.{drawn, IsTaken}

-- Arrays that hold a table taken: its net, function tables and outputs, and its order.
pub record Ready (s fanins rows outputs order : List ℕ) : Type 0 where
  pub taken : IsTaken s
  pub net : net_in (sources_of s) (nodes_of s) fanins ≡ drawn s
  pub drawing : Arranged (sources_of s) (nodes_of s) (head_k s) fanins order
  pub rows_long : nodes_of s ≤ length rows
  pub tables : (v : ℕ) → Gate (drawn s) v → tables_in rows v ≡ tables_of (table_of s) v
  pub outputs_long : length (roots_of s) ≤ length outputs
  pub outputs_held : take (length (roots_of s)) outputs ≡ roots_of s
