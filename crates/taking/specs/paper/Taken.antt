-- "Table taken", of a table's bytes.
use Rattle.std.specs.Prelude.{◌≡◌, List, ℕ}
use Rattle.theory.specs.paper.Net.{Net}
use Rattle.theory.specs.paper.Walk.{NoLoop}
use Rattle.std.specs.Prelude.{Ok}
use Rattle.drawing.specs.paper.Table.{net_of}
use Rattle.drawing.specs.paper.Reading.{found, table_of}

-- the drawing that the bytes stand for
abbrev pub drawn : List ℕ → Net
drawn s = net_of (table_of s)

-- the bytes read whole
abbrev pub ReadsWhole : List ℕ → Type 0
ReadsWhole s = (found s).verdict ≡ Ok tt

-- "table taken": it reads whole and has no loop
pub record IsTaken (s : List ℕ) : Type 0 where
  pub whole : ReadsWhole s
  pub no_loop : NoLoop (drawn s)
