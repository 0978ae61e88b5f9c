-- What is answered for the encoding of a table within document 01's numbers: the one or the other.
use Rattle.std.specs.Prelude.{Ok, Err}
use Rattle.theory.specs.paper.Walk.{LowestLoop, NoLoop}
use Rattle.storage.specs.declared.Node.{Node}
use Rattle.storage.specs.declared.Numbers.{Numbers}
use Rattle.drawing.specs.paper.Table.{Table, net_of}
use Rattle.taking.specs.paper.Says.{Taking}
use Rattle.taking.specs.declared.TakeError.TheVariants.{LoopAt}

-- loop or taken, by the table's net
pub data Judged (table : Table) : Taking → Type 0 where
  taken : {n : Numbers} → NoLoop (net_of table) → Judged table (Ok n)
  loop : {g : Node} → LowestLoop (net_of table) g.id → Judged table (Err (LoopAt g))
