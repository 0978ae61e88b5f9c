-- What is printed as a depth is the LUT's depth in the cover.
use Prim.Native.Nat.{ℕ, ◌<◌}
use mathlib.Core.List.{List, Memᴰ}
use Rattle.theory.specs.paper.Sound.{Bounded, Ranked}
use Rattle.drawing.specs.paper.Table.{Table, net_of, tables_of}
use Rattle.sheet.specs.paper.Sheet.{Sheet}
use Rattle.keeping.specs.paper.Mappers.{SheetWith}
use Rattle.keeping.specs.paper.Printed.{DepthsListed}
use Rattle.keeping.proofs.Mappers.{depth_kept, lut_depth_is_label}

pub depths_listed : {Asked : (ℕ → ℕ) → ℕ → List (List ℕ) → Type 0} (table : Table) (k : ℕ) (sheet : Sheet) → Bounded (net_of table) k → Ranked (net_of table) →
    ((v : ℕ) → Memᴰ v table.outputs → v < (net_of table).nodes) → SheetWith Asked (net_of table) (tables_of table) k table.outputs sheet →
    DepthsListed table sheet
unfolding net_of
depths_listed table k sheet bounded ranked nodes mapper =
    record {
      each = λ v placed. lut_depth_is_label (net_of table) (tables_of table) k table.outputs sheet bounded ranked nodes mapper placed;
      whole = (depth_kept (net_of table) (tables_of table) k table.outputs sheet bounded ranked nodes mapper).reached;
    }
