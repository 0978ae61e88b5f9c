-- `map_taken` meets its contract: a short buffer is refused, else the drawing is mapped.
use native.Mathlib.Omega.{arith}
use mathlib.Core.Path.{refl}
use Rattle.mapping.specs.Sheets.{TakenMapped}
use Rattle.settling.proofs.Standing.{paper_arrays}
use Rattle.mapping.proofs.DrawingsMapped.{paper_asked}
use Rattle.mapping.proofs.map_taken.Goals as goal

pub returns-then-sheet-lt-SHEET_ROOM : goal.returns-then-sheet-lt-SHEET_ROOM
returns-then-sheet-lt-SHEET_ROOM c = TakenMapped.room (omega (arith, c.if-sheet-lt-SHEET_ROOM.true)) refl refl

pub map_drawing-length-requires : goal.map_drawing-length-requires
map_drawing-length-requires c =
    paper_asked c.requires
    (paper_arrays c.requires (omega arith) (omega arith) (omega arith) (omega arith) (omega arith) (omega arith))
    (omega (arith, c.if-sheet-lt-SHEET_ROOM.false))

pub returns : goal.returns
returns c =
    TakenMapped.mapped (omega (arith, c.if-sheet-lt-SHEET_ROOM.false)) refl c.map_drawing-length.ensures
