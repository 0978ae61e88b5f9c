-- `open_field` meets its contract: three stores.
use native.Mathlib.Omega.{arith}
use lib.ListN.{length-set}
use Rattle.sheet.proofs.Writes.{opened_written}
use Rattle.sheet.proofs.bytes.open_field.Goals as goal

pub bounds-sheet-at-2 : goal.bounds-sheet-at-2
bounds-sheet-at-2 c = simp length-set (omega arith)

pub bounds-sheet-at-3 : goal.bounds-sheet-at-3
bounds-sheet-at-3 c = simp length-set (omega arith)

pub returns : goal.returns
returns c = opened_written c.args.sheet.now c.args.at c.args.tag
