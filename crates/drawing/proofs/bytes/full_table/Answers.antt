-- `full_table` meets its contract: the table's rule is one test over its seven entries, which antt computes.
use native.Mathlib.Omega.{arith}
use mathlib.Core.Bool.{Bool}
use mathlib.Core.List.{List, [], ◌∷◌}
use Prim.Native.Nat.{ℕ, ◌+◌, ◌^◌}
use lib.Dec.{eqb, eqb→eq}
use lib.ListN.{get_or}
use Rattle.drawing.proofs.Tables.{each_entry}
use Rattle.drawing.proofs.bytes.full_table.Goals as goal

full : List ℕ
full = 1 ∷ 3 ∷ 15 ∷ 255 ∷ 65535 ∷ 4294967295 ∷ 18446744073709551615 ∷ []

right : ℕ → ℕ → Bool
right m table = eqb (table + 1) (2 ^ (2 ^ m))

pub returns : goal.returns
unfolding full right
returns c =
    eqb→eq (get_or full c.args.m 0 + 1) (2 ^ (2 ^ c.args.m)) (each_entry right full tt c.args.m (omega arith))
