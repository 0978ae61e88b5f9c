-- `number_at` meets its contract: the number so far is that of the bytes passed.
use Prim.Native.Nat.{◌<◌, ◌*◌, ◌^◌}
use mathlib.Core.Path.{◌≡◌}
use Rattle.drawing.specs.paper.Bytes.{number_at}
use Rattle.drawing.proofs.bytes.number_at.Given as goal

abbrev pub invariant-loop-byte : goal.invariant-loop-byte
invariant-loop-byte l = (l.number ≡ number_at l.s l.at l.byte-index) × (l.number < 2 ^ (8 * l.byte-index))
