-- `size_at` meets its contract: a number of 16 bits fits.
use native.Mathlib.Omega.{arith}
use Prim.Native.Nat.{◌*◌}
use Rattle.storage.proofs.lists.size_at.Goals as goal

pub overflow_cast-result : goal.overflow_cast-result
overflow_cast-result c = omega (arith, c.type_inv.lists (7 * c.args.node.id))
