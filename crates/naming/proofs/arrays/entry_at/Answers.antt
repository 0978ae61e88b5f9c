-- `entry_at` meets its contract: a number of 16 bits fits.
use native.Mathlib.Omega.{arith}
use Rattle.naming.proofs.arrays.entry_at.Goals as goal

pub overflow_cast-result : goal.overflow_cast-result
overflow_cast-result c = omega (arith, c.type_inv.array c.args.at)
