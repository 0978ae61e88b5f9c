-- `close_field` meets its contract.
use native.Mathlib.Omega.{arith}
use Prim.Native.Nat.{◌+◌, ◌-◌}
use Rattle.sheet.proofs.Numbers.{length_digits}
use Rattle.sheet.proofs.bytes.close_field.Goals as goal

pub put_number-requires : goal.put_number-requires
put_number-requires c =
    omega (arith, length_digits 2 (c.args.next - (c.args.at + 3)))
