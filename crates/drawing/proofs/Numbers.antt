-- The numbers of refusals.
use Prim.Native.Nat.{◌≤◌}
use native.Mathlib.Omega.{arith}
use Rattle.drawing.specs.declared.Refusal.{Refusal}
use Rattle.drawing.specs.declared.Refusal.TheVariants.{Torn, Tag, Length, Range, Rows, Outputs}
use Rattle.drawing.specs.Refusals.{number}

pub number_most : (r : Refusal) → number r ≤ 6
number_most (Torn at) = omega arith
number_most (Tag at) = omega arith
number_most (Length at) = omega arith
number_most (Range at) = omega arith
number_most (Rows at) = omega arith
number_most (Outputs at) = omega arith
