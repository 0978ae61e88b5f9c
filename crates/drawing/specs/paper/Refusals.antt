-- The refusals of a gate table: the paper's number and the place of each.
use Rattle.std.specs.Prelude.{ℕ}
use Rattle.drawing.specs.declared.Refusal.{Refusal}
use Rattle.drawing.specs.declared.Refusal.TheVariants.{Torn, Tag, Length, Range, Rows, Outputs}

-- "Every refusal returns its number and place": the field's start; for Outputs the number of bytes, or that field's start
abbrev pub said : Refusal → ℕ × ℕ
said (Torn at) = (1, at)
said (Tag at) = (2, at)
said (Length at) = (3, at)
said (Range at) = (4, at)
said (Rows at) = (5, at)
said (Outputs at) = (6, at)
