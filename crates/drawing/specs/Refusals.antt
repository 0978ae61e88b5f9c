-- The number and the place of a refusal, each by itself, as code gives them.
use Rattle.std.specs.Prelude.{ℕ}
use Rattle.drawing.specs.declared.Refusal.{Refusal}
use Rattle.drawing.specs.paper.Refusals.{said}

abbrev pub number : Refusal → ℕ
number r = (said r).0

abbrev pub place : Refusal → ℕ
place r = (said r).1
