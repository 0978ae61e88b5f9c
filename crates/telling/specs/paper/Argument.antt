-- K as it is given to the program.
use Rattle.std.specs.Prelude.{ℕ, ◌-◌, cond, List, [], ◌∷◌}
use Rattle.grammar.specs.paper.Text.{is_digit}

-- "the user gives K": one decimal digit; a missing word, or any other, counts as 0, which is no K
unfoldable pub digit_of : (word : List ℕ) → ℕ
digit_of [] = 0
digit_of (b ∷ []) = cond (is_digit b) (b - 48) 0
digit_of (b ∷ c ∷ more) = 0
