-- Where the paths of a line end.
use Rattle.std.specs.Prelude.{ℕ, zero, suc, List}
use Rattle.sheet.specs.paper.Shape.{path_end}

-- where `q` paths end that begin at `at`
unfoldable pub paths_end : List ℕ → (at width q : ℕ) → ℕ
paths_end s at width zero = at
paths_end s at width (suc q) = paths_end s (path_end s at width) width q
