-- Columns of an array: n places each, one column after the other.
use Rattle.std.specs.Prelude.{ℕ, ◌*◌, List, take, drop}

-- the c-th column of n places
unfoldable pub column : (n c : ℕ) → List ℕ → List ℕ
column n c l = take n (drop (c * n) l)
