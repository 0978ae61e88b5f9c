-- Cone functions, and what a network of LUTs computes.
use Rattle.std.specs.Prelude.{ℕ, ◌^◌, ◌<◌, ◌≡◌, Bool, true, List, map, length}
use Rattle.theory.specs.paper.Net.{Net}
use Rattle.theory.specs.paper.Values.{row_of, result_at}
use Rattle.theory.specs.paper.Walk.{Cone}
use Rattle.theory.specs.paper.Cover.{Luts}

-- a valuation that obeys the gates of the cone
abbrev pub ObeysCone : Net → (tables : ℕ → ℕ) → List ℕ → ℕ → (ℕ → Bool) → Type 0
ObeysCone net tables leaves t x = (g : ℕ) → Cone net leaves t g → x g ≡ result_at (tables g) (row_of (map x (net.fanins g)))

-- "The cone's function is t's value for each setting of the leaves": its table, with leaf i as bit i of the row and nothing set above the rows.
-- On a net without loops each setting has a valuation that obeys the cone, so `value` speaks of every row.
pub record ConeTable (net : Net) (tables : ℕ → ℕ) (leaves : List ℕ) (t table : ℕ) : Type 0 where
  pub value : (x : ℕ → Bool) → ObeysCone net tables leaves t x → x t ≡ result_at table (row_of (map x leaves))
  pub rows : table < 2 ^ (2 ^ length leaves)

-- a valuation obeys the LUTs if each root's value is its table's bit at the row that its leaves' values make
abbrev pub ObeysLuts : Luts → (ℕ → ℕ) → (ℕ → Bool) → Type 0
ObeysLuts luts tables x = (r : ℕ) → luts.root r ≡ true → x r ≡ result_at (tables r) (row_of (map x (luts.leaves r)))
