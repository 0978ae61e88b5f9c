-- What a net computes: the value of each node for a setting of the inputs. A gate's function table is a number, `tables g`.
use Rattle.std.specs.Prelude.{ℕ, ◌+◌, ◌*◌, ◌/◌, ◌%◌, ◌^◌, ◌<◌, ◌≡◌, Bool, true, false, List, [], ◌∷◌, map, eqb}
use Rattle.theory.specs.paper.Net.{Net, Gate}

-- a value as a digit
abbrev pub bit : Bool → ℕ
bit true = 1
bit false = 0

-- "Row r has bit i of r as the value of fanin i".
unfoldable pub row_of : List Bool → ℕ
row_of [] = 0
row_of (b ∷ bs) = bit b + 2 * row_of bs

-- "bit r of the table is the result"
unfoldable pub result_at : ℕ → ℕ → Bool
result_at table row = eqb (table / 2 ^ row % 2) 1

-- A valuation obeys the gates if each gate's value is its table's bit at the row that its fanins' values make.
abbrev pub Obeys : Net → (tables : ℕ → ℕ) → (ℕ → Bool) → Type 0
Obeys net tables x = (g : ℕ) → Gate net g → x g ≡ result_at (tables g) (row_of (map x (net.fanins g)))

-- The value of node v for a setting of the inputs is `x v`, for the valuation x that has the setting at the inputs and obeys the gates.
pub record Values (net : Net) (tables : ℕ → ℕ) (setting x : ℕ → Bool) : Type 0 where
  pub at_inputs : (v : ℕ) → v < net.inputs → x v ≡ setting v
  pub at_gates : Obeys net tables x
