-- What a node is to the gate at hand, a number a node: 0 away; 1 walked, 2 met, 3 both; 4 in D, 5 in the area, 6 an end of the area; 7 a node
-- of the area that a path has taken, 8 an end so taken. Each kind of mark is a view of the roles.
use Rattle.std.specs.Prelude.{ℕ, ◌||◌, List, eqb}
use Rattle.theory.specs.paper.Values.{bit}
use Rattle.storage.specs.Marks.{view}

unfoldable pub walked_bit : ℕ → ℕ
walked_bit r = bit (eqb r 1 || eqb r 3)

unfoldable pub met_bit : ℕ → ℕ
met_bit r = bit (eqb r 2 || eqb r 3)

unfoldable pub deep_bit : ℕ → ℕ
deep_bit r = bit (eqb r 4)

-- in the area, and taken by no path
unfoldable pub area_bit : ℕ → ℕ
area_bit r = bit (eqb r 5 || eqb r 6)

-- an end, taken or not
unfoldable pub end_bit : ℕ → ℕ
end_bit r = bit (eqb r 6 || eqb r 8)

abbrev pub walked_in : List ℕ → List ℕ
walked_in roles = view walked_bit roles

abbrev pub met_in : List ℕ → List ℕ
met_in roles = view met_bit roles

abbrev pub deep_in : List ℕ → List ℕ
deep_in roles = view deep_bit roles

abbrev pub area_in : List ℕ → List ℕ
area_in roles = view area_bit roles

abbrev pub ends_in : List ℕ → List ℕ
ends_in roles = view end_bit roles
