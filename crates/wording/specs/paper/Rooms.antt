-- How much room a program's text may take.
use Rattle.std.specs.Prelude.{ℕ, ◌+◌, ◌*◌}

-- The longest lines: a head's numbers have 3, 20, 20, 20 and 5 digits, ids and depths 5.
abbrev pub head_room : ℕ
head_room = 99

abbrev pub lut_room : ℕ
lut_room = 88

abbrev pub output_room : ℕ
output_room = 25

-- the one line of a refusal, in two numbers of 20 digits, and of a sheet that is taken
abbrev pub line_room : ℕ
line_room = 53

-- room for every listing of so many nodes and outputs
abbrev pub room : (nodes number : ℕ) → ℕ
room nodes number = head_room + lut_room * nodes + output_room * number
