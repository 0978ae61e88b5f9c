-- The limits of document 01 and the sizes of a gate table's fields, each under one name; tags and the head's size are the form's (Forms).
use Rattle.std.specs.Prelude.{ℕ, ◌+◌}

-- "K is 2 to 6."
abbrev pub least_k : ℕ
least_k = 2

abbrev pub most_k : ℕ
most_k = 6

-- "Inputs I: 1 to 64."
abbrev pub least_inputs : ℕ
least_inputs = 1

abbrev pub most_inputs : ℕ
most_inputs = 64

-- "n = I + G at most 192"
abbrev pub most_nodes : ℕ
most_nodes = 192

-- "Outputs: 1 to 64."
abbrev pub most_outputs : ℕ
most_outputs = 64

-- "version 1"
abbrev pub version : ℕ
version = 1

-- "a one-byte tag, a two-byte length"
abbrev pub length_size : ℕ
length_size = 2

abbrev pub frame_size : ℕ
frame_size = 1 + length_size

-- "8 bytes of function table"
abbrev pub rows_size : ℕ
rows_size = 8
