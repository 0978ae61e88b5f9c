-- The limits of document 01 that a sheet keeps, and the sizes in its fields that a gate table does not have, each under one name.
use Rattle.std.specs.Prelude.{ℕ, ◌+◌}
use Rattle.drawing.specs.paper.Limits.{frame_size}

-- "The sheet buffer has at least 49,152 bytes; no acceptable sheet is longer than 43,554."
abbrev pub sheet_room : ℕ
sheet_room = 49152

abbrev pub longest_sheet : ℕ
longest_sheet = 43554

-- "depth above 191", "label not 1 to 191"
abbrev pub most_depth : ℕ
most_depth = 191

-- "version 1, depth, LUT count": the version is one byte, and the depth stands behind it
abbrev pub version_size : ℕ
version_size = 1

abbrev pub depth_place : ℕ
depth_place = frame_size + version_size

-- "c" and "q" are one byte each
abbrev pub count_size : ℕ
count_size = 1
