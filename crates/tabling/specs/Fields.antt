-- A table's bytes as they are written, field by field.
use Rattle.std.specs.Prelude.{ℕ, length, take}
use mathlib.Core.List.{List, ◌++◌, flat_map}
use Rattle.drawing.specs.paper.Forms.{narrow_table}
use Rattle.drawing.specs.paper.Table.{Table}
use Rattle.tabling.specs.paper.Encoding.{head_field, gate_field, output_field}

-- a table's bytes up to its first i gates, and up to its first i outputs
abbrev pub head_done : Table → List ℕ
head_done table = head_field narrow_table table.k table.inputs (length table.gates)

abbrev pub gates_done : Table → ℕ → List ℕ
gates_done table i = head_done table ++ flat_map (gate_field narrow_table) (take i table.gates)

abbrev pub all_gates : Table → List ℕ
all_gates table = head_done table ++ flat_map (gate_field narrow_table) table.gates

abbrev pub outputs_done : Table → ℕ → List ℕ
outputs_done table i = all_gates table ++ flat_map (output_field narrow_table) (take i table.outputs)
