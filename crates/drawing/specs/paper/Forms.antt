-- The form of a gate table: its tags, in how many bytes it writes an id and G, how many bytes a head's value has, and how many nodes a table has.
use Rattle.std.specs.Prelude.{ℕ, ◌+◌, ◌*◌, List}
use Rattle.drawing.specs.declared.TableForm.{TableForm}
use Rattle.drawing.specs.paper.Limits.{most_k, most_nodes, frame_size, rows_size}

-- "Tag 1, head, 4 bytes", "Tag 2, gate", "Tag 3, output, 1 byte: a node id"; there is an input, so a table has at least one node
abbrev pub narrow_table : TableForm
narrow_table = record { width = 1; head = 1; gate = 2; output = 3; size = 4; least = 1; most = most_nodes }

-- the form of a table's bytes: there is one
abbrev pub form_of : List ℕ → TableForm
form_of s = narrow_table

-- where the first gate's field starts: behind the head's
abbrev pub gates_start : TableForm → ℕ
gates_start form = frame_size + form.size

-- "gate, 9 + m bytes", where an id has one: the bytes of a gate's value with m fanins, the least and the most
abbrev pub gate_size : TableForm → ℕ → ℕ
gate_size form m = 1 + rows_size + m * form.width

abbrev pub least_gate : TableForm → ℕ
least_gate form = gate_size form 1

abbrev pub most_gate : TableForm → ℕ
most_gate form = gate_size form most_k
