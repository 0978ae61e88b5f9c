-- The bytes of a gate table.
use Rattle.std.specs.Prelude.{ℕ, length}
use mathlib.Core.List.{List, ◌++◌, flat_map}
use Rattle.drawing.specs.declared.TableForm.{TableForm}
use Rattle.drawing.specs.paper.Limits.{version, rows_size}
use Rattle.drawing.specs.paper.Forms.{narrow_table}
use Rattle.drawing.specs.paper.Table.{GateLine, Table}
use Rattle.sheet.specs.paper.Encoding.{digits, byte, id_bytes, field}

module _ (form : TableForm) where
  -- "Tag 1, head, 4 bytes: version 1, K, I, G.": a byte each, but G is as wide as an id
  abbrev pub head_value : (k inputs gates : ℕ) → List ℕ
  head_value k inputs gates = byte version ++ byte k ++ byte inputs ++ digits form.width gates

  -- "Tag 2, gate, 9 + m bytes: m, then m fanin ids, then 8 bytes of function table, high byte first."
  abbrev pub gate_value : GateLine → List ℕ
  gate_value gate = byte (length gate.fanins) ++ id_bytes form.width gate.fanins ++ digits rows_size gate.table

  -- "Tag 3, output, 1 byte: a node id."
  abbrev pub output_value : ℕ → List ℕ
  output_value = digits form.width

  abbrev pub head_field : (k inputs gates : ℕ) → List ℕ
  head_field k inputs gates = field form.head (head_value k inputs gates)

  abbrev pub gate_field : GateLine → List ℕ
  gate_field gate = field form.gate (gate_value gate)

  abbrev pub output_field : ℕ → List ℕ
  output_field id = field form.output (output_value id)

  -- "Order: one head, G gates, then outputs to the end."
  unfoldable pub encode_in : Table → List ℕ
  encode_in table =
      head_field table.k table.inputs (length table.gates) ++ flat_map gate_field table.gates ++ flat_map output_field table.outputs

-- the table in the form of document 01
abbrev pub encode : Table → List ℕ
encode = encode_in narrow_table
