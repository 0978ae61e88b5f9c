-- The lengths of a gate table's fields and of the whole table. With at most two fanins a gate, a table within document 01's numbers has
-- at most 7 + 14 · 191 + 4 · 64 bytes.
use Prim.Native.Nat.{ℕ, ◌+◌, ◌*◌, ◌≤◌}
use native.Mathlib.Nat.{zero-mul, suc-mul, add-mul}
use native.Mathlib.Omega.{arith}
use mathlib.Core.Path.{◌≡◌, refl, ap, sym, ◌∙◌}
use mathlib.Core.List.{List, [], ◌∷◌, ◌++◌, flat_map, Memᴰ}
use lib.ListN.{length, length-append}
use Rattle.drawing.specs.declared.TableForm.{TableForm}
use Rattle.drawing.specs.paper.Table.{GateLine, Table}
use Rattle.drawing.specs.paper.Forms.{narrow_table}
use Rattle.sheet.specs.paper.Encoding.{digits, byte, id_bytes}
use Rattle.sheet.proofs.Numbers.{length_digits, length_ids}
use Rattle.sheet.proofs.Lengths.{length_field, length_three}
use Rattle.tabling.specs.paper.Encoding.{head_value, gate_value, output_value, head_field, gate_field, output_field, encode_in, encode}
use Rattle.tabling.specs.Within.{Within}

-- the fanins of all gates, one list after the other
abbrev pub all_fanins : List GateLine → List ℕ
all_fanins = flat_map (λ (gate : GateLine). gate.fanins)

module _ (form : TableForm) where
  pub length_head_value : (k inputs gates : ℕ) → length (head_value form k inputs gates) ≡ 3 + form.width
  length_head_value k inputs gates =
      omega (
        arith,
        length_three (byte 1 ++ byte k) (byte inputs) (digits form.width gates),
        length-append (byte 1) (byte k),
        length_digits 1 1,
        length_digits 1 k,
        length_digits 1 inputs,
        length_digits form.width gates,
      )

  pub length_gate_value : (gate : GateLine) → length (gate_value form gate) ≡ 9 + length gate.fanins * form.width
  length_gate_value gate =
      omega (
        arith,
        length_three (byte (length gate.fanins)) (id_bytes form.width gate.fanins) (digits 8 gate.table),
        length_digits 1 (length gate.fanins),
        length_ids form.width gate.fanins,
        length_digits 8 gate.table,
      )

  pub length_output : (id : ℕ) → length (output_field form id) ≡ 3 + form.width
  length_output id = omega (arith, length_field form.output (output_value form id), length_digits form.width id)

  length_outputs : (ids : List ℕ) → length (flat_map (output_field form) ids) ≡ length ids * (3 + form.width)
  unfolding flat_map
  length_outputs [] = sym (zero-mul (3 + form.width))
  length_outputs (id ∷ ids) =
      length-append (output_field form id) (flat_map (output_field form) ids)
      ∙ omega (arith, length_output id, length_outputs ids, suc-mul (length ids) (3 + form.width))

  length_gates : (gates : List GateLine) →
      length (flat_map (gate_field form) gates) ≡ length gates * 12 + length (all_fanins gates) * form.width
  unfolding flat_map
  length_gates [] = omega (arith, zero-mul form.width)
  length_gates (gate ∷ gates) =
      let sum : length (gate.fanins ++ all_fanins gates) ≡ length gate.fanins + length (all_fanins gates) =
      length-append gate.fanins (all_fanins gates) in
      length-append (gate_field form gate) (flat_map (gate_field form) gates)
      ∙ omega (
        arith,
        length_field form.gate (gate_value form gate),
        length_gate_value gate,
        length_gates gates,
        ap (λ (n : ℕ). n * form.width) sum,
        add-mul (length gate.fanins) (length (all_fanins gates)) form.width,
      )

  pub length_table : (table : Table) →
      length (encode_in form table)
      ≡ 6 + form.width + (length table.gates * 12 + length (all_fanins table.gates) * form.width)
      + length table.outputs * (3 + form.width)
  unfolding encode_in
  length_table table =
      let head = head_field form table.k table.inputs (length table.gates) in
      omega (
        arith,
        length_three head (flat_map (gate_field form) table.gates) (flat_map (output_field form) table.outputs),
        length_field form.head (head_value form table.k table.inputs (length table.gates)),
        length_head_value table.k table.inputs (length table.gates),
        length_gates table.gates,
        length_outputs table.outputs,
      )

fanins_few : (gates : List GateLine) → ((gate : GateLine) → Memᴰ gate gates → length gate.fanins ≤ 2) →
    length (all_fanins gates) ≤ 2 * length gates
unfolding flat_map
fanins_few [] each = omega arith
fanins_few (gate ∷ gates) each =
    omega (
      arith,
      length-append gate.fanins (all_fanins gates),
      each gate (Memᴰ.head refl),
      fanins_few gates (λ g m. each g (Memᴰ.tail m)),
    )

pub length_most : (table : Table) → Within table → ((gate : GateLine) → Memᴰ gate table.gates → length gate.fanins ≤ 2) →
    length (encode table) ≤ 7 + 14 * 191 + 4 * 64
length_most table within each = omega (arith, length_table narrow_table table, fanins_few table.gates each)
