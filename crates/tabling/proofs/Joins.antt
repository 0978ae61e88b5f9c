-- For the caller that writes a table field by field: where the whole encoding has room the next field has, one field more is one write more,
-- and after the last the encoding stands at the buffer's front. A loop over gates or outputs keeps one `Written` of the first i of them.
use Prim.Native.Nat.{ℕ, suc, ◌+◌, ◌<◌, ◌≤◌}
use native.Mathlib.Numerals.{add-one}
use native.Mathlib.Omega.{arith}
use mathlib.Core.Path.{◌≡◌, ap, sym, subst, ◌∙◌}
use mathlib.Core.List.{List, ◌∷◌, ◌++◌, flat_map, append-nil}
use lib.ListN.{length, get_or, take, drop, take-append-drop}
use lib.Seq.{take-suc, drop-cons, take_at, take_all}
use Rattle.drawing.specs.paper.Forms.{narrow_table}
use Rattle.drawing.specs.paper.Table.{Table, no_gate}
use Rattle.sheet.specs.Writing.{Room, Written}
use Rattle.sheet.proofs.Writes.{written_as, written_more, room_first}
use Rattle.sheet.proofs.Joins.{next_room, front_written}
use Rattle.tabling.specs.paper.Encoding.{gate_field, output_field, encode_in, encode}
use Rattle.tabling.specs.Fields.{head_done, gates_done, all_gates, outputs_done}

-- the first i of a run of parts behind a front
module _ {A : Type 0} (f : A → List ℕ) (front : List ℕ) (xs : List A) where
  abbrev first_of : ℕ → List ℕ
  first_of i = front ++ flat_map f (take i xs)

  module _ {before : List ℕ} {at : ℕ} {middle : List ℕ} {next : ℕ} where
    first_none : Written before at front middle next → Written before at (first_of 0) middle next
    unfolding flat_map
    first_none w = written_as (sym (append-nil front)) w

    first_all : (i : ℕ) → length xs ≤ i → Written before at (first_of i) middle next → Written before at (front ++ flat_map f xs) middle next
    first_all i all w = written_as (ap (λ (l : List A). front ++ flat_map f l) (take_all i xs all)) w

    module _ (d : A) (i : ℕ) (more : i < length xs) (w : Written before at (first_of i) middle next) where
      first_room : Room before at (front ++ flat_map f xs) → Room middle next (f (get_or xs i d))
      first_room room =
          let split : xs ≡ take i xs ++ (get_or xs i d ∷ drop (suc i) xs) =
          sym (take-append-drop i xs) ∙ ap (λ (l : List A). take i xs ++ l) (drop-cons xs i d more) in
          next_room f front (take i xs) (get_or xs i d) (drop (suc i) xs)
          (subst (λ (l : List A). Room before at (front ++ flat_map f l)) split room) w

      first_more : {after : List ℕ} {last : ℕ} → Written middle next (f (get_or xs i d)) after last → Written before at (first_of (i + 1)) after last
      first_more one =
          written_as
          (ap (λ (l : List A). front ++ flat_map f l) (sym (take-suc xs i d more) ∙ ap (λ (n : ℕ). take n xs) (sym (add-one i))))
          (written_more f front (take i xs) (get_or xs i d) w one)

pub head_room_lem : (table : Table) (before : List ℕ) → Room before 0 (encode table) → Room before 0 (head_done table)
unfolding encode_in
head_room_lem table before room =
    room_first before 0 (head_done table) (flat_map (gate_field narrow_table) table.gates)
    (room_first before 0 (all_gates table) (flat_map (output_field narrow_table) table.outputs) room)

module _ (table : Table) {before middle : List ℕ} {next : ℕ} where
  pub gates_none : Written before 0 (head_done table) middle next → Written before 0 (gates_done table 0) middle next
  gates_none = first_none (gate_field narrow_table) (head_done table) table.gates

  pub gate_room : (i : ℕ) → i < length table.gates → Written before 0 (gates_done table i) middle next → Room before 0 (encode table) →
      Room middle next (gate_field narrow_table (get_or table.gates i no_gate))
  unfolding encode_in
  gate_room i more w room =
      first_room (gate_field narrow_table) (head_done table) table.gates no_gate i more w
      (room_first before 0 (all_gates table) (flat_map (output_field narrow_table) table.outputs) room)

  pub gate_more : {after : List ℕ} {last : ℕ} (i : ℕ) → i < length table.gates → Written before 0 (gates_done table i) middle next →
      Written middle next (gate_field narrow_table (get_or table.gates i no_gate)) after last → Written before 0 (gates_done table (i + 1)) after last
  gate_more i more w one = first_more (gate_field narrow_table) (head_done table) table.gates no_gate i more w one

  pub gates_all : (i : ℕ) → length table.gates ≤ i → Written before 0 (gates_done table i) middle next →
      Written before 0 (outputs_done table 0) middle next
  gates_all i all w =
      first_none (output_field narrow_table) (all_gates table) table.outputs
      (first_all (gate_field narrow_table) (head_done table) table.gates i all w)

  pub output_room_lem : (i : ℕ) → i < length table.outputs → Written before 0 (outputs_done table i) middle next → Room before 0 (encode table) →
      Room middle next (output_field narrow_table (get_or table.outputs i 0))
  unfolding encode_in
  output_room_lem i more w room = first_room (output_field narrow_table) (all_gates table) table.outputs 0 i more w room

  pub output_more : {after : List ℕ} {last : ℕ} (i : ℕ) → i < length table.outputs → Written before 0 (outputs_done table i) middle next →
      Written middle next (output_field narrow_table (get_or table.outputs i 0)) after last → Written before 0 (outputs_done table (i + 1)) after last
  output_more i more w one = first_more (output_field narrow_table) (all_gates table) table.outputs 0 i more w one

  pub outputs_all : (i : ℕ) → length table.outputs ≤ i → Written before 0 (outputs_done table i) middle next →
      Written before 0 (encode table) middle next
  unfolding encode_in
  outputs_all i all w = first_all (output_field narrow_table) (all_gates table) table.outputs i all w

  -- the part of the buffer that was written
  pub table_stands : Written before 0 (encode table) middle next → Room before 0 (encode table) → take next middle ≡ encode table
  table_stands w room =
      let both = front_written w (omega arith) in
      ap (take next) both.0 ∙ take_at (encode table) (drop (length (encode table)) before) next (sym both.1)
