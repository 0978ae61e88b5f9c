-- A field of a gate table that stands somewhere in bytes reads back as what was encoded, is ruled sound where it keeps the paper's numbers,
-- and ends where its bytes end; so do the gates, and the outputs, one after the other.
use Prim.Native.Nat.{ℕ, zero, suc, ◌+◌, ◌*◌, ◌-◌, ◌^◌, ◌<◌, ◌≤◌}
use native.Mathlib.Nat.{mul-le-mul_right}
use native.Mathlib.Omega.{arith}
use mathlib.Core.Path.{◌≡◌, refl, ap, sym, ◌∙◌}
use mathlib.Core.Bool.{Bool, false, not, cond, ◌||◌}
use mathlib.Core.List.{List, [], ◌∷◌, ◌++◌, flat_map, Memᴰ}
use borrow.Author.Tests.{le-ltb, lt-leb, eq-eqb, ne_eqb}
use lib.Pow.{pow_mono}
use lib.ListN.{length, get_or, length-append}
use lib.Dec.{leb}
use Rattle.drawing.specs.declared.TableForm.{TableForm}
use Rattle.drawing.specs.paper.Fields.{Verdict}
use Rattle.std.specs.Prelude.{Ok}
use Rattle.drawing.specs.paper.Limits.{least_k, most_k, least_inputs, most_inputs}
use Rattle.drawing.specs.paper.Rules.{first}
use Rattle.drawing.specs.paper.Bytes.{tag_at, length_at, value_at, number_at, ids_at, some_from}
use Rattle.drawing.specs.paper.Forms.{gates_start, gate_size, least_gate, most_gate}
use Rattle.drawing.specs.paper.Table.{GateLine}
use Rattle.drawing.specs.paper.Fields.{frame_rules, value_rules, head_k, head_i, gates_in, head_out_of_range, head_ruling, gate_m, gate_ids, gate_table}
use Rattle.drawing.specs.paper.Fields.{gate_at, gate_length_wrong, gate_out_of_range, gate_row_set, gate_verdict, output_id, output_verdict}
use Rattle.drawing.specs.paper.Reading.{with_gate, gates_from, no_more, with_output, outputs_from}
use Rattle.sheet.specs.paper.Encoding.{digits, byte, id_bytes}
use Rattle.sheet.proofs.Numbers.{length_digits, length_ids}
use Rattle.sheet.proofs.Lengths.{length_field}
use Rattle.sheet.proofs.Standing.{Stands, stands_first, stands_then, tag_stands, number_stands, ids_stand, FieldStands, field_stands}
use Rattle.sheet.proofs.Shapes.{none_from}
use Rattle.tabling.specs.paper.Encoding.{head_value, gate_value, head_field, gate_field, output_field}
use Rattle.drawing.specs.Lines.{SoundLine}
use Rattle.tabling.proofs.Lengths.{length_head_value, length_gate_value, length_output}

-- A form that a table can be written in: a head's value is its numbers, ids have two bytes at most, and every id fits.
pub record Writable (form : TableForm) : Type 0 where
  pub sized : form.size ≡ 3 + form.width
  pub narrow : form.width ≤ 2
  pub fits : form.most ≤ 256 ^ form.width

byte_stands : {s : List ℕ} {at : ℕ} (n : ℕ) → n < 256 → Stands s at (byte n) → get_or s at 0 ≡ n
unfolding digits
byte_stands n small st = tag_stands st ∙ omega arith

-- a field that stands, and none of whose rules is broken
ruled_sound : {s : List ℕ} {at tag : ℕ} {value : List ℕ} {surplus length-wrong out_of_range row-set : Bool} → FieldStands s at tag value →
    surplus ≡ false → length-wrong ≡ false → out_of_range ≡ false → row-set ≡ false →
    first (Ok tt) (frame_rules s at tag surplus ++ value_rules at length-wrong out_of_range row-set) ≡ Ok tt
ruled_sound {s} {at} {tag} f wanted right ranged clear =
    rw
    (le-ltb (length s - at) 3 f.begun, eq-eqb (tag_at s at) tag f.tagged, wanted, le-ltb (length s - value_at at) (length_at s at) (omega (arith, f.long, f.inside)), right, ranged, clear)

module _ (form : TableForm) (writable : Writable form) (s : List ℕ) where
  -- the head
  pub record HeadStands (k inputs gates : ℕ) : Type 0 where
    pub k_read : head_k s ≡ k
    pub inputs_read : head_i s ≡ inputs
    pub gates_read : gates_in form s ≡ gates
    pub ruled : head_ruling form s ≡ Ok tt
    pub end : gates_start form ≡ length (head_field form k inputs gates)

  pub head_stands : (k inputs gates : ℕ) → least_k ≤ k → k ≤ most_k → least_inputs ≤ inputs → inputs ≤ most_inputs →
      form.least ≤ inputs + gates → inputs + gates ≤ form.most → Stands s 0 (head_field form k inputs gates) → HeadStands k inputs gates
  head_stands k inputs gates k_least k_most inputs_least inputs_most nodes_least nodes_most st =
      let count = digits form.width gates in
      let size = length_head_value form k inputs gates in
      let f : FieldStands s 0 form.head (head_value form k inputs gates) =
      field_stands s 0 form.head (head_value form k inputs gates) (omega (arith, size, writable.narrow)) st in
      let three : Stands s 3 (byte 1 ++ byte k ++ byte inputs) = stands_first (byte 1 ++ byte k ++ byte inputs) count f.stands in
      let two : Stands s 3 (byte 1 ++ byte k) = stands_first (byte 1 ++ byte k) (byte inputs) three in
      let version-read : get_or s 3 0 ≡ 1 = byte_stands 1 (omega arith) (stands_first (byte 1) (byte k) two) in
      let k_read : head_k s ≡ k =
      byte_stands k (omega arith) (stands_then (byte 1) (byte k) (omega (arith, length_digits 1 1)) two) in
      let front : length (byte 1 ++ byte k) ≡ 2 = omega (arith, length-append (byte 1) (byte k), length_digits 1 1, length_digits 1 k) in
      let inputs_read : head_i s ≡ inputs =
      byte_stands inputs (omega arith) (stands_then (byte 1 ++ byte k) (byte inputs) (omega (arith, front)) three) in
      let gates_read : gates_in form s ≡ gates =
      number_stands form.width gates (omega (arith, writable.fits))
      (stands_then (byte 1 ++ byte k ++ byte inputs) count
      (omega (arith, length-append (byte 1 ++ byte k) (byte inputs), front, length_digits 1 inputs)) f.stands) in
      let nodes : head_i s + gates_in form s ≡ inputs + gates = λ i. inputs_read i + gates_read i in
      let version-right = eq-eqb (get_or s 3 0) 1 version-read in
      let k-not-less = le-ltb (head_k s) least_k (omega (arith, k_read)) in
      let k-not-more = le-ltb most_k (head_k s) (omega (arith, k_read)) in
      let inputs-not-less = le-ltb (head_i s) least_inputs (omega (arith, inputs_read)) in
      let inputs-not-more = le-ltb most_inputs (head_i s) (omega (arith, inputs_read)) in
      let nodes-not-less = le-ltb (head_i s + gates_in form s) form.least (omega (arith, nodes)) in
      let nodes-not-more = le-ltb form.most (head_i s + gates_in form s) (omega (arith, nodes)) in
      let ranged : head_out_of_range form s ≡ false =
      λ i. not (version-right i)
      || (k-not-less i || (k-not-more i || (inputs-not-less i || (inputs-not-more i || (nodes-not-less i || nodes-not-more i))))) in
      let right = ap not (eq-eqb (length_at s 0) form.size (omega (arith, f.long, size, writable.sized))) in
      record {
        k_read = k_read;
        inputs_read = inputs_read;
        gates_read = gates_read;
        ruled = ruled_sound f refl right ranged refl;
        end = omega (arith, length_field form.head (head_value form k inputs gates), size, writable.sized);
      }

  -- a gate
  record GateStands (at k nodes : ℕ) (gate : GateLine) : Type 0 where
    read : gate_at form s at ≡ gate
    ruled : gate_verdict form s at k nodes ≡ Ok tt
    end : value_at at + length_at s at ≡ at + length (gate_field form gate)

  gate_stands : (at k nodes : ℕ) (gate : GateLine) → k ≤ most_k → nodes ≤ form.most → SoundLine k nodes gate →
      Stands s at (gate_field form gate) → GateStands at k nodes gate
  unfolding gate_verdict
  gate_stands at k nodes gate k_most nodes_most within st =
      let width = form.width in
      let m = length gate.fanins in
      let count = byte m in
      let ids = id_bytes width gate.fanins in
      let rows = digits 8 gate.table in
      let m-few : m ≤ 6 = omega (arith, within.few) in
      let least : 1 * width ≤ m * width = mul-le-mul_right width within.some in
      let most : m * width ≤ 6 * width = mul-le-mul_right width m-few in
      let size : length (gate_value form gate) ≡ 9 + m * width = length_gate_value form gate in
      let f : FieldStands s at form.gate (gate_value form gate) =
      field_stands s at form.gate (gate_value form gate) (omega (arith, size, most, writable.narrow)) st in
      let two : Stands s (value_at at) (count ++ ids) = stands_first (count ++ ids) rows f.stands in
      let m-read : gate_m s at ≡ m = byte_stands m (omega arith) (stands_first count ids two) in
      let below : (v : ℕ) → Memᴰ v gate.fanins → v < 256 ^ width = λ v mem. omega (arith, within.nodes_only v mem, writable.fits) in
      let ids-there : ids_at s (value_at at + 1) width m ≡ gate.fanins =
      ids_stand s (value_at at + 1) width gate.fanins below
      (stands_then count ids (ap (λ (n : ℕ). value_at at + n) (length_digits 1 m)) two) in
      let ids-read : gate_ids form s at ≡ gate.fanins = ap (ids_at s (value_at at + 1) width) m-read ∙ ids-there in
      let rows_few : 2 ^ (2 ^ m) ≤ 2 ^ 64 = pow_mono {i = 2 ^ m} {j = 64} (pow_mono {i = m} {j = 6} m-few) in
      let rows_at : value_at at + length (count ++ ids) ≡ value_at at + 1 + m * width =
      omega (arith, length-append count ids, length_digits 1 m, length_ids width gate.fanins) in
      let rows-there : number_at s (value_at at + 1 + m * width) 8 ≡ gate.table =
      number_stands 8 gate.table (omega (arith, within.rows, rows_few)) (stands_then (count ++ ids) rows rows_at f.stands) in
      let table-read : gate_table form s at ≡ gate.table =
      ap (λ (n : ℕ). number_at s (value_at at + 1 + n * width) 8) m-read ∙ rows-there in
      let long : length_at s at ≡ 9 + m * width = f.long ∙ size in
      let not-less = le-ltb (length_at s at) (least_gate form) (omega (arith, long, least)) in
      let not_more = le-ltb (most_gate form) (length_at s at) (omega (arith, long, most)) in
      let counted = eq-eqb (length_at s at) (gate_size form (gate_m s at)) (long ∙ ap (gate_size form) (sym m-read)) in
      let right : gate_length_wrong form s at ≡ false = λ i. not-less i || (not_more i || not (counted i)) in
      let few = le-ltb k (gate_m s at) (omega (arith, m-read, within.few)) in
      let known : some_from nodes (gate_ids form s at) ≡ false =
      ap (some_from nodes) ids-read ∙ none_from nodes gate.fanins within.nodes_only in
      let ranged : gate_out_of_range form s at k nodes ≡ false = λ i. few i || known i in
      let clear : gate_row_set form s at ≡ false =
      (λ i. leb (2 ^ (2 ^ m-read i)) (table-read i)) ∙ lt-leb (2 ^ (2 ^ m)) gate.table within.rows in
      record {
        read = λ i. record { fanins = ids-read i; table = table-read i };
        ruled = ruled_sound f refl right ranged clear;
        end = omega (arith, f.long, length_field form.gate (gate_value form gate));
      }

  -- all gates
  pub gates_stand : (k nodes at : ℕ) (gates : List GateLine) → k ≤ most_k → nodes ≤ form.most →
      ((gate : GateLine) → Memᴰ gate gates → SoundLine k nodes gate) → Stands s at (flat_map (gate_field form) gates) →
      gates_from form s k nodes (length gates) at
      ≡ record { gates = gates; verdict = Ok tt; next = at + length (flat_map (gate_field form) gates) }
  unfolding gates_from flat_map
  gates_stand k nodes at [] k_most nodes_most each st = λ i. record { gates = []; verdict = Ok tt; next = none i }
    where
      none : at ≡ at + 0
      none = omega arith
  gates_stand k nodes at (gate ∷ gates) k_most nodes_most each st =
      let rest = flat_map (gate_field form) gates in
      let here : GateStands at k nodes gate =
      gate_stands at k nodes gate k_most nodes_most (each gate (Memᴰ.head refl)) (stands_first (gate_field form gate) rest st) in
      let next = value_at at + length_at s at in
      let there = gates_stand k nodes next gates k_most nodes_most (λ g m. each g (Memᴰ.tail m))
      (stands_then (gate_field form gate) rest (sym here.end) st) in
      let last : next + length rest ≡ at + length (gate_field form gate ++ rest) =
      omega (arith, here.end, length-append (gate_field form gate) rest) in
      ap (λ (v : Verdict). with_gate v (gate_at form s at) at (gates_from form s k nodes (length gates) next)) here.ruled
      ∙ (λ i. record { gates = here.read i ∷ (there i).gates; verdict = (there i).verdict; next = (there i).next })
      ∙ (λ i. record { gates = gate ∷ gates; verdict = Ok tt; next = last i })

  -- an output
  record OutputStands (at room nodes id : ℕ) : Type 0 where
    read : output_id form s at ≡ id
    ruled : output_verdict form s at room nodes ≡ Ok tt
    end : value_at at + form.width ≡ at + length (output_field form id)

  output_stands : (at room nodes id : ℕ) → 1 ≤ room → nodes ≤ form.most → id < nodes → Stands s at (output_field form id) →
      OutputStands at room nodes id
  unfolding output_verdict
  output_stands at room nodes id wanted nodes_most node st =
      let size = length_digits form.width id in
      let f : FieldStands s at form.output (digits form.width id) =
      field_stands s at form.output (digits form.width id) (omega (arith, size, writable.narrow)) st in
      let read : output_id form s at ≡ id = number_stands form.width id (omega (arith, writable.fits)) f.stands in
      let right = ap not (eq-eqb (length_at s at) form.width (f.long ∙ size)) in
      let ranged = lt-leb nodes (output_id form s at) (omega (arith, read)) in
      record {
        read = read;
        ruled = ruled_sound f (ne_eqb room 0 (λ e. omega arith)) right ranged refl;
        end = omega (arith, length_output form id);
      }

  -- all outputs, up to the end
  pub outputs_stand : (nodes room at : ℕ) (ids : List ℕ) → length ids ≤ room → nodes ≤ form.most →
      ((v : ℕ) → Memᴰ v ids → v < nodes) → Stands s at (flat_map (output_field form) ids) →
      at + length (flat_map (output_field form) ids) ≡ length s →
      outputs_from form s nodes room at ≡ record { outputs = ids; verdict = Ok tt }
  unfolding outputs_from flat_map
  outputs_stand nodes zero at [] few nodes_most each st last =
      let ends = eq-eqb at (length s) (omega (arith, last)) in
      λ i. cond (ends i) (no_more (Ok tt)) (no_more (output_verdict form s at zero nodes))
  outputs_stand nodes (suc room) at [] few nodes_most each st last =
      let ends = eq-eqb at (length s) (omega (arith, last)) in
      λ i. cond (ends i) (no_more (Ok tt))
      (with_output (output_verdict form s at (suc room) nodes) (output_id form s at) (outputs_from form s nodes room (value_at at + form.width)))
  outputs_stand nodes zero at (id ∷ ids) few nodes_most each st last = absurd (omega arith)
  outputs_stand nodes (suc room) at (id ∷ ids) few nodes_most each st last =
      let rest = flat_map (output_field form) ids in
      let here : OutputStands at (suc room) nodes id =
      output_stands at (suc room) nodes id (omega arith) nodes_most (each id (Memᴰ.head refl)) (stands_first (output_field form id) rest st) in
      let next = value_at at + form.width in
      let whole = length-append (output_field form id) rest in
      let there = outputs_stand nodes room next ids (omega arith) nodes_most (λ v m. each v (Memᴰ.tail m))
      (stands_then (output_field form id) rest (sym here.end) st) (omega (arith, here.end, whole, last)) in
      let goes_on = ne_eqb at (length s) (λ e. omega (arith, here.end, whole, last)) in
      let found = outputs_from form s nodes room next in
      (λ i. cond (goes_on i) (no_more (Ok tt)) (with_output (here.ruled i) (output_id form s at) found))
      ∙ (λ i. with_output (Ok tt) (here.read i) (there i))
