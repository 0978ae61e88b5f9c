-- The gate table is written gate by gate and output by output: what the arrays hold is what the table says.
use Prim.Native.Nat.{ℕ, ◌+◌, ◌^◌, ◌≤◌, ◌<◌}
use native.Mathlib.Omega.{arith}
use mathlib.Core.Path.{◌≡◌, refl, sym, ap, ap₂, subst, ◌∙◌}
use mathlib.Core.Bool.{Bool, true, false, cond}
use mathlib.Core.List.{List, [], ◌∷◌}
use lib.ListN.{length, get_or}
use lib.Dec.{ltb}
use Rattle.drawing.specs.paper.Forms.{narrow_table}
use Rattle.drawing.specs.paper.Table.{GateLine, no_gate}
use Rattle.sheet.specs.Writing.{Room, Written}
use Rattle.sheet.proofs.Writes.{written_as, same_size}
use Rattle.tabling.specs.paper.Encoding.{head_field, gate_field, output_field, encode}
use Rattle.tabling.specs.Gates.{gate_of, gate_for}
use Rattle.tabling.specs.Fields.{head_done, gates_done, outputs_done}
use Rattle.tabling.proofs.Joins.{head_room_lem, gates_none, gate_room, gate_more, gates_all, output_room_lem, output_more, outputs_all}
use Rattle.grammar.specs.paper.Gates.{gate, table_for}
use Rattle.scanning.specs.declared.Counts.{Counts}
use Rattle.naming.specs.Stored.{node_named, operand_node, place_in}
use Rattle.naming.specs.Lines.{Three, three_in, fanins_of, line_of}
use Rattle.naming.proofs.Lines.{lines_size, outputs_size, line_stored, output_node, left_low, right_low}
use Rattle.compiling.specs.paper.Compiles.{table_room}
use Rattle.compiling.specs.Stages.{Ready, ready_table, GateAsked, GateWritten}
use Rattle.compiling.proofs.Readied.{ready_fits}

-- a gate of one or two fanins is the line of its three
one_or_two : (b : Bool) (left right table : ℕ) →
    cond b (gate_of (left ∷ []) table) (gate_of (left ∷ right ∷ []) table) ≡ gate (cond b (left ∷ []) (left ∷ right ∷ [])) table
one_or_two true left right table = refl
one_or_two false left right table = refl

line_is : (node : ℕ → ℕ) (inputs : ℕ) (t : Three) {left right table : ℕ} → left ≡ operand_node node inputs t.left →
    right ≡ operand_node node inputs t.right → table ≡ t.table → gate_for left right table ≡ line_of node inputs t
unfolding fanins_of
line_is node inputs t {left} {right} {table} l r is =
    ap₂ (λ (x y : ℕ). gate_for x y table) l r ∙ ap (gate_for (operand_node node inputs t.left) (operand_node node inputs t.right)) is
    ∙ one_or_two (ltb t.table (2 ^ (2 ^ 1))) (operand_node node inputs t.left) (operand_node node inputs t.right) t.table

-- the gate whose operands were looked up
pub same_line : (node : ℕ → ℕ) (inputs : ℕ) (t : Three) {left right table : ℕ} (first second : ℕ) → left ≡ operand_node node inputs first → first ≡ t.left →
    right ≡ operand_node node inputs second → second ≡ t.right → table ≡ t.table → gate_for left right table ≡ line_of node inputs t
same_line node inputs t first second l first_is r second_is is =
    line_is node inputs t (l ∙ ap (operand_node node inputs) first_is) (r ∙ ap (operand_node node inputs) second_is) is

module _ {s gates names : List ℕ} {k : ℕ} {c : Counts} (ready : Ready s k gates names c) where
  inputs_is : c.inputs ≡ length ready.right.scanned.says.inputs
  inputs_is = ap (λ (x : Counts). x.inputs) ready.right.scanned.counts

  head_is : head_field narrow_table k c.inputs c.gates ≡ head_done (ready_table ready)
  unfolding table_for
  head_is =
      ap₂ (head_field narrow_table k) inputs_is (sym (lines_size ready.right.scanned.stored k))

  module _ (before : List ℕ) (room : table_room ≤ length before) where
    whole_room : Room before 0 (encode (ready_table ready))
    whole_room = omega (arith, ready_fits ready)

    pub head_fits : Room before 0 (head_field narrow_table k c.inputs c.gates)
    head_fits = subst (Room before 0) (sym head_is) (head_room_lem (ready_table ready) before whole_room)

    pub head_written : {middle : List ℕ} {next : ℕ} → Written before 0 (head_field narrow_table k c.inputs c.gates) middle next →
        Written before 0 (gates_done (ready_table ready) 0) middle next
    head_written w = gates_none (ready_table ready) (written_as head_is w)

    module _ {table : List ℕ} {at j : ℕ} (low : j < c.gates) (w : Written before 0 (gates_done (ready_table ready) j) table at) where
      stands : get_or (ready_table ready).gates j no_gate ≡ line_of (node_named s names c.definitions) c.inputs (three_in gates j)
      stands =
          line_stored ready.right.scanned.stored k j low
          ∙ ap (λ (n : ℕ). line_of (node_named s names c.definitions) n (three_in gates j)) (sym inputs_is)

      more : j < length (ready_table ready).gates
      more = omega (arith, lines_size ready.right.scanned.stored k)

      pub gate_asked : GateAsked s gates j names c.definitions c.inputs table at
      gate_asked =
          let stored = ready.right.scanned.stored in
          let few = ready.numbers.nodes in
          let inputs = inputs_is in
          record {
            gates_long = omega (arith, ready.right.scanned.gates_long);
            left_low = omega (arith, left_low stored k j low, stored.made_said);
            right_low = omega (arith, right_low stored k j low, stored.made_said);
            room = subst (λ (g : GateLine). Room table at (gate_field narrow_table g)) stands (gate_room (ready_table ready) j more w whole_room);
          }

      pub gate_written : {after : List ℕ} {next : ℕ} → GateWritten s gates j names c.definitions c.inputs table at after next →
          Written before 0 (gates_done (ready_table ready) (j + 1)) after next
      gate_written {after} {next} one =
          gate_more (ready_table ready) j more w (subst (λ (g : GateLine). Written table at (gate_field narrow_table g) after next) (sym stands) one)

    pub gates_written : {table : List ℕ} {at : ℕ} (j : ℕ) → c.gates ≤ j → Written before 0 (gates_done (ready_table ready) j) table at →
        Written before 0 (outputs_done (ready_table ready) 0) table at
    gates_written j all w = gates_all (ready_table ready) j (omega (arith, lines_size ready.right.scanned.stored k)) w

    module _ {table : List ℕ} {at j : ℕ} (low : j < c.outputs) (w : Written before 0 (outputs_done (ready_table ready) j) table at) where
      output_stands : get_or (ready_table ready).outputs j 0 ≡ node_named s names c.definitions (place_in names (c.definitions + j))
      output_stands = output_node ready.right.scanned.stored k j low

      output_left : j < length (ready_table ready).outputs
      output_left = omega (arith, outputs_size ready.right.scanned.stored k)

      pub output_fits : {node : ℕ} → node ≡ node_named s names c.definitions (place_in names (c.definitions + j)) → Room table at (output_field narrow_table node)
      output_fits is =
          subst (λ (v : ℕ). Room table at (output_field narrow_table v)) (output_stands ∙ sym is) (output_room_lem (ready_table ready) j output_left w whole_room)

      pub output_written : {node : ℕ} {after : List ℕ} {next : ℕ} → node ≡ node_named s names c.definitions (place_in names (c.definitions + j)) →
          Written table at (output_field narrow_table node) after next → Written before 0 (outputs_done (ready_table ready) (j + 1)) after next
      output_written {node} {after} {next} is one =
          output_more (ready_table ready) j output_left w
          (subst (λ (v : ℕ). Written table at (output_field narrow_table v) after next) (is ∙ sym output_stands) one)

    pub outputs_written : {table : List ℕ} {at : ℕ} (j : ℕ) → c.outputs ≤ j → Written before 0 (outputs_done (ready_table ready) j) table at →
        Written before 0 (encode (ready_table ready)) table at
    outputs_written j all w = outputs_all (ready_table ready) j (omega (arith, outputs_size ready.right.scanned.stored k)) w

-- The loops. What stood in the buffer before is any list into which what came first was written.
pub record GatesSofar (s gates names table₀ : List ℕ) (c : Counts) (at₀ : ℕ) (table : List ℕ) (at j : ℕ) : Type 0 where
  pub size : length table ≡ length table₀
  pub written : (k : ℕ) (ready : Ready s k gates names c) (before : List ℕ) → table_room ≤ length before →
      Written before 0 (gates_done (ready_table ready) 0) table₀ at₀ → Written before 0 (gates_done (ready_table ready) j) table at

module _ {s gates names table₀ : List ℕ} {c : Counts} {at₀ : ℕ} where
  pub gates_sofar_none : GatesSofar s gates names table₀ c at₀ table₀ at₀ 0
  gates_sofar_none = record { size = refl; written = λ k ready before room w. w }

  pub gates_sofar_more : {table after : List ℕ} {at next j : ℕ} → GatesSofar s gates names table₀ c at₀ table at j → j < c.gates →
      GateWritten s gates j names c.definitions c.inputs table at after next → GatesSofar s gates names table₀ c at₀ after next (j + 1)
  gates_sofar_more sofar less one =
      record {
        size = same_size one ∙ sofar.size;
        written = λ k ready before room w. gate_written ready before room less (sofar.written k ready before room w) one;
      }

pub record OutputsSofar (s names table₀ : List ℕ) (start : ℕ) (c : Counts) (table : List ℕ) (at j : ℕ) : Type 0 where
  pub size : length table ≡ length table₀
  pub written : (k : ℕ) (gates : List ℕ) (ready : Ready s k gates names c) (before : List ℕ) → table_room ≤ length before →
      Written before 0 (outputs_done (ready_table ready) 0) table₀ start → Written before 0 (outputs_done (ready_table ready) j) table at

module _ {s names table₀ : List ℕ} {start : ℕ} {c : Counts} where
  pub outputs_sofar_none : OutputsSofar s names table₀ start c table₀ start 0
  outputs_sofar_none = record { size = refl; written = λ k gates ready before room w. w }

  pub outputs_sofar_more : {table after : List ℕ} {at next j node : ℕ} → OutputsSofar s names table₀ start c table at j → j < c.outputs →
      node ≡ node_named s names c.definitions (place_in names (c.definitions + j)) → Written table at (output_field narrow_table node) after next →
      OutputsSofar s names table₀ start c after next (j + 1)
  outputs_sofar_more sofar less is one =
      record {
        size = same_size one ∙ sofar.size;
        written = λ k gates ready before room w.
            output_written ready before room less (sofar.written k gates ready before room w) is one;
      }
