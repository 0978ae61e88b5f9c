-- What `encode` gives for a table within document 01's numbers is a table's bytes that read whole, and reads back as that table.
use Prim.Native.Nat.{ℕ, ◌+◌, ◌≤◌}
use native.Mathlib.Omega.{arith}
use mathlib.Core.Path.{◌≡◌, ap, sym, ◌∙◌}
use mathlib.Core.List.{List, [], ◌∷◌, ◌++◌, flat_map, append-nil}
use mathlib.Core.Bool.{cond}
use borrow.Author.Tests.{ne_eqb}
use lib.ListN.{length, length-append}
use Rattle.drawing.specs.declared.Refusal.TheVariants.{Outputs}
use Rattle.std.specs.Prelude.{Ok, Err}
use Rattle.drawing.specs.paper.Limits.{most_outputs}
use Rattle.drawing.specs.paper.Forms.{narrow_table, gates_start}
use Rattle.drawing.specs.paper.Table.{Table, net_of}
use Rattle.drawing.specs.paper.Fields.{head_verdict}
use Rattle.drawing.specs.paper.Reading.{GatesFound, Found, gates_from, gates_of, nodes_of, no_more, outputs_from, outputs_at, after_gates, after_head}
use Rattle.drawing.specs.paper.Reading.{found, table_of}
use Rattle.sheet.proofs.Standing.{Stands, stands_first, stands_then}
use Rattle.taking.specs.paper.Taken.{drawn, ReadsWhole}
use Rattle.tabling.specs.paper.Encoding.{head_field, gate_field, output_field, encode_in, encode}
use Rattle.tabling.specs.Within.{nodes_in, Within}
use Rattle.tabling.proofs.Lengths.{length_output}
use Rattle.tabling.proofs.Standing.{Writable, HeadStands, head_stands, gates_stand, outputs_stand}

narrow_writable : Writable narrow_table
narrow_writable = record { sized = omega arith; narrow = omega arith; fits = omega arith }

some_bytes : (ids : List ℕ) → 1 ≤ length ids → 1 ≤ length (flat_map (output_field narrow_table) ids)
unfolding flat_map
some_bytes [] some = absurd (omega arith)
some_bytes (id ∷ ids) some =
    omega (arith, length-append (output_field narrow_table id) (flat_map (output_field narrow_table) ids), length_output narrow_table id)

-- the three parts together
module _ (s : List ℕ) (table : Table) where
  assembled : {next : ℕ} → HeadStands narrow_table narrow_writable s table.k table.inputs (length table.gates) →
      gates_from narrow_table s table.k (nodes_in table) (length table.gates) (gates_start narrow_table)
      ≡ record { gates = table.gates; verdict = Ok tt; next = next } →
      outputs_at narrow_table s (nodes_in table) next ≡ record { outputs = table.outputs; verdict = Ok tt } →
      found s ≡ record { gates = table.gates; outputs = table.outputs; verdict = Ok tt }
  unfolding found head_verdict
  assembled {next} head gates outputs =
      let gates_found : gates_of s ≡ record { gates = table.gates; verdict = Ok tt; next = next } =
      (λ i. gates_from narrow_table s (head.k_read i) (head.inputs_read i + head.gates_read i) (head.gates_read i) (gates_start narrow_table))
      ∙ gates in
      let outputs-found : outputs_at narrow_table s (nodes_of s) next ≡ record { outputs = table.outputs; verdict = Ok tt } =
      (λ i. outputs_at narrow_table s (head.inputs_read i + head.gates_read i) next) ∙ outputs in
      ap (after_head s) head.ruled
      ∙ ap (λ (g : GatesFound). after_gates s g.verdict g) gates_found
      ∙ (λ i. record { gates = table.gates; outputs = (outputs-found i).outputs; verdict = (outputs-found i).verdict })

-- the head of a table's encoding
head_of : (table : Table) → Within table → HeadStands narrow_table narrow_writable (encode table) table.k table.inputs (length table.gates)
unfolding encode_in
head_of table within =
    let head = head_field narrow_table table.k table.inputs (length table.gates) in
    let gates = flat_map (gate_field narrow_table) table.gates in
    let outputs = flat_map (output_field narrow_table) table.outputs in
    let whole : Stands (encode table) 0 (head ++ gates ++ outputs) = record { rest = []; there = sym (append-nil (head ++ gates ++ outputs)) } in
    head_stands narrow_table narrow_writable (encode table) table.k table.inputs (length table.gates) within.k_least within.k_most
    within.inputs_least within.inputs_most (omega (arith, within.inputs_least)) within.nodes_most
    (stands_first head gates (stands_first (head ++ gates) outputs whole))

pub found_encoded : (table : Table) → Within table →
    found (encode table) ≡ record { gates = table.gates; outputs = table.outputs; verdict = Ok tt }
unfolding encode_in
found_encoded table within =
    let s = encode table in
    let head = head_field narrow_table table.k table.inputs (length table.gates) in
    let gates = flat_map (gate_field narrow_table) table.gates in
    let outputs = flat_map (output_field narrow_table) table.outputs in
    let whole : Stands s 0 (head ++ gates ++ outputs) = record { rest = []; there = sym (append-nil (head ++ gates ++ outputs)) } in
    let head-part = head_of table within in
    let start : 0 + length head ≡ gates_start narrow_table = omega (arith, head-part.end) in
    let gates-part = gates_stand narrow_table narrow_writable s table.k (nodes_in table) (gates_start narrow_table) table.gates within.k_most
    within.nodes_most within.gates (stands_then head gates start (stands_first (head ++ gates) outputs whole)) in
    let next = gates_start narrow_table + length gates in
    let next-is : 0 + length (head ++ gates) ≡ next = omega (arith, length-append head gates, start) in
    let last : next + length outputs ≡ length s = omega (arith, length-append (head ++ gates) outputs, next-is) in
    let goes_on = ne_eqb next (length s) (λ e. omega (arith, last, some_bytes table.outputs within.outputs_some)) in
    let outputs-part : outputs_at narrow_table s (nodes_in table) next ≡ record { outputs = table.outputs; verdict = Ok tt } =
    (λ i. cond (goes_on i) (no_more (Err (Outputs (length s)))) (outputs_from narrow_table s (nodes_in table) most_outputs next))
    ∙ outputs_stand narrow_table narrow_writable s (nodes_in table) most_outputs next table.outputs within.outputs_most within.nodes_most
    within.outputs (stands_then (head ++ gates) outputs next-is whole) last in
    assembled s table head-part gates-part outputs-part

module _ (table : Table) (within : Within table) where
  pub reads_whole : ReadsWhole (encode table)
  reads_whole = ap (λ (f : Found). f.verdict) (found_encoded table within)

  pub table_back : table_of (encode table) ≡ table
  table_back =
      let head = head_of table within in
      let f = found_encoded table within in
      λ i. record { k = head.k_read i; inputs = head.inputs_read i; gates = (f i).gates; outputs = (f i).outputs }

  pub drawn_back : drawn (encode table) ≡ net_of table
  drawn_back = ap net_of table_back
