-- Reading a gate table.
-- "Order: one head, G gates, then outputs to the end." "Fields go left to right and the first fault is the reply."
use Rattle.std.specs.Prelude.{ℕ, zero, suc, ◌+◌, cond, List, [], ◌∷◌, length, eqb, Ok, Err}
use Rattle.storage.specs.declared.Numbers.{Numbers}
use Rattle.drawing.specs.declared.TableForm.{TableForm}
use Rattle.drawing.specs.declared.Refusal.TheVariants.{Outputs}
use Rattle.drawing.specs.paper.Limits.{most_outputs}
use Rattle.drawing.specs.paper.Bytes.{length_at, value_at}
use Rattle.drawing.specs.paper.Forms.{form_of, gates_start}
use Rattle.drawing.specs.paper.Table.{GateLine, Table}
use Rattle.drawing.specs.paper.Fields.{Verdict, head_verdict, head_k, head_i, head_g, gate_verdict, gate_at, output_verdict, output_id}

-- The gates read whole from some place on, the ruling on them, and where they end.
pub record GatesFound : Type 0 where
  pub gates : List GateLine
  pub verdict : Verdict
  pub next : ℕ

abbrev pub with_gate : Verdict → GateLine → ℕ → GatesFound → GatesFound
with_gate (Ok _) g at rest = record { gates = g ∷ rest.gates; verdict = rest.verdict; next = rest.next }
with_gate (Err r) g at rest = record { gates = []; verdict = Err r; next = at }

unfoldable pub gates_from : TableForm → List ℕ → (k nodes due at : ℕ) → GatesFound
gates_from form s k nodes zero at = record { gates = []; verdict = Ok tt; next = at }
gates_from form s k nodes (suc due) at =
    let rest = gates_from form s k nodes due (value_at at + length_at s at) in
    with_gate (gate_verdict form s at k nodes) (gate_at form s at) at rest

-- The outputs read whole from some place on, and the ruling on them.
pub record OutputsFound : Type 0 where
  pub outputs : List ℕ
  pub verdict : Verdict

abbrev pub no_more : Verdict → OutputsFound
no_more v = record { outputs = []; verdict = v }

abbrev pub with_output : Verdict → ℕ → OutputsFound → OutputsFound
with_output (Ok _) id rest = record { outputs = id ∷ rest.outputs; verdict = rest.verdict }
with_output (Err r) id rest = no_more (Err r)

-- `room` more outputs may follow. Where it is 0 no output field is sound.
unfoldable pub outputs_from : TableForm → List ℕ → (nodes room at : ℕ) → OutputsFound
outputs_from form s nodes zero at = cond (eqb at (length s)) (no_more (Ok tt)) (no_more (output_verdict form s at zero nodes))
outputs_from form s nodes (suc room) at =
    let rest = outputs_from form s nodes room (value_at at + form.width) in
    cond (eqb at (length s)) (no_more (Ok tt)) (with_output (output_verdict form s at (suc room) nodes) (output_id form s at) rest)

-- "bytes end after the last gate with no output, or a 65th tag 3 begins"
abbrev pub outputs_at : TableForm → List ℕ → (nodes at : ℕ) → OutputsFound
outputs_at form s nodes at = cond (eqb at (length s)) (no_more (Err (Outputs (length s)))) (outputs_from form s nodes most_outputs at)

-- What is found in a table's bytes: all that was read whole up to the end or the first fault, and the ruling.
pub record Found : Type 0 where
  pub gates : List GateLine
  pub outputs : List ℕ
  pub verdict : Verdict

abbrev pub nodes_of : List ℕ → ℕ
nodes_of s = head_i s + head_g s

abbrev pub gates_of : List ℕ → GatesFound
gates_of s = gates_from (form_of s) s (head_k s) (nodes_of s) (head_g s) (gates_start (form_of s))

abbrev pub after_gates : List ℕ → Verdict → GatesFound → Found
after_gates s (Ok _) g =
    let o = outputs_at (form_of s) s (nodes_of s) g.next in
    record { gates = g.gates; outputs = o.outputs; verdict = o.verdict }
after_gates s (Err r) g = record { gates = g.gates; outputs = []; verdict = Err r }

abbrev pub after_head : List ℕ → Verdict → Found
after_head s (Ok _) = after_gates s (gates_of s).verdict (gates_of s)
after_head s (Err r) = record { gates = []; outputs = []; verdict = Err r }

unfoldable pub found : List ℕ → Found
found s = after_head s (head_verdict s)

-- The table that bytes which read whole stand for.
abbrev pub table_of : List ℕ → Table
table_of s = record { k = head_k s; inputs = head_i s; gates = (found s).gates; outputs = (found s).outputs }

-- the head's numbers, with this many roots
abbrev pub numbers_with : List ℕ → ℕ → Numbers
numbers_with s roots = record { k = record { leaves = head_k s }; inputs = head_i s; nodes = nodes_of s; roots = roots }

-- what a walk stops at: the inputs
abbrev pub sources_of : List ℕ → ℕ
sources_of s = head_i s

-- what a cover has to reach: the outputs
abbrev pub roots_of : List ℕ → List ℕ
roots_of s = (found s).outputs

-- K, I and n, and as many roots as the table has outputs
abbrev pub numbers_of : List ℕ → Numbers
numbers_of s = numbers_with s (length (roots_of s))
