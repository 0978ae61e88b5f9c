-- What the loops of a reading leave: from a place on, the arrays, the ruling and the end.
use Rattle.std.specs.Prelude.{ℕ, ◌+◌, ◌*◌, ◌-◌, ◌≤◌, ◌<◌, ◌≡◌, List, length, Result, Ok, Err}
use Rattle.std.proofs.lemmas.List.Edits.{sets}
use Rattle.drawing.specs.declared.TableForm.{TableForm}
use Rattle.drawing.specs.declared.Refusal.{Refusal}
use Rattle.drawing.specs.paper.Limits.{most_k}
use Rattle.drawing.specs.paper.Bytes.{length_at, value_at}
use Rattle.drawing.specs.paper.Forms.{gates_start, gate_size}
use Rattle.drawing.specs.Forms.{Formed}
use Rattle.drawing.specs.paper.Fields.{Verdict, gate_m, gate_at, gate_verdict}
use Rattle.drawing.specs.paper.Reading.{gates_from, OutputsFound}
use Rattle.drawing.specs.Reading.{Lines, put_gate, put_gates}

-- How a run of fields ended: all sound, with the number that the function says, or refused.
abbrev pub Ended : Type 0
Ended = Result ℕ Refusal

abbrev pub end_of : Verdict → ℕ → Ended
end_of (Ok _) next = Ok next
end_of (Err r) next = Err r

-- A gate's line can be stored at node v: its value lies within the bytes, and its entries within the arrays.
pub record GateFits (form : TableForm) (s : List ℕ) (at v : ℕ) (a : Lines) : Type 0 where
  pub formed : Formed form
  pub whole : value_at at + gate_size form (gate_m s at) ≤ length s
  pub few : gate_m s at ≤ most_k
  pub fanins : 7 * v + 7 ≤ length a.fanins
  pub rows : v < length a.rows

-- A gate can be read at `at` for node v: K is the paper's at most, and v's entries lie within the arrays.
pub record GateTurn (form : TableForm) (s : List ℕ) (at k v : ℕ) (a : Lines) : Type 0 where
  pub formed : Formed form
  pub inside : at ≤ length s
  pub small : k ≤ most_k
  pub fanins : 7 * v + 7 ≤ length a.fanins
  pub rows : v < length a.rows

-- one gate read, or refused
abbrev pub gate_stored : TableForm → Lines → ℕ → List ℕ → ℕ → Verdict → Lines
gate_stored form a v s at (Ok _) = put_gate a v (gate_at form s at)
gate_stored form a v s at (Err r) = a

pub record GateRead (form : TableForm) (before : Lines) (s : List ℕ) (at k nodes v : ℕ) (r : Ended) (after : Lines) : Type 0 where
  pub reply : r ≡ end_of (gate_verdict form s at k nodes) (value_at at + length_at s at)
  pub lines : after ≡ gate_stored form before v s at (gate_verdict form s at k nodes)

-- The gates of a sound head can be read: K is the paper's at most, ids fit 16 bits, and the arrays are long enough.
pub record GatesFit (form : TableForm) (s : List ℕ) (k inputs nodes : ℕ) (a : Lines) : Type 0 where
  pub formed : Formed form
  pub head : gates_start form ≤ length s
  pub k_small : k ≤ most_k
  pub span : inputs ≤ nodes
  pub small : nodes ≤ 32767
  pub fanins : 7 * nodes ≤ length a.fanins
  pub rows : nodes ≤ length a.rows

-- the gates from node v on, read at `at`
pub record GatesDone : Type 0 where
  pub lines : Lines
  pub verdict : Verdict
  pub next : ℕ

abbrev pub gates_done : TableForm → List ℕ → (k nodes : ℕ) → Lines → (v at : ℕ) → GatesDone
gates_done form s k nodes a v at =
    let rest = gates_from form s k nodes (nodes - v) at in
    record { lines = put_gates a v rest.gates; verdict = rest.verdict; next = rest.next }

pub record GatesRead (form : TableForm) (before : Lines) (s : List ℕ) (k nodes v at : ℕ) (r : Ended) (after : Lines) : Type 0 where
  pub reply : r ≡ end_of (gates_done form s k nodes before v at).verdict (gates_done form s k nodes before v at).next
  pub lines : after ≡ (gates_done form s k nodes before v at).lines
  pub inside : (next : ℕ) → r ≡ Ok next → next ≤ length s

-- the outputs from the i-th on, read at `at`
abbrev pub end_of_outputs : OutputsFound → (i : ℕ) → Ended
end_of_outputs found i = end_of found.verdict (i + length found.outputs)

pub record OutputsRead (before : List ℕ) (i : ℕ) (found : OutputsFound) (r : Ended) (after : List ℕ) : Type 0 where
  pub reply : r ≡ end_of_outputs found i
  pub outputs : after ≡ sets before i found.outputs
