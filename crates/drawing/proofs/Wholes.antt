-- From the loops' ends to the reply and the arrays of a whole reading; and that one promise allows one reply.
use Prim.Native.Nat.{ℕ, ◌+◌, ◌-◌, ◌≤◌}
use mathlib.Core.Path.{◌≡◌, refl, ap, sym, subst, ◌∙◌}
use mathlib.Core.Bool.{Bool, true, false, ◌&&◌}
use mathlib.Core.List.{List, []}
use native.Mathlib.Omega.{arith}
use borrow.Author.Tests.{leb-true, le-leb}
use lib.ListN.{length}
use lib.Dec.{leb}
use lib.Seq.{sets}
use Rattle.storage.specs.declared.Numbers.{Numbers}
use Rattle.drawing.specs.declared.Refusal.{Refusal}
use Rattle.std.specs.Prelude.{Ok, Err}
use Rattle.drawing.specs.declared.ReadError.TheVariants.{Refused, TooShort}
use Rattle.drawing.specs.declared.TableForm.{TableForm}
use Rattle.drawing.specs.paper.Limits.{most_nodes, most_outputs}
use Rattle.drawing.specs.paper.Forms.{form_of, gates_start}
use Rattle.drawing.specs.paper.Fields.{head_verdict, head_k, head_i, head_g}
use Rattle.drawing.specs.paper.Reading.{OutputsFound, Found, found, gates_of, outputs_at, nodes_of, numbers_with}
use Rattle.drawing.specs.Reading.{Reading, reply_of, reading, most_places}
use Rattle.drawing.specs.Reading.{Lines, lines_of, Arrays, enough, no_fanins, with_inputs, put_gates, filled, Reads}
use Rattle.drawing.specs.Filling.{Ended, GatesDone, gates_done, GatesRead, OutputsRead}
use Rattle.drawing.proofs.Filled.{ended_refused, ended_at}

-- Two replies that the promise allows are equal, and so are the arrays.
pub one_reply :
    {a : Arrays} {s : List ℕ} {r r' : Reading} {b b' : Arrays} → Reads a s r b → Reads a s r' b' → (r ≡ r') × (b ≡ b')
one_reply p q = (p.reply ∙ sym q.reply, p.arrays ∙ sym q.arrays)

both : (a : Bool) {b : Bool} → (a && b) ≡ true → (a ≡ true) × (b ≡ true)
both true e = (refl, e)
both false e = absurd (mathlib.Core.Bool.false≢true e)

pub record Long (a : Arrays) : Type 0 where
  pub fanins : most_places ≤ length a.lines.fanins
  pub rows : most_nodes ≤ length a.lines.rows
  pub outputs : most_outputs ≤ length a.outputs

pub long_enough : (a : Arrays) → enough a ≡ true → Long a
long_enough a e =
    let fanins = both (leb most_places (length a.lines.fanins)) e in
    let rows = both (leb most_nodes (length a.lines.rows)) fanins.1 in
    record {
      fanins = leb-true most_places (length a.lines.fanins) fanins.0;
      rows = leb-true most_nodes (length a.lines.rows) rows.0;
      outputs = leb-true most_outputs (length a.outputs) rows.1;
    }

pub enough_long : (a : Arrays) → Long a → enough a ≡ true
enough_long a long =
    simp (
      le-leb most_places (length a.lines.fanins) long.fanins,
      le-leb most_nodes (length a.lines.rows) long.rows,
      le-leb most_outputs (length a.outputs) long.outputs,
    )

pub not_long : (a : Arrays) → (Long a → ⊥) → enough a ≡ false
not_long a short = by (enough a) refl
  where
    by : (b : Bool) → enough a ≡ b → b ≡ false
    by true e = absurd (short (long_enough a e))
    by false e = refl

module _ (a : Arrays) (s : List ℕ) where
  pub reads_short : enough a ≡ false → Reads a s (Err TooShort) a
  unfolding reading filled
  reads_short short = record { reply = rw short; arrays = rw short }

  pub reads_no_head : {r : Refusal} → enough a ≡ true → head_verdict s ≡ Err r → Reads a s (Err (Refused r)) a
  unfolding reading filled found
  reads_no_head long ruled = record { reply = rw (long, ruled); arrays = rw (long, ruled) }

-- The gates as the code reads them, by the head's numbers, are the gates of the table; and so are the outputs.
pub as_headed :
    (s fanins rows : List ℕ) {form : TableForm} {fanins' : List ℕ} {h : Numbers} {ended : Ended} {lines : Lines} → form ≡ form_of s →
    h ≡ numbers_with s 0 → fanins' ≡ no_fanins fanins h.inputs →
    GatesRead form (lines_of fanins' rows) s h.k.leaves h.nodes h.inputs (gates_start form) ended lines →
    GatesRead (form_of s) (with_inputs (lines_of fanins rows) (head_i s)) s (head_k s) (nodes_of s) (head_i s) (gates_start (form_of s)) ended lines
as_headed s fanins rows {form} {fanins'} {h} {ended} {lines} formed head inputs read =
    subst
    (λ (n : Numbers). GatesRead (form_of s) (lines_of (no_fanins fanins n.inputs) rows) s n.k.leaves n.nodes n.inputs
    (gates_start (form_of s)) ended lines)
    head
    (subst
    (λ (f : TableForm). GatesRead f (lines_of (no_fanins fanins h.inputs) rows) s h.k.leaves h.nodes h.inputs (gates_start f) ended lines)
    formed
    (subst (λ (c : List ℕ). GatesRead form (lines_of c rows) s h.k.leaves h.nodes h.inputs (gates_start form) ended lines) inputs read))

pub outputs_as_headed :
    (s before : List ℕ) (at : ℕ) {form : TableForm} {h : Numbers} {ended : Ended} {after : List ℕ} → form ≡ form_of s → h ≡ numbers_with s 0 →
    OutputsRead before 0 (outputs_at form s h.nodes at) ended after → OutputsRead before 0 (outputs_at (form_of s) s (nodes_of s) at) ended after
outputs_as_headed s before at {form} {h} {ended} {after} formed head read =
    subst (λ (n : Numbers). OutputsRead before 0 (outputs_at (form_of s) s n.nodes at) ended after) head
    (subst (λ (f : TableForm). OutputsRead before 0 (outputs_at f s h.nodes at) ended after) formed read)

module _ (a : Arrays) (s : List ℕ) (long : enough a ≡ true) (head : head_verdict s ≡ Ok tt) where
  reads_found :
      {f : Found} → found s ≡ f →
      Reads a s (reply_of s f f.verdict)
      (record { lines = put_gates (with_inputs a.lines (head_i s)) (head_i s) f.gates; outputs = sets a.outputs 0 f.outputs })
  unfolding reading filled
  reads_found {f} e = record { reply = rw (long, e); arrays = rw (long, head, e) }

  due : nodes_of s - head_i s ≡ head_g s
  due = omega arith

  abbrev done : GatesDone
  done = gates_done (form_of s) s (head_k s) (nodes_of s) (with_inputs a.lines (head_i s)) (head_i s) (gates_start (form_of s))

  gates_found :
      done
      ≡ record {
        lines = put_gates (with_inputs a.lines (head_i s)) (head_i s) (gates_of s).gates;
        verdict = (gates_of s).verdict;
        next = (gates_of s).next;
      }
  gates_found = rw due

  module _ {ended : Ended} {lines : Lines}
      (read : GatesRead (form_of s) (with_inputs a.lines (head_i s)) s (head_k s) (nodes_of s) (head_i s) (gates_start (form_of s)) ended lines) where
    stored : lines ≡ put_gates (with_inputs a.lines (head_i s)) (head_i s) (gates_of s).gates
    stored = read.lines ∙ ap (λ (d : GatesDone). d.lines) gates_found

    pub reads_gates_refused : {r : Refusal} → ended ≡ Err r → Reads a s (Err (Refused r)) (record { lines = lines; outputs = a.outputs })
    unfolding found
    reads_gates_refused {r} e =
        let ruled : (gates_of s).verdict ≡ Err r =
        sym (ap (λ (d : GatesDone). d.verdict) gates_found) ∙ ended_refused done.verdict done.next (sym read.reply ∙ e) in
        let is : found s ≡ record { gates = (gates_of s).gates; outputs = []; verdict = Err r } = rw (head, ruled) in
        rw stored (reads_found is)

    module _ {at : ℕ} (sound : ended ≡ Ok at) {last : Ended} {outputs : List ℕ}
        (rest : OutputsRead a.outputs 0 (outputs_at (form_of s) s (nodes_of s) at) last outputs) where
      abbrev tail : OutputsFound
      tail = outputs_at (form_of s) s (nodes_of s) at

      is : found s ≡ record { gates = (gates_of s).gates; outputs = tail.outputs; verdict = tail.verdict }
      unfolding found
      is =
          let ends = ended_at done.verdict done.next (sym read.reply ∙ sound) in
          let ruled : (gates_of s).verdict ≡ Ok tt = sym (ap (λ (d : GatesDone). d.verdict) gates_found) ∙ ends.0 in
          let next : (gates_of s).next ≡ at = sym (ap (λ (d : GatesDone). d.next) gates_found) ∙ ends.1 in
          rw (head, ruled, next)

      pub reads_outputs_refused : {r : Refusal} → last ≡ Err r → Reads a s (Err (Refused r)) (record { lines = lines; outputs = outputs })
      reads_outputs_refused {r} e =
          let ruled : tail.verdict ≡ Err r = ended_refused tail.verdict (0 + length tail.outputs) (sym rest.reply ∙ e) in
          let ends : found s ≡ record { gates = (gates_of s).gates; outputs = tail.outputs; verdict = Err r } = is ∙ rw ruled in
          rw (stored, rest.outputs) (reads_found ends)

      pub reads_whole : {n : ℕ} → last ≡ Ok n → Reads a s (Ok (numbers_with s n)) (record { lines = lines; outputs = outputs })
      reads_whole {n} e =
          let ruled = ended_at tail.verdict (0 + length tail.outputs) (sym rest.reply ∙ e) in
          let ends : found s ≡ record { gates = (gates_of s).gates; outputs = tail.outputs; verdict = Ok tt } = is ∙ rw ruled.0 in
          let count : n ≡ length tail.outputs = omega (arith, ruled.1) in
          rw (stored, rest.outputs, count) (reads_found ends)
