-- One field at a time, a reading from here on is a reading from there on: the equations that the loops keep.
use Prim.Native.Nat.{ℕ, zero, suc, ◌+◌, ◌*◌, ◌-◌, ◌≤◌, ◌<◌}
use mathlib.Core.Path.{◌≡◌, refl, ap, sym, ◌∙◌}
use mathlib.Core.List.{List, ◌∷◌}
use native.Mathlib.Numerals.{add-one}
use native.Mathlib.Omega.{arith}
use lib.ListN.{length, set, length-set}
use lib.Seq.{sets}
use borrow.Author.Tests.{eq-eqb, ne_eqb}
use Rattle.drawing.specs.declared.TableForm.{TableForm}
use Rattle.drawing.specs.declared.Refusal.{Refusal}
use Rattle.std.specs.Prelude.{Ok, Err}
use Rattle.drawing.specs.paper.Limits.{most_outputs, rows_size}
use Rattle.drawing.specs.paper.Bytes.{length_at, value_at, number_at, ids_at}
use Rattle.drawing.specs.paper.Forms.{gates_start}
use Rattle.drawing.specs.Forms.{Formed}
use Rattle.drawing.specs.paper.Fields.{Verdict, gate_m, gate_ids, gate_at, gate_verdict, output_verdict, output_id}
use Rattle.drawing.specs.paper.Reading.{gates_from, OutputsFound, outputs_from, no_more, with_output}
use Rattle.drawing.specs.Reading.{Lines, lines_of, no_fanins, put_gate, put_gates}
use Rattle.drawing.specs.Filling.{Ended, end_of, GateRead, gates_done, end_of_outputs}
use Rattle.drawing.proofs.Ids.{length_ids, ids_left, step_left}
use Rattle.drawing.proofs.SoundFields.{gate_sound, output_sound}

-- The stores of a gate's line, as the code makes them: the number of its fanins, the fanins behind it, and the table.
pub gate_put :
    (form : TableForm) (s : List ℕ) (at v : ℕ) (fanins rows : List ℕ) {fanins' : List ℕ} {m word : ℕ} → m ≡ gate_m s at →
    fanins' ≡ sets (set fanins (7 * v) m) (7 * v + 1) (ids_at s (value_at at + 1) form.width m) →
    word ≡ number_at s (value_at at + 1 + m * form.width) rows_size →
    lines_of fanins' (set rows v word) ≡ put_gate (lines_of fanins rows) v (gate_at form s at)
gate_put form s at v fanins rows {fanins'} {m} {word} same ids table =
    let size : length (gate_ids form s at) ≡ gate_m s at = length_ids s (value_at at + 1) form.width (gate_m s at) in
    let line : fanins' ≡ sets fanins (7 * v) (length (gate_ids form s at) ∷ gate_ids form s at) =
    ids
    ∙ ap (λ (i : ℕ). sets (set fanins (7 * v) i) (7 * v + 1) (ids_at s (value_at at + 1) form.width i)) same
    ∙ ap (λ (i : ℕ). sets (set fanins (7 * v) i) (7 * v + 1) (gate_ids form s at)) (sym size)
    ∙ ap (λ (i : ℕ). sets (set fanins (7 * v) (length (gate_ids form s at))) i (gate_ids form s at)) (add-one (7 * v)) in
    let row = ap (set rows v) (table ∙ ap (λ (i : ℕ). number_at s (value_at at + 1 + i * form.width) rows_size) same) in
    λ i. lines_of (line i) (row i)

-- one more input
pub no_fanins_more : (fanins : List ℕ) (v : ℕ) → set (no_fanins fanins v) (7 * v) 0 ≡ no_fanins fanins (v + 1)
unfolding no_fanins
no_fanins_more fanins v = rw (add-one v)

pub no_fanins_length : (fanins : List ℕ) (v : ℕ) → length (no_fanins fanins v) ≡ length fanins
unfolding no_fanins
no_fanins_length fanins zero = refl
no_fanins_length fanins (suc v) = length-set (no_fanins fanins v) (7 * v) 0 ∙ no_fanins_length fanins v

-- How a run ended tells the ruling.
pub ended_refused : (v : Verdict) (next : ℕ) {x : Refusal} → end_of v next ≡ Err x → v ≡ Err x
ended_refused (Ok _) next e = let z : ◌≡◌ {A = ℕ} 0 1 = cc in absurd (omega arith)
ended_refused (Err r) next e = cc

pub ended_at : (v : Verdict) (next : ℕ) {n : ℕ} → end_of v next ≡ Ok n → (v ≡ Ok tt) × (next ≡ n)
ended_at (Ok _) next e = (refl, cc)
ended_at (Err r) next e = let z : ◌≡◌ {A = ℕ} 0 1 = cc in absurd (omega arith)

pub not_ended : {x : Refusal} {n : ℕ} → ◌≡◌ {A = Ended} (Err x) (Ok n) → ⊥
not_ended e = let z : ◌≡◌ {A = ℕ} 0 1 = cc in omega arith

pub same_end : {m n : ℕ} → ◌≡◌ {A = Ended} (Ok m) (Ok n) → m ≡ n
same_end e = cc

module _ (form : TableForm) (s : List ℕ) (k nodes : ℕ) (a : Lines) (v at : ℕ) where
  pub gates_none : nodes ≤ v → gates_done form s k nodes a v at ≡ record { lines = a; verdict = Ok tt; next = at }
  unfolding gates_from put_gates
  gates_none h =
      let none : nodes - v ≡ 0 = omega arith in
      rw none

  gates_refused : {r : Refusal} → v < nodes → gate_verdict form s at k nodes ≡ Err r →
      gates_done form s k nodes a v at ≡ record { lines = a; verdict = Err r; next = at }
  unfolding gates_from put_gates
  gates_refused h e =
      let due : nodes - v ≡ suc (nodes - (v + 1)) = omega arith in
      rw (due, e)

  gates_sound : v < nodes → gate_verdict form s at k nodes ≡ Ok tt →
      gates_done form s k nodes a v at ≡ gates_done form s k nodes (put_gate a v (gate_at form s at)) (v + 1) (value_at at + length_at s at)
  unfolding gates_from put_gates
  gates_sound h e =
      let due : nodes - v ≡ suc (nodes - (v + 1)) = omega arith in
      let next : v + 1 ≡ suc v = add-one v in
      rw (due, e, next)

  module _ {r : Ended} {a' : Lines} (read : GateRead form a s at k nodes v r a') (more : v < nodes) where
    pub gates_stop : {x : Refusal} → r ≡ Err x → gates_done form s k nodes a v at ≡ record { lines = a'; verdict = Err x; next = at }
    gates_stop {x} e =
        let ruled = ended_refused (gate_verdict form s at k nodes) (value_at at + length_at s at) (sym read.reply ∙ e) in
        let kept : a' ≡ a = read.lines ∙ rw ruled in
        rw kept (gates_refused more ruled)

    pub gates_turn : {next : ℕ} → Formed form → at ≤ length s → r ≡ Ok next →
        (gates_done form s k nodes a v at ≡ gates_done form s k nodes a' (v + 1) next) × (next ≤ length s)
    gates_turn {next} formed inside e =
        let ruled = ended_at (gate_verdict form s at k nodes) (value_at at + length_at s at) (sym read.reply ∙ e) in
        let stored : a' ≡ put_gate a v (gate_at form s at) = read.lines ∙ rw ruled.0 in
        let fits = gate_sound form s formed at k nodes inside ruled.0 in
        (rw (stored, ← ruled.1) (gates_sound more ruled.0), omega (arith, ruled.1))

-- What the gates' loop keeps: that reading from here gives what reading from the start gives.
pub record GatesLeft (form : TableForm) (s : List ℕ) (k inputs nodes : ℕ) (a₀ a : Lines) (v at : ℕ) : Type 0 where
  pub inside : at ≤ length s
  pub same : gates_done form s k nodes a₀ inputs (gates_start form) ≡ gates_done form s k nodes a v at

module _ (form : TableForm) (s : List ℕ) (nodes : ℕ) where
  outputs_end : (room at : ℕ) → at ≡ length s → outputs_from form s nodes room at ≡ no_more (Ok tt)
  unfolding outputs_from
  outputs_end zero at e = rw (eq-eqb at (length s) e)
  outputs_end (suc room) at e = rw (eq-eqb at (length s) e)

  outputs_refused : (room at : ℕ) {r : Refusal} → at < length s → output_verdict form s at room nodes ≡ Err r →
      outputs_from form s nodes room at ≡ no_more (Err r)
  unfolding outputs_from
  outputs_refused zero at h e = rw (ne_eqb at (length s) (omega arith), e)
  outputs_refused (suc room) at h e = rw (ne_eqb at (length s) (omega arith), e)

  outputs_sound : (room at : ℕ) → at < length s → output_verdict form s at (suc room) nodes ≡ Ok tt →
      outputs_from form s nodes (suc room) at ≡ with_output (Ok tt) (output_id form s at) (outputs_from form s nodes room (value_at at + form.width))
  unfolding outputs_from
  outputs_sound room at h e = rw (ne_eqb at (length s) (omega arith), e)

-- What the outputs' loop keeps.
pub record OutputsLeft (form : TableForm) (s : List ℕ) (nodes start : ℕ) (outputs₀ outputs : List ℕ) (at i : ℕ) : Type 0 where
  pub few : i ≤ most_outputs
  pub inside : at ≤ length s
  pub reply : end_of_outputs (outputs_from form s nodes most_outputs start) 0 ≡ end_of_outputs (outputs_from form s nodes (most_outputs - i) at) i
  pub stored : sets outputs₀ 0 (outputs_from form s nodes most_outputs start).outputs ≡
      sets outputs i (outputs_from form s nodes (most_outputs - i) at).outputs

module _ (form : TableForm) (s : List ℕ) (nodes start : ℕ) (outputs₀ outputs : List ℕ) (at i : ℕ)
    (left : OutputsLeft form s nodes start outputs₀ outputs at i) where
  pub outputs_stop : {r : Refusal} → at < length s → output_verdict form s at (most_outputs - i) nodes ≡ Err r →
      (Err r ≡ end_of_outputs (outputs_from form s nodes most_outputs start) 0) ×
      (outputs ≡ sets outputs₀ 0 (outputs_from form s nodes most_outputs start).outputs)
  outputs_stop {r} h e =
      let ends = outputs_refused form s nodes (most_outputs - i) at h e in (
        sym (left.reply ∙ ap (λ (f : OutputsFound). end_of_outputs f i) ends),
        sym
            (left.stored ∙ ap (λ (f : OutputsFound). sets outputs i f.outputs) ends),
      )

  pub outputs_all : at ≡ length s →
      (Ok i ≡ end_of_outputs (outputs_from form s nodes most_outputs start) 0) ×
      (outputs ≡ sets outputs₀ 0 (outputs_from form s nodes most_outputs start).outputs)
  outputs_all e =
      let ends = outputs_end form s nodes (most_outputs - i) at e in
      let none : i + 0 ≡ i = omega arith in (
        sym (left.reply ∙ ap (λ (f : OutputsFound). end_of_outputs f i) ends ∙ ap Ok none),
        sym
            (left.stored ∙ ap (λ (f : OutputsFound). sets outputs i f.outputs) ends),
      )

  pub outputs_turn : at < length s → output_verdict form s at (most_outputs - i) nodes ≡ Ok tt →
      OutputsLeft form s nodes start outputs₀ (set outputs i (output_id form s at)) (value_at at + form.width) (i + 1)
  outputs_turn h e =
      let sound = output_sound form s at (most_outputs - i) nodes left.inside e in
      let room : most_outputs - i ≡ suc (most_outputs - (i + 1)) = omega arith in
      let here : outputs_from form s nodes (most_outputs - i) at ≡ with_output (Ok tt) (output_id form s at)
      (outputs_from form s nodes (most_outputs - (i + 1)) (value_at at + form.width)) =
      rw room (outputs_sound form s nodes (most_outputs - (i + 1)) at h (rw room at e)) in
      record {
        few = omega arith;
        inside = sound.whole;
        reply =
            left.reply
            ∙ ap (λ (f : OutputsFound). end_of_outputs f i) here
            ∙ ap (end_of (outputs_from form s nodes (most_outputs - (i + 1)) (value_at at + form.width)).verdict) (omega arith);
        stored =
            left.stored
            ∙ ap (λ (f : OutputsFound). sets outputs i f.outputs) here
            ∙ ap (λ (j : ℕ). sets (set outputs i (output_id form s at)) j
            (outputs_from form s nodes (most_outputs - (i + 1)) (value_at at + form.width)).outputs)
            (sym (add-one i));
      }

-- What the loop that stores ids keeps.
abbrev pub IdsLeft : (s : List ℕ) (at width count : ℕ) (ids₀ : List ℕ) (to : ℕ) (ids : List ℕ) (i : ℕ) → Type 0
IdsLeft s at width count ids₀ to ids i = sets ids₀ to (ids_at s at width count) ≡ sets ids (to + i) (ids_left s at width count i)

module _ (s : List ℕ) (at width count : ℕ) (ids₀ : List ℕ) (to : ℕ) (ids : List ℕ) (i : ℕ) (kept : IdsLeft s at width count ids₀ to ids i) where
  pub ids_turn : {id : ℕ} → i < count → id ≡ number_at s (at + i * width) width → IdsLeft s at width count ids₀ to (set ids (to + i) id) (i + 1)
  ids_turn {id} some read =
      kept
      ∙ ap (sets ids (to + i)) (step_left s at width count i some)
      ∙ ap (λ (v : ℕ). sets (set ids (to + i) v) (suc (to + i)) (ids_left s at width count (i + 1))) (sym read)
      ∙ ap (λ (p : ℕ). sets (set ids (to + i) id) p (ids_left s at width count (i + 1))) (omega arith)
