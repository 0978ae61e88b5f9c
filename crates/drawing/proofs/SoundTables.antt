-- What a table that reads whole is: as many gates as its head says, each within the paper's numbers, and 1 to 64 outputs that are nodes.
-- By induction along the reading: each line comes from a field that was ruled sound.
use Prim.Native.Nat.{ℕ, zero, suc, ◌+◌, ◌-◌, ◌≤◌, ◌<◌}
use mathlib.Core.Path.{◌≡◌, refl, ap, sym, subst, ◌∙◌}
use mathlib.Core.Bool.{Bool, true, false, cond}
use mathlib.Core.List.{List, [], ◌∷◌, Memᴰ}
use mathlib.Core.Logic.{⊎_elim}
use native.Mathlib.Omega.{arith}
use borrow.Author.Tests.{leb-false}
use lib.Dec.{eqb, leb}
use lib.ListN.{length}
use Rattle.storage.specs.declared.Numbers.{Numbers}
use Rattle.drawing.specs.declared.Refusal.TheVariants.{Outputs}
use Rattle.drawing.specs.paper.Fields.{Verdict}
use Rattle.std.specs.Prelude.{Ok, Err}
use Rattle.drawing.specs.declared.ReadError.TheVariants.{TooShort}
use Rattle.drawing.specs.declared.TableForm.{TableForm}
use Rattle.drawing.specs.paper.Limits.{most_outputs}
use Rattle.drawing.specs.paper.Bytes.{length_at, value_at, some_from}
use Rattle.drawing.specs.paper.Forms.{form_of, gates_start}
use Rattle.drawing.specs.Forms.{Formed}
use Rattle.drawing.specs.paper.Table.{GateLine}
use Rattle.drawing.specs.paper.Fields.{head_verdict, head_k, head_g, gate_m, gate_ids, gate_at, gate_verdict, output_id, output_verdict}
use Rattle.drawing.specs.paper.Reading.{GatesFound, gates_from, with_gate, OutputsFound, outputs_from, outputs_at, with_output, no_more, Found}
use Rattle.drawing.specs.paper.Reading.{found, gates_of, nodes_of, numbers_of, after_head, after_gates}
use Rattle.drawing.specs.Reading.{Arrays, enough, reply_of, reading}
use Rattle.drawing.specs.Lines.{SoundLine}
use Rattle.drawing.proofs.Verdicts.{not_sound}
use Rattle.drawing.proofs.Ids.{length_ids}
use Rattle.drawing.proofs.SoundFields.{neither, SoundHead, formed_of, head_sound, SoundGate, gate_sound, output_sound}

pub data SoundLines (k nodes : ℕ) : List GateLine → Type 0 where
  none : SoundLines k nodes []
  more : {g : GateLine} {gs : List GateLine} → SoundLine k nodes g → SoundLines k nodes gs → SoundLines k nodes (g ∷ gs)

none_from : (n : ℕ) (vs : List ℕ) → some_from n vs ≡ false → (v : ℕ) → Memᴰ v vs → v < n
unfolding some_from
none_from n [] e v m = absurd (mathlib.Core.List.Memᴰ.not-nil m)
none_from n (u ∷ us) e v m =
    let parts = neither (leb n u) e in
    ⊎_elim (λ (h : v ≡ u). subst (λ (w : ℕ). w < n) (sym h) (leb-false n u parts.0)) (λ (h : Memᴰ v us). none_from n us parts.1 v h)
    (mathlib.Core.List.Memᴰ.cases_cons m)

module _ (form : TableForm) (s : List ℕ) where
  line_sound : (at k nodes : ℕ) → SoundGate form s at k nodes → SoundLine k nodes (gate_at form s at)
  line_sound at k nodes sound =
      let size : length (gate_ids form s at) ≡ gate_m s at = length_ids s (value_at at + 1) form.width (gate_m s at) in
      record {
        some = omega (arith, sound.some);
        few = omega (arith, sound.few);
        nodes_only = none_from nodes (gate_ids form s at) sound.nodes_only;
        rows = rw size sound.rows;
      }

  record GatesWhole (k nodes due : ℕ) (g : GatesFound) : Type 0 where
    pub size : length g.gates ≡ due
    pub lines : SoundLines k nodes g.gates
    pub inside : g.next ≤ length s

  gates_whole : Formed form → (k nodes due at : ℕ) → at ≤ length s → (gates_from form s k nodes due at).verdict ≡ Ok tt →
      GatesWhole k nodes due (gates_from form s k nodes due at)
  unfolding gates_from
  gates_whole formed k nodes zero at inside e = record { size = refl; lines = SoundLines.none; inside = inside }
  gates_whole formed k nodes (suc due) at inside e = by (gate_verdict form s at k nodes) refl e (gates_whole formed k nodes due next)
    where
      next : ℕ
      next = value_at at + length_at s at

      rest : GatesFound
      rest = gates_from form s k nodes due next

      by : (v : Verdict) → gate_verdict form s at k nodes ≡ v → (with_gate v (gate_at form s at) at rest).verdict ≡ Ok tt →
          (next ≤ length s → rest.verdict ≡ Ok tt → GatesWhole k nodes due rest) →
          GatesWhole k nodes (suc due) (with_gate v (gate_at form s at) at rest)
      by (Ok _) ruled e later =
          let sound = gate_sound form s formed at k nodes inside ruled in
          let whole = later sound.whole e in
          record {
            size = ap suc whole.size;
            lines = SoundLines.more (line_sound at k nodes sound) whole.lines;
            inside = whole.inside;
          }
      by (Err r) ruled e later = absurd (not_sound r e)

  record OutputsWhole (nodes room : ℕ) (o : OutputsFound) : Type 0 where
    pub few : length o.outputs ≤ room
    pub nodes_only : (v : ℕ) → Memᴰ v o.outputs → v < nodes

  none_left : (nodes room : ℕ) → OutputsWhole nodes room (no_more (Ok tt))
  none_left nodes room = record { few = omega arith; nodes_only = λ v m. absurd (mathlib.Core.List.Memᴰ.not-nil m) }

  one_more : (nodes room at : ℕ) (rest : OutputsFound) (v : Verdict) → at ≤ length s → output_verdict form s at (suc room) nodes ≡ v →
      (with_output v (output_id form s at) rest).verdict ≡ Ok tt →
      (value_at at + form.width ≤ length s → rest.verdict ≡ Ok tt → OutputsWhole nodes room rest) →
      OutputsWhole nodes (suc room) (with_output v (output_id form s at) rest)
  one_more nodes room at rest (Ok _) inside ruled e later =
      let sound = output_sound form s at (suc room) nodes inside ruled in
      let whole = later sound.whole e in
      record {
        few = omega (arith, whole.few);
        nodes_only = λ v m.
            ⊎_elim (λ (h : v ≡ output_id form s at). subst (λ (w : ℕ). w < nodes) (sym h) sound.node)
            (λ (h : Memᴰ v rest.outputs). whole.nodes_only v h)
            (mathlib.Core.List.Memᴰ.cases_cons m);
      }
  one_more nodes room at rest (Err r) inside ruled e later = absurd (not_sound r e)

  -- with no room left an output field is refused
  no_room : (nodes at : ℕ) → at ≤ length s → output_verdict form s at 0 nodes ≡ Ok tt → ⊥
  no_room nodes at inside e = omega (arith, (output_sound form s at 0 nodes inside e).wanted)

  outputs_whole : (nodes room at : ℕ) → at ≤ length s → (outputs_from form s nodes room at).verdict ≡ Ok tt →
      OutputsWhole nodes room (outputs_from form s nodes room at)
  unfolding outputs_from
  outputs_whole nodes zero at inside e = by (eqb at (length s)) e
    where
      by : (b : Bool) → (cond b (no_more (Ok tt)) (no_more (output_verdict form s at zero nodes))).verdict ≡ Ok tt →
          OutputsWhole nodes zero (cond b (no_more (Ok tt)) (no_more (output_verdict form s at zero nodes)))
      by true e = none_left nodes zero
      by false e = absurd (no_room nodes at inside e)
  outputs_whole nodes (suc room) at inside e = by (eqb at (length s)) e (outputs_whole nodes room (value_at at + form.width))
    where
      rest : OutputsFound
      rest = outputs_from form s nodes room (value_at at + form.width)

      here : OutputsFound
      here = with_output (output_verdict form s at (suc room) nodes) (output_id form s at) rest

      by : (b : Bool) → (cond b (no_more (Ok tt)) here).verdict ≡ Ok tt →
          (value_at at + form.width ≤ length s → rest.verdict ≡ Ok tt → OutputsWhole nodes room rest) →
          OutputsWhole nodes (suc room) (cond b (no_more (Ok tt)) here)
      by true e later = none_left nodes (suc room)
      by false e later = one_more nodes room at rest (output_verdict form s at (suc room) nodes) inside refl e later

  some_output : (nodes at : ℕ) → (outputs_at form s nodes at).verdict ≡ Ok tt →
      (outputs_from form s nodes most_outputs at ≡ outputs_at form s nodes at) × (1 ≤ length (outputs_at form s nodes at).outputs)
  unfolding outputs_from
  some_output nodes at e = by (eqb at (length s)) refl e
    where
      rest : OutputsFound
      rest = outputs_from form s nodes (most_outputs - 1) (value_at at + form.width)

      here : OutputsFound
      here = with_output (output_verdict form s at most_outputs nodes) (output_id form s at) rest

      some : (v : Verdict) → (with_output v (output_id form s at) rest).verdict ≡ Ok tt → 1 ≤ length (with_output v (output_id form s at) rest).outputs
      some (Ok _) e = omega arith
      some (Err r) e = absurd (not_sound r e)

      by : (b : Bool) → eqb at (length s) ≡ b →
          (cond b (no_more (Err (Outputs (length s)))) (cond b (no_more (Ok tt)) here)).verdict ≡ Ok tt →
          (cond b (no_more (Ok tt)) here ≡ cond b (no_more (Err (Outputs (length s)))) (cond b (no_more (Ok tt)) here))
          × (1 ≤ length (cond b (no_more (Err (Outputs (length s)))) (cond b (no_more (Ok tt)) here)).outputs)
      by true same e = absurd (not_sound (Outputs (length s)) e)
      by false same e = (refl, some (output_verdict form s at most_outputs nodes) e)

-- A table that reads whole.
pub record SoundTable (s : List ℕ) (f : Found) : Type 0 where
  pub head : SoundHead s
  pub size : length f.gates ≡ head_g s
  pub lines : SoundLines (head_k s) (nodes_of s) f.gates
  pub some : 1 ≤ length f.outputs
  pub few : length f.outputs ≤ most_outputs
  pub nodes_only : (v : ℕ) → Memᴰ v f.outputs → v < nodes_of s

after_gates_sound : (s : List ℕ) → SoundHead s → (v : Verdict) → (gates_of s).verdict ≡ v → (after_gates s v (gates_of s)).verdict ≡ Ok tt →
    SoundTable s (after_gates s v (gates_of s))
after_gates_sound s head (Ok _) ruled e =
    let form = form_of s in
    let next = (gates_of s).next in
    let gates = gates_whole form s (formed_of s) (head_k s) (nodes_of s) (head_g s) (gates_start form) head.whole ruled in
    let some = some_output form s (nodes_of s) next e in
    let all = outputs_whole form s (nodes_of s) most_outputs next gates.inside (ap (λ (o : OutputsFound). o.verdict) some.0 ∙ e) in
    let ends : OutputsWhole form s (nodes_of s) most_outputs (outputs_at form s (nodes_of s) next) =
    subst (OutputsWhole form s (nodes_of s) most_outputs) some.0 all in
    record { head = head; size = gates.size; lines = gates.lines; some = some.1; few = ends.few; nodes_only = ends.nodes_only }
after_gates_sound s head (Err r) ruled e = absurd (not_sound r e)

after_head_sound : (s : List ℕ) (v : Verdict) → head_verdict s ≡ v → (after_head s v).verdict ≡ Ok tt → SoundTable s (after_head s v)
after_head_sound s (Ok _) ruled e = after_gates_sound s (head_sound s ruled) (gates_of s).verdict refl e
after_head_sound s (Err r) ruled e = absurd (not_sound r e)

pub table_sound : (s : List ℕ) → (found s).verdict ≡ Ok tt → SoundTable s (found s)
unfolding found
table_sound s e = after_head_sound s (head_verdict s) refl e

-- a whole reply comes from a table that reads whole, and says its numbers
pub record ReadWhole (a : Arrays) (s : List ℕ) (n : Numbers) : Type 0 where
  pub long : enough a ≡ true
  pub sound : (found s).verdict ≡ Ok tt
  pub numbers : n ≡ numbers_of s

pub read_whole : (a : Arrays) (s : List ℕ) (n : Numbers) → reading a s ≡ Ok n → ReadWhole a s n
unfolding reading
read_whole a s n e = by (enough a) (found s).verdict refl refl e
  where
    by : (b : Bool) (v : Verdict) → enough a ≡ b → (found s).verdict ≡ v → cond b (reply_of s (found s) v) (Err TooShort) ≡ Ok n → ReadWhole a s n
    by true (Ok _) long sound e = record { long = long; sound = sound; numbers = cc }
    by true (Err r) long sound e = let z : ◌≡◌ {A = ℕ} 0 1 = cc in absurd (omega arith)
    by false (Ok _) long sound e = let z : ◌≡◌ {A = ℕ} 0 1 = cc in absurd (omega arith)
    by false (Err r) long sound e = let z : ◌≡◌ {A = ℕ} 0 1 = cc in absurd (omega arith)
