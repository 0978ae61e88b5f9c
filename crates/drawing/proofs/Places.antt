-- The place that a table's refusal names is small, however many bytes there are: the fields before it are sound, and there are few of them.
-- By induction along the reading: the head, at most so many bytes a gate and an output.
use Prim.Native.Nat.{ℕ, zero, suc, ◌+◌, ◌*◌, ◌≤◌}
use native.Mathlib.Nat.{suc-mul}
use native.Mathlib.Omega.{arith}
use mathlib.Core.Path.{◌≡◌, refl, ap, sym, ◌∙◌}
use mathlib.Core.Bool.{Bool, true, false, cond}
use mathlib.Core.List.{List, [], ◌∷◌, ◌++◌}
use borrow.Author.Tests.{ltb-false, eqb-true}
use lib.ListN.{length}
use lib.Dec.{ltb, eqb}
use Rattle.drawing.specs.declared.TableForm.{TableForm}
use Rattle.drawing.specs.declared.Refusal.{Refusal}
use Rattle.drawing.specs.declared.Refusal.TheVariants.{Outputs}
use Rattle.drawing.specs.paper.Fields.{Verdict}
use Rattle.std.specs.Prelude.{Ok, Err}
use Rattle.drawing.specs.paper.Limits.{most_outputs, frame_size}
use Rattle.drawing.specs.Refusals.{place}
use Rattle.drawing.specs.paper.Rules.{Rule, ◌⇒◌, first}
use Rattle.drawing.specs.paper.Bytes.{length_at, value_at}
use Rattle.drawing.specs.paper.Forms.{narrow_table, form_of, gates_start, least_gate, most_gate}
use Rattle.drawing.specs.paper.Fields.{frame_rules, head_rules, head_verdict, head_g, gate_rules, gate_verdict, gate_at, output_rules, output_verdict, output_id}
use Rattle.drawing.specs.paper.Reading.{GatesFound, with_gate, gates_from, OutputsFound, no_more, with_output, outputs_from, outputs_at}
use Rattle.drawing.specs.paper.Reading.{nodes_of, gates_of, after_gates, after_head, found}
use Rattle.drawing.proofs.Verdicts.{none_holds}
use Rattle.drawing.proofs.SoundFields.{neither, head_sound}

-- the bytes of the longest gate field, of an output field, and before the end of the longest table
abbrev gate_bytes : TableForm → ℕ
gate_bytes form = frame_size + most_gate form

abbrev output_bytes : TableForm → ℕ
output_bytes form = frame_size + form.width

abbrev farthest_of : TableForm → ℕ
farthest_of form = gates_start form + form.most * gate_bytes form + most_outputs * output_bytes form

abbrev pub farthest : ℕ
farthest = farthest_of narrow_table

-- the place that a verdict names, and another where it is sound
abbrev place_or : ℕ → Verdict → ℕ
place_or other (Ok _) = other
place_or other (Err r) = place r

-- what is so of each reply of a list of rules, and of no rule's, is so of the first
abbrev pub EachReply : {R : Type 0} → (R → Type 0) → List (Rule R) → Type 0
EachReply So [] = Unit {0}
EachReply So ((holds ⇒ r) ∷ rules) = So r × EachReply So rules

pub first_so : {R : Type 0} (So : R → Type 0) (done : R) (rules : List (Rule R)) → So done → EachReply So rules → So (first done rules)
first_so So done [] none each = none
first_so So done ((true ⇒ r) ∷ rules) none each = each.0
first_so So done ((false ⇒ r) ∷ rules) none each = first_so So done rules none each.1

-- a verdict that names this place, or none
abbrev At : ℕ → Verdict → Type 0
At at v = place_or at v ≡ at

head_place : (s : List ℕ) → At 0 (head_verdict s)
unfolding head_verdict
head_place s =
    let form = form_of s in
    first_so (At 0) (Ok tt) (frame_rules s 0 form.head false ++ head_rules form s) refl
    (refl, (refl, (refl, (refl, (refl, (refl, (refl, tt)))))))

module _ (form : TableForm) (s : List ℕ) where
  gate_place : (at k nodes : ℕ) → At at (gate_verdict form s at k nodes)
  unfolding gate_verdict
  gate_place at k nodes =
      first_so (At at) (Ok tt) (frame_rules s at form.gate false ++ gate_rules form s at k nodes) refl
      (refl, (refl, (refl, (refl, (refl, (refl, (refl, tt)))))))

  output_place : (at room nodes : ℕ) → At at (output_verdict form s at room nodes)
  unfolding output_verdict
  output_place at room nodes =
      first_so (At at) (Ok tt) (frame_rules s at form.output (eqb room 0) ++ output_rules form s at nodes) refl
      (refl, (refl, (refl, (refl, (refl, (refl, (refl, tt)))))))

  gate_short : (at k nodes : ℕ) → gate_verdict form s at k nodes ≡ Ok tt → length_at s at ≤ most_gate form
  unfolding gate_verdict
  gate_short at k nodes e =
      let long = length_at s at in
      let rules = none_holds (frame_rules s at form.gate false ++ gate_rules form s at k nodes) tt e in
      let least = neither (ltb long (least_gate form)) rules.1.1.1.1.0 in
      ltb-false (most_gate form) long (neither (ltb (most_gate form) long) least.1).0

  -- where gates end, or the one that is refused starts
  gates_place : (k nodes due at : ℕ) →
      place_or (gates_from form s k nodes due at).next (gates_from form s k nodes due at).verdict ≤ at + due * gate_bytes form
  unfolding gates_from
  gates_place k nodes zero at = omega arith
  gates_place k nodes (suc due) at = by (gate_verdict form s at k nodes) refl (gates_place k nodes due (value_at at + length_at s at))
    where
      rest : GatesFound
      rest = gates_from form s k nodes due (value_at at + length_at s at)

      by : (v : Verdict) → gate_verdict form s at k nodes ≡ v →
          place_or rest.next rest.verdict ≤ value_at at + length_at s at + due * gate_bytes form →
          place_or (with_gate v (gate_at form s at) at rest).next (with_gate v (gate_at form s at) at rest).verdict ≤ at + suc due * gate_bytes form
      by (Ok _) ruled later = omega (arith, later, gate_short at k nodes ruled, suc-mul due (gate_bytes form))
      by (Err r) ruled later = omega (arith, ap (place_or at) (sym ruled) ∙ gate_place at k nodes)

  outputs_place : (nodes room at : ℕ) → place_or 0 (outputs_from form s nodes room at).verdict ≤ at + room * output_bytes form
  unfolding outputs_from
  outputs_place nodes zero at = by (eqb at (length s)) (output_verdict form s at zero nodes) (output_place at zero nodes)
    where
      by : (ended : Bool) (v : Verdict) → place_or at v ≡ at → place_or 0 (cond ended (no_more (Ok tt)) (no_more v)).verdict ≤ at + 0 * output_bytes form
      by true v named = omega arith
      by false (Ok _) named = omega arith
      by false (Err r) named = omega (arith, named)
  outputs_place nodes (suc room) at =
      by (eqb at (length s)) (output_verdict form s at (suc room) nodes) (output_place at (suc room) nodes)
      (outputs_place nodes room (value_at at + form.width))
    where
      rest : OutputsFound
      rest = outputs_from form s nodes room (value_at at + form.width)

      by : (ended : Bool) (v : Verdict) → place_or at v ≡ at →
          place_or 0 rest.verdict ≤ value_at at + form.width + room * output_bytes form →
          place_or 0 (cond ended (no_more (Ok tt)) (with_output v (output_id form s at) rest)).verdict ≤ at + suc room * output_bytes form
      by true v named later = omega arith
      by false (Ok _) named later = omega (arith, later, suc-mul room (output_bytes form))
      by false (Err r) named later = omega (arith, named)

  -- "number of bytes, or that field's start"
  ends_place : (nodes at : ℕ) → place_or 0 (outputs_at form s nodes at).verdict ≤ at + most_outputs * output_bytes form
  ends_place nodes at = by (eqb at (length s)) refl (outputs_place nodes most_outputs at)
    where
      last : OutputsFound
      last = outputs_from form s nodes most_outputs at

      by : (ended : Bool) → eqb at (length s) ≡ ended → place_or 0 last.verdict ≤ at + most_outputs * output_bytes form →
          place_or 0 (cond ended (no_more (Err (Outputs (length s)))) last).verdict ≤ at + most_outputs * output_bytes form
      by true same later = omega (arith, eqb-true at (length s) same)
      by false same later = omega (arith, later)

found_place : (s : List ℕ) → place_or 0 (found s).verdict ≤ farthest
unfolding found
found_place s = by_head (head_verdict s) refl
  where
    by_gates : (v : Verdict) → (gates_of s).verdict ≡ v → head_g s ≤ (form_of s).most →
        place_or (gates_of s).next v ≤ gates_start (form_of s) + head_g s * gate_bytes (form_of s) →
        place_or 0 (after_gates s v (gates_of s)).verdict ≤ farthest
    by_gates (Ok _) ruled few later = omega (arith, few, later, ends_place (form_of s) s (nodes_of s) (gates_of s).next)
    by_gates (Err r) ruled few later = omega (arith, few, later)

    by_head : (v : Verdict) → head_verdict s ≡ v → place_or 0 (after_head s v).verdict ≤ farthest
    by_head (Ok _) ruled =
        let sound = head_sound s ruled in
        by_gates (gates_of s).verdict refl (omega (arith, sound.nodes_most))
        (gates_place (form_of s) s _ (nodes_of s) (head_g s) (gates_start (form_of s)))
    by_head (Err r) ruled = omega (arith, ap (place_or 0) (sym ruled) ∙ head_place s)

pub refused_place : (s : List ℕ) {r : Refusal} → (found s).verdict ≡ Err r → place r ≤ farthest
refused_place s {r} e = omega (arith, found_place s, ap (place_or 0) e)
