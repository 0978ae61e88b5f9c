-- The fields of a gate table, and what each is refused for.
use Rattle.std.specs.Prelude.{ℕ, ◌+◌, ◌*◌, ◌-◌, ◌^◌, Bool, false, not, ◌||◌, List, [], ◌∷◌, ◌++◌, length, get_or, ltb, leb, eqb, ⊤, Result, Ok, Err}
use Rattle.drawing.specs.declared.Refusal.{Refusal}
use Rattle.drawing.specs.declared.Refusal.TheVariants.{Torn, Tag, Length, Range, Rows, Outputs}
use Rattle.drawing.specs.declared.TableForm.{TableForm}
use Rattle.drawing.specs.paper.Limits.{least_k, most_k, least_inputs, most_inputs, version, frame_size, rows_size}
use Rattle.drawing.specs.paper.Forms.{form_of, gate_size, least_gate, most_gate}
use Rattle.drawing.specs.paper.Rules.{Rule, ◌⇒◌, first}
use Rattle.drawing.specs.paper.Bytes.{tag_at, length_at, value_at, number_at, ids_at, some_from}
use Rattle.drawing.specs.paper.Table.{GateLine}

-- the ruling on a field: sound, or refused
abbrev pub Verdict : Type 0
Verdict = Result ⊤ Refusal

-- "Within a field: fewer than 3 bytes, tag, 65th output, value past the end, length, range, rows." The first four are of every field's frame.
abbrev pub frame_rules : (s : List ℕ) (at due : ℕ) (surplus : Bool) → List (Rule Verdict)
frame_rules s at due surplus =
    (ltb (length s - at) frame_size ⇒ Err (Torn at))
    ∷ (not (eqb (tag_at s at) due) ⇒ Err (Tag at))
    ∷ (surplus ⇒ Err (Outputs at))
    ∷ (ltb (length s - value_at at) (length_at s at) ⇒ Err (Torn at))
    ∷ []

-- "length, range, rows": these are of a field's value, and what breaks each is said where the field is
abbrev pub value_rules : (at : ℕ) (length-wrong out_of_range row-set : Bool) → List (Rule Verdict)
value_rules at length-wrong out_of_range row-set =
    (length-wrong ⇒ Err (Length at))
    ∷ (out_of_range ⇒ Err (Range at))
    ∷ (row-set ⇒ Err (Rows at))
    ∷ []

-- "Tag 1, head, 4 bytes: version 1, K, I, G.": a byte each, but G is as wide as an id
abbrev pub head_k : List ℕ → ℕ
head_k s = get_or s (frame_size + 1) 0

abbrev pub head_i : List ℕ → ℕ
head_i s = get_or s (frame_size + 2) 0

abbrev pub gates_in : TableForm → List ℕ → ℕ
gates_in form s = number_at s (frame_size + 3) form.width

abbrev pub head_g : List ℕ → ℕ
head_g s = gates_in (form_of s) s

-- "K is 2 to 6. Inputs I: 1 to 64. .. n = I + G at most 192."
abbrev pub head_out_of_range : TableForm → List ℕ → Bool
head_out_of_range form s =
    not (eqb (get_or s frame_size 0) version)
    || (ltb (head_k s) least_k
    || (ltb most_k (head_k s)
    || (ltb (head_i s) least_inputs
    || (ltb most_inputs (head_i s)
    || (ltb (head_i s + gates_in form s) form.least || ltb form.most (head_i s + gates_in form s))))))

abbrev pub head_rules : TableForm → List ℕ → List (Rule Verdict)
head_rules form s = value_rules 0 (not (eqb (length_at s 0) form.size)) (head_out_of_range form s) false

abbrev pub head_ruling : TableForm → List ℕ → Verdict
head_ruling form s = first (Ok tt) (frame_rules s 0 form.head false ++ head_rules form s)

unfoldable pub head_verdict : List ℕ → Verdict
head_verdict s = head_ruling (form_of s) s

-- "Tag 2, gate, 9 + m bytes: m, then m fanin ids, then 8 bytes of function table, high byte first."
abbrev pub gate_m : List ℕ → ℕ → ℕ
gate_m s at = get_or s (value_at at) 0

module _ (form : TableForm) (s : List ℕ) where
  abbrev pub gate_ids : ℕ → List ℕ
  gate_ids at = ids_at s (value_at at + 1) form.width (gate_m s at)

  abbrev pub gate_table : ℕ → ℕ
  gate_table at = number_at s (value_at at + 1 + gate_m s at * form.width) rows_size

  abbrev pub gate_at : ℕ → GateLine
  gate_at at = record { fanins = gate_ids at; table = gate_table at }

  -- "gate below 10, above 15 or not 9 + m"
  abbrev pub gate_length_wrong : ℕ → Bool
  gate_length_wrong at =
      ltb (length_at s at) (least_gate form)
      || (ltb (most_gate form) (length_at s at) || not (eqb (length_at s at) (gate_size form (gate_m s at))))

  -- "m above K, or an id of n or more"
  abbrev pub gate_out_of_range : (at k nodes : ℕ) → Bool
  gate_out_of_range at k nodes = ltb k (gate_m s at) || some_from nodes (gate_ids at)

  -- "a function bit at row 2^m or above is set": the table, as a number, is 2^(2^m) or more
  abbrev pub gate_row_set : ℕ → Bool
  gate_row_set at = leb (2 ^ (2 ^ gate_m s at)) (gate_table at)

  abbrev pub gate_rules : (at k nodes : ℕ) → List (Rule Verdict)
  gate_rules at k nodes = value_rules at (gate_length_wrong at) (gate_out_of_range at k nodes) (gate_row_set at)

  unfoldable pub gate_verdict : (at k nodes : ℕ) → Verdict
  gate_verdict at k nodes = first (Ok tt) (frame_rules s at form.gate false ++ gate_rules at k nodes)

  -- "Tag 3, output, 1 byte: a node id. It may be an input, and may repeat." `room` is how many more may follow.
  abbrev pub output_id : ℕ → ℕ
  output_id at = number_at s (value_at at) form.width

  abbrev pub output_rules : (at nodes : ℕ) → List (Rule Verdict)
  output_rules at nodes = value_rules at (not (eqb (length_at s at) form.width)) (leb nodes (output_id at)) false

  unfoldable pub output_verdict : (at room nodes : ℕ) → Verdict
  output_verdict at room nodes = first (Ok tt) (frame_rules s at form.output (eqb room 0) ++ output_rules at nodes)
