-- What is told of a field, and its rules behind those of its frame.
use Rattle.std.specs.Prelude.{Option, None, Some, ℕ, ◌+◌, ◌-◌, Bool, not, cond, List, [], ◌∷◌, length, ltb, eqb, Err}
use Rattle.drawing.specs.paper.Limits.{frame_size}
use Rattle.drawing.specs.paper.Rules.{Rule, ◌⇒◌}
use Rattle.drawing.specs.paper.Bytes.{tag_at, length_at, number_at}
use Rattle.sheet.specs.declared.Fault.TheVariants.{Length, Range}
use Rattle.sheet.specs.paper.Limits.{version_size}
use Rattle.sheet.specs.paper.Shape.{Ruling, Due, head_range, depth_at, count_at}
use Rattle.shaping.specs.declared.fields.Front.{Front}

-- "a one-byte tag, a two-byte length": the field at a place, where there are bytes for both
abbrev pub field_at : List ℕ → (at : ℕ) → Option Front
field_at s at = cond (ltb (length s - at) frame_size) None (Some (record { tag = tag_at s at; size = length_at s at }))

-- "length, range": the rules on a value
abbrev pub value_rules : (at : ℕ) (length-wrong out_of_range : Bool) → List (Rule Ruling)
value_rules at length-wrong out_of_range = (length-wrong ⇒ Err (Length at)) ∷ (out_of_range ⇒ Err (Range at)) ∷ []

-- "head not 3"
abbrev pub head_length_wrong : Due → List ℕ → Bool
head_length_wrong due s = not (eqb (length_at s 0) (version_size + due.form.width + due.form.width))

abbrev pub head_out_of_range : Due → List ℕ → Bool
head_out_of_range due s = head_range due (number_at s frame_size version_size) (depth_at due s) (count_at due s)
