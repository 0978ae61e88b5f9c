-- For the caller that writes a sheet part by part: a line is its front, its paths and its length; a sheet is its head, its lines and its
-- LUTs; and what then stands in the buffer. A loop over parts keeps one `Written`, and `written_more` is its turn.
use Prim.Native.Nat.{ℕ, ◌+◌, ◌≤◌}
use native.Mathlib.Omega.{arith}
use mathlib.Core.Path.{◌≡◌, ap, sym, ◌∙◌}
use mathlib.Core.List.{List, ◌∷◌, ◌++◌, flat_map, append_assoc}
use lib.ListN.{length, drop}
use lib.Seq.{sets-eq}
use Rattle.sheet.specs.declared.Form.{Form}
use Rattle.sheet.specs.paper.Sheet.{Sheet, line_of}
use Rattle.sheet.specs.paper.Encoding.{path_bytes, line_front, head_field, line_field, lut_field, encode}
use Rattle.sheet.specs.Writing.{Room, Written, Closed, line_begun}
use Rattle.sheet.proofs.Numbers.{flat_append}
use Rattle.sheet.proofs.Writes.{room_first, room_then, closing_room, closed, field_room}

module _ {A : Type 0} (f : A → List ℕ) {before : List ℕ} {at : ℕ} (front : List ℕ) where
  -- where the whole run has room, the next part has
  pub next_room : (done : List A) (x : A) (later : List A) {middle : List ℕ} {next : ℕ} →
      Room before at (front ++ flat_map f (done ++ (x ∷ later))) → Written before at (front ++ flat_map f done) middle next → Room middle next (f x)
  unfolding flat_map
  next_room done x later {middle} {next} room w =
      let split : front ++ flat_map f (done ++ (x ∷ later)) ≡ front ++ flat_map f done ++ (f x ++ flat_map f later) =
      ap (λ (l : List ℕ). front ++ l) (flat_append f done (x ∷ later)) ∙ sym (append_assoc front (flat_map f done) (f x ++ flat_map f later)) in
      room_first middle next (f x) (flat_map f later) (room_then w (f x ++ flat_map f later) (rw split at room))

module _ (form : Form) (label : ℕ) (leaves : List ℕ) (paths : List (List ℕ)) where
  -- a line whose paths are all written, once its length is stored
  pub line_written : {before : List ℕ} {at : ℕ} {middle after : List ℕ} {next r : ℕ} →
      Written before at (line_begun form label leaves (length paths) ++ flat_map (path_bytes form.width) paths) middle next →
      Closed middle at next after r → Written before at (line_field form (line_of label leaves paths)) after r
  line_written w c = closed form.line (line_front form label leaves (length paths) ++ flat_map (path_bytes form.width) paths) w c

  pub line_room_lem : (before : List ℕ) (at : ℕ) → Room before at (line_field form (line_of label leaves paths)) →
      Room before at (line_begun form label leaves (length paths) ++ flat_map (path_bytes form.width) paths)
  line_room_lem before at room =
      field_room before at form.line (line_front form label leaves (length paths) ++ flat_map (path_bytes form.width) paths) room

  -- what `end_line` asks
  pub line_ends : {before : List ℕ} {at : ℕ} {middle : List ℕ} {next : ℕ} →
      Room before at (line_begun form label leaves (length paths) ++ flat_map (path_bytes form.width) paths) →
      Written before at (line_begun form label leaves (length paths) ++ flat_map (path_bytes form.width) paths) middle next →
      (at + 3 ≤ next) × (next ≤ length middle)
  line_ends room w =
      closing_room form.line (line_front form label leaves (length paths) ++ flat_map (path_bytes form.width) paths) w room

module _ (form : Form) (sheet : Sheet) {before after : List ℕ} {r : ℕ} where
  pub sheet_written :
      Written before 0 (head_field form sheet.depth (length sheet.luts) ++ flat_map (line_field form) sheet.lines ++ flat_map (lut_field form) sheet.luts) after r →
      Written before 0 (encode form sheet) after r
  unfolding encode
  sheet_written w = w

-- what stands in a buffer that was written from its front on: the bytes, and from their length on the old buffer
pub front_written : {before bytes after : List ℕ} {r : ℕ} → Written before 0 bytes after r → length bytes ≤ length before →
    (after ≡ bytes ++ drop (length bytes) before) × (r ≡ length bytes)
front_written {before} {bytes} {after} {r} w room =
    let none : 0 + length bytes ≡ length bytes = omega arith in
    (w.stored ∙ sets-eq bytes before 0 (omega arith) ∙ ap (λ (n : ℕ). bytes ++ drop n before) none, w.reached ∙ none)
