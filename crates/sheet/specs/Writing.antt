-- What writing into a lent buffer promises.
use Rattle.std.specs.Prelude.{ℕ, ◌+◌, ◌-◌, ◌≤◌, ◌≡◌, List, [], ◌∷◌, ◌++◌, length}
use Rattle.std.proofs.lemmas.List.Edits.{sets}
use Rattle.drawing.specs.paper.Limits.{length_size}
use Rattle.drawing.specs.paper.Bytes.{value_at}
use Rattle.sheet.specs.declared.Form.{Form}
use Rattle.sheet.specs.paper.Encoding.{digits, line_front}

-- there is room for the bytes from `at` on
abbrev pub Room : (buffer : List ℕ) (at : ℕ) (bytes : List ℕ) → Type 0
Room buffer at bytes = at + length bytes ≤ length buffer

-- From `at` on stand the bytes, everything else is as before, and `next` is the place after them.
pub record Written (before : List ℕ) (at : ℕ) (bytes after : List ℕ) (next : ℕ) : Type 0 where
  pub stored : after ≡ sets before at bytes
  pub reached : next ≡ at + length bytes

-- A field whose length is not known yet: its two bytes are 0 until the value is whole.
abbrev pub opened : (tag : ℕ) → List ℕ
opened tag = tag ∷ 0 ∷ 0 ∷ []

-- a gate's line up to its paths
abbrev pub line_begun : Form → (label : ℕ) (leaves : List ℕ) (q : ℕ) → List ℕ
line_begun form label leaves q = opened form.line ++ line_front form label leaves q

-- The length of the field at `at`, whose value ends at `next`, goes into its two bytes.
pub record Closed (before : List ℕ) (at next : ℕ) (after : List ℕ) (r : ℕ) : Type 0 where
  pub stored : after ≡ sets before (at + 1) (digits length_size (next - value_at at))
  pub reached : r ≡ next
