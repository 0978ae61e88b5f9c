-- What the mapper's program writes, for every gate table, sheet buffer and text buffer.
use Rattle.std.specs.Prelude.{ℕ, ◌≤◌, ◌<◌, ◌≡◌, List, [], Result, Ok, Err, length}
use Rattle.wording.specs.paper.Text.{refused_line}
use Rattle.wording.specs.paper.Puts.{Wrote}
use Rattle.wording.specs.paper.Rooms.{line_room}
use Rattle.mapping.specs.declared.MapError.{MapError}
use Rattle.mapping.specs.paper.Maps.{number, place, Maps}

-- What is to be written, and where to: of the sheet buffer the whole sheet, to standard output; or of the text buffer the line of refusal, so many bytes,
-- to standard error.
abbrev pub shown_of : Result ℕ MapError → (line : ℕ) → Result ℕ ℕ
shown_of (Ok size) line = Ok size
shown_of (Err e) line = Err line

-- what goes to standard error: "the one line of refusal", and nothing where the table is mapped
abbrev pub refusal_of : Result ℕ MapError → List ℕ
refusal_of (Ok size) = []
refusal_of (Err e) = refused_line (number (Err e)) (place (Err e))

-- A text buffer shorter than the longest line leaves both buffers as they were, with nothing to write. Else the sheet buffer is as the mapper leaves
-- it, a refusal's line stands at the front of the text buffer, whose rest is as before, and the answer has the length of the one or the other.
pub data Draws (s before text : List ℕ) (r : Result ℕ ℕ) (after text' : List ℕ) : Type 0 where
  short : length text < line_room → r ≡ Err 0 → after ≡ before → text' ≡ text → Draws s before text r after text'
  drawn : (reply : Result ℕ MapError) (line : ℕ) → line_room ≤ length text → Maps s before reply after → r ≡ shown_of reply line →
      Wrote text (refusal_of reply) line text' → Draws s before text r after text'
