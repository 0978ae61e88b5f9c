-- What the inspector's program prints, for every gate table, sheet and text buffer.
use Rattle.std.specs.Prelude.{ℕ, ◌≡◌, List, Ok, Err}
use Rattle.wording.specs.paper.Rooms.{line_room}
use Rattle.wording.specs.paper.Text.{refused_line, accepted_line}
use Rattle.wording.specs.paper.Filled.{Filled}
use Rattle.inspecting.specs.paper.Inspecting.{Inspection, number, place, Inspects}

-- "prints `accepted depth 2` or `refused 27 at 6`"
abbrev pub line_of : Inspection → List ℕ
line_of (Ok depth) = accepted_line depth.depth
line_of (Err e) = refused_line (number (Err e)) (place (Err e))

-- the line of the inspector's reply to these bytes
pub record Report (s t line : List ℕ) : Type 0 where
  pub reply : Inspection
  pub inspects : Inspects s t reply
  pub is : line ≡ line_of reply

abbrev pub Reports : (s t before : List ℕ) (r : ℕ) (after : List ℕ) → Type 0
Reports s t = Filled line_room (Report s t)
