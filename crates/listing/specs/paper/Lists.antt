-- What the lister prints, for every gate table and every text buffer.
use Rattle.std.specs.Prelude.{ℕ, ◌≡◌, List}
use Rattle.drawing.specs.paper.Limits.{most_nodes, most_outputs}
use Rattle.drawing.specs.paper.Fields.{head_k}
use Rattle.drawing.specs.paper.Table.{tables_of}
use Rattle.drawing.specs.paper.Reading.{table_of, roots_of}
use Rattle.taking.specs.paper.Taken.{drawn, IsTaken}
use Rattle.taking.specs.paper.Says.{Taking, Says, number, place}
use Rattle.sheet.specs.paper.Sheet.{Sheet}
use Rattle.wording.specs.paper.Text.{listing_of, refused_line}
use Rattle.wording.specs.paper.Filled.{Filled}
use Rattle.wording.specs.paper.Rooms.{room}
use Rattle.keeping.specs.paper.Mappers.{SettledSheet}
use Rattle.keeping.specs.paper.Printed.{mapping_of, DepthsListed}

-- room for the longest listing
abbrev pub text_room : ℕ
text_room = room most_nodes most_outputs

-- a sheet that is the mapper's but for its evidence, which is not printed
abbrev pub Settles : List ℕ → Sheet → Type 0
Settles s sheet = SettledSheet (drawn s) (tables_of (table_of s)) (head_k s) (roots_of s) sheet

-- What is printed of a table: "A refusal prints one line, as `refused 7 at 2`"; a table taken is listed, with the labels, cuts and LUTs that the
-- mapper settles.
pub data Listing (s : List ℕ) : List ℕ → Type 0 where
  -- 1 to 7: the first fault, or a loop
  refused : {r : Taking} → Says s r → (number r ≡ 0 → ⊥) → Listing s (refused_line (number r) (place r))
  listed : (sheet : Sheet) → IsTaken s → Settles s sheet → DepthsListed (table_of s) sheet → Listing s (listing_of (mapping_of (table_of s) sheet))

abbrev pub Lists : (s before : List ℕ) (r : ℕ) (after : List ℕ) → Type 0
Lists s = Filled text_room (Listing s)
