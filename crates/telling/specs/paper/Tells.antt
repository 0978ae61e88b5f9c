-- What the program that reads equations writes, for every text, K, table buffer and buffer for lines.
use Rattle.std.specs.Prelude.{ℕ, ◌≤◌, ◌<◌, ◌≡◌, List, length, take, Result, Ok}
use Rattle.wording.specs.paper.Text.{refused_line}
use Rattle.wording.specs.paper.Puts.{Wrote}
use Rattle.listing.specs.paper.Lists.{text_room, Lists}
use Rattle.compiling.specs.declared.CompileError.{CompileError}
use Rattle.compiling.specs.paper.Compiles.{number, place, Compiles}
use Rattle.telling.specs.declared.Lengths.{Lengths}

-- A buffer for lines that is shorter than the longest listing leaves both buffers as they were, with nothing to write. Else the table buffer is as
-- `compile` leaves it: with no table where it refuses, and the line of its refusal, as `refused 42 at 7`, stands at the front of the other; or with the
-- table at its front, and there stands the listing of the table as the lister prints it. The answer has both lengths.
pub data Tells (s : List ℕ) (k : ℕ) (table lines : List ℕ) (r : Lengths) (table' lines' : List ℕ) : Type 0 where
  short : length lines < text_room → r.table ≡ 0 → r.lines ≡ 0 → table' ≡ table → lines' ≡ lines → Tells s k table lines r table' lines'
  refused : (reply : Result ℕ CompileError) → text_room ≤ length lines → Compiles s k table reply table' → (number reply ≡ 0 → ⊥) → r.table ≡ 0 → table' ≡ table →
      Wrote lines (refused_line (number reply) (place reply)) r.lines lines' → Tells s k table lines r table' lines'
  listed : text_room ≤ length lines → Compiles s k table (Ok r.table) table' → Lists (take r.table table') lines r.lines lines' →
      Tells s k table lines r table' lines'
