-- A drawing mapped into the sheet.
use Rattle.std.specs.Prelude.{ℕ, ◌-◌, ◌≤◌, ◌<◌, ◌≡◌, List, length, take, Result, Ok, Err}
use Rattle.storage.specs.declared.Numbers.{Numbers}
use Rattle.storage.specs.Drawings.{net_in, tables_in}
use Rattle.sheet.specs.paper.Limits.{sheet_room}
use Rattle.sheet.specs.paper.Sheet.{Sheet}
use Rattle.sheet.specs.paper.Encoding.{narrow, encode}
use Rattle.sheet.specs.Writing.{Written}
use Rattle.sheet.specs.Longest.{sheet_most}
use Rattle.keeping.specs.paper.Mappers.{MappersSheet}
use Rattle.packing.specs.Tables.{Made, MapAsked}
use Rattle.taking.specs.declared.TakeError.{TakeError}
use Rattle.taking.specs.declared.TakeError.TheVariants as taking
use Rattle.mapping.specs.declared.MapError.{MapError}
use Rattle.mapping.specs.declared.MapError.TheVariants.{Refused, LoopAt, Room}

-- A drawing with at least one input can be mapped into the buffer.
pub record DrawingAsked (inputs nodes k : ℕ) (fanins rows order outputs : List ℕ) (number : ℕ) (m : Made)
    (roles links sheet : List ℕ) : Type 0 where
  pub arrays : MapAsked inputs nodes k fanins rows order outputs number m roles links
  pub some : 1 ≤ inputs
  pub room : sheet_most narrow.width k nodes (nodes - inputs) ≤ length sheet

-- The mapper's sheet of the drawing stands at the buffer's front.
pub record DrawingMapped (inputs nodes k : ℕ) (fanins rows outputs : List ℕ) (number : ℕ) (before : List ℕ) (r : ℕ)
    (after : List ℕ) : Type 0 where
  pub sheet : Sheet
  pub mappers : MappersSheet (net_in inputs nodes fanins) (tables_in rows) k (take number outputs) sheet
  pub fits : length (encode narrow sheet) ≤ length before
  pub written : Written before 0 (encode narrow sheet) after r

-- a table that is not taken is not mapped; arrays that are too short are never lent
abbrev pub error_of : TakeError → MapError
error_of (taking.Refused x) = Refused x
error_of (taking.LoopAt g) = LoopAt g
error_of taking.TooShort = Room

-- "8 Room: sheet buffer shorter than 49,152", or the mapper's sheet
pub data TakenMapped (n : Numbers) (fanins rows outputs before : List ℕ) (r : Result ℕ MapError) (after : List ℕ) : Type 0 where
  room : length before < sheet_room → r ≡ Err Room → after ≡ before → TakenMapped n fanins rows outputs before r after
  mapped : {size : ℕ} → sheet_room ≤ length before → r ≡ Ok size →
      DrawingMapped n.inputs n.nodes n.k.leaves fanins rows outputs n.roots before size after →
      TakenMapped n fanins rows outputs before r after
