-- Pass one on its way through the fields: what is due, the ruling that will follow, and what a turn leaves.
use Rattle.std.specs.Prelude.{ℕ, ◌+◌, ◌≤◌, ◌<◌, ◌≡◌, cond, List, length, ltb, Option, None, Some, Result, Ok, Err}
use Rattle.sheet.specs.declared.Fault.{Fault}
use Rattle.sheet.specs.declared.Fault.TheVariants.{Extra}
use Rattle.sheet.specs.paper.Shape.{Ruling, Due, end_at, lines_from, luts_from}
use Rattle.shaping.specs.declared.runs.Left.{Left}

-- a ruling, and another where it is sound
abbrev pub then : Ruling → Ruling → Ruling
then (Ok tt) r = r
then (Err f) r = Err f

-- "bytes after the last LUT": "Extra ends pass one"
abbrev pub extra_ruling : List ℕ → (at : ℕ) → Ruling
extra_ruling s at = cond (ltb at (length s)) (Err (Extra at)) (Ok tt)

module _ (due : Due) (s : List ℕ) where
  -- the ruling on what is left from `at` on: lines, LUTs, and that nothing follows
  unfoldable pub left_ruling : (lines luts least at : ℕ) → Ruling
  left_ruling lines luts least at =
      let before = lines_from due s lines at in
      let after = luts_from due s luts least before.next in
      then before.ruling (then after.ruling (extra_ruling s after.next))

  abbrev pub due_ruling : (at : ℕ) → Left → Ruling
  due_ruling at left = left_ruling left.lines left.luts left.least at

  -- the ruling to come, by what a turn leaves: its fault, or the ruling on what is due from `at` on
  abbrev pub turn_ruling : (at : ℕ) → Result Left Fault → Ruling
  turn_ruling at (Ok left) = due_ruling at left
  turn_ruling at (Err f) = Err f

  -- and where nothing is due, the sheet is sound
  abbrev pub field_ruling : (at : ℕ) → Result (Option Left) Fault → Ruling
  field_ruling at (Ok (Some left)) = due_ruling at left
  field_ruling at (Ok None) = Ok tt
  field_ruling at (Err f) = Err f

-- how many fields there still are
abbrev pub turns_left : Left → ℕ
turns_left left = left.lines + left.luts

-- A turn at `at` leaves the ruling to come as it was; and where it finds no fault, its field lies within the bytes.
pub record GoesOn (due : Due) (s : List ℕ) (at : ℕ) (ruling : Ruling) (r : Result Left Fault) : Type 0 where
  pub same : ruling ≡ turn_ruling due s (end_at s at) r
  pub inside : {left : Left} → r ≡ Ok left → end_at s at ≤ length s

-- The turn of a line or a LUT, behind which fewer are due.
pub record Turned (due : Due) (s : List ℕ) (at : ℕ) (left : Left) (r : Result Left Fault) : Type 0 where
  pub goes_on : GoesOn due s at (due_ruling due s at left) r
  pub less : {next : Left} → r ≡ Ok next → turns_left next < turns_left left

-- The turn of whatever is due at `at`, which may be nothing.
pub record FieldJudged (due : Due) (s : List ℕ) (at : ℕ) (left : Left) (r : Result (Option Left) Fault) : Type 0 where
  pub same : due_ruling due s at left ≡ field_ruling due s (end_at s at) r
  pub inside : {next : Left} → r ≡ Ok (Some next) → end_at s at ≤ length s
  pub less : {next : Left} → r ≡ Ok (Some next) → turns_left next < turns_left left
