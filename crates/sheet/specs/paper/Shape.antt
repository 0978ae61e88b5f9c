-- The shape of a sheet: its bytes read field by field, by rules 21 to 24 and 31.
use Rattle.std.specs.Prelude.{ℕ, zero, suc, ◌+◌, ◌*◌, ◌-◌, Bool, true, false, not, cond, ◌||◌, ◌&&◌, List, [], ◌∷◌, length, ltb, leb, eqb, Result, Ok, Err}
use Rattle.theory.specs.paper.Evidence.{joined}
use Rattle.drawing.specs.paper.Limits.{frame_size, version, rows_size}
use Rattle.drawing.specs.paper.Rules.{Rule, ◌⇒◌, first}
use Rattle.drawing.specs.paper.Bytes.{tag_at, length_at, value_at, number_at, ids_at, some_from}
use Rattle.sheet.specs.declared.Form.{Form}
use Rattle.sheet.specs.declared.Fault.{Fault}
use Rattle.sheet.specs.declared.Fault.TheVariants.{Torn, Tag, Length, Range, Extra}
use Rattle.sheet.specs.paper.Limits.{version_size, depth_place, count_size}
use Rattle.sheet.specs.paper.Sheet.{Line, Lut, Sheet, line_of, lut_of}

-- the paper's number of a fault, and its place
abbrev pub said : Fault → ℕ × ℕ
said (Torn at) = (21, at)
said (Tag at) = (22, at)
said (Length at) = (23, at)
said (Range at) = (24, at)
said (Extra at) = (31, at)

-- the ruling on a field of a sheet, or on all of it: it is sound, or has a fault
abbrev pub Ruling : Type 0
Ruling = Result (Unit {0}) Fault

-- What a sheet is read for: its form, the greatest depth and label, and the table's K, I and n.
pub record Due : Type 0 where
  pub form : Form
  pub most : ℕ
  pub k : ℕ
  pub inputs : ℕ
  pub nodes : ℕ

-- "Within a sheet field: fewer than 3 bytes, tag, value past the end, length, range"
abbrev pub field_rules : (s : List ℕ) (at due : ℕ) (length-wrong out_of_range : Bool) → List (Rule Ruling)
field_rules s at due length-wrong out_of_range =
    (ltb (length s - at) frame_size ⇒ Err (Torn at))
    ∷ (not (eqb (tag_at s at) due) ⇒ Err (Tag at))
    ∷ (ltb (length s - value_at at) (length_at s at) ⇒ Err (Torn at))
    ∷ (length-wrong ⇒ Err (Length at))
    ∷ (out_of_range ⇒ Err (Range at))
    ∷ []

-- where the value of the field at `at` ends
abbrev pub end_at : List ℕ → ℕ → ℕ
end_at s at = value_at at + length_at s at

-- "q paths, each a length byte and its ids": the paths, and whether they end exactly where the value does
abbrev pub path_end : List ℕ → (at width : ℕ) → ℕ
path_end s at width = at + width + number_at s at width * width

unfoldable pub paths_at : List ℕ → (at width q : ℕ) → List (List ℕ)
paths_at s at width zero = []
paths_at s at width (suc q) = ids_at s (at + width) width (number_at s at width) ∷ paths_at s (path_end s at width) width q

unfoldable pub paths_use : List ℕ → (at width q end : ℕ) → Bool
paths_use s at width zero end = eqb at end
paths_use s at width (suc q) end = leb (at + width) end && paths_use s (path_end s at width) width q end

-- "leaves not rising"
unfoldable pub rising : List ℕ → Bool
rising [] = true
rising (u ∷ []) = true
rising (u ∷ v ∷ vs) = ltb u v && rising (v ∷ vs)

-- "empty path"
unfoldable pub some_empty : List (List ℕ) → Bool
some_empty [] = false
some_empty (path ∷ paths) = eqb (length path) 0 || some_empty paths

module _ (due : Due) where
  -- "version not 1; depth above 191; LUT count above G"
  abbrev pub head_range : (written depth luts : ℕ) → Bool
  head_range written depth luts = not (eqb written version) || (ltb due.most depth || ltb (due.nodes - due.inputs) luts)

  -- "c not 1 to K; leaves not rising; .. id of n or more"
  abbrev pub leaves_range : List ℕ → Bool
  leaves_range leaves =
      ltb (length leaves) 1 || (ltb due.k (length leaves) || (not (rising leaves) || some_from due.nodes leaves))

  -- "label not 1 to 191; .. q not 0 or K + 1; empty path; id of n or more"
  abbrev pub line_range : Line → Bool
  line_range line =
      ltb line.label 1
      || (ltb due.most line.label
      || (leaves_range line.leaves
      || (not (eqb (length line.paths) 0 || eqb (length line.paths) (due.k + 1))
      || (some_empty line.paths || some_from due.nodes (joined line.paths)))))

  -- "root an input or not above the root before": below `least`, which is I for the first LUT and later one above the root before
  abbrev pub lut_range : (least : ℕ) → Lut → Bool
  lut_range least lut = ltb lut.root least || (leb due.nodes lut.root || leaves_range lut.leaves)

  module _ (s : List ℕ) where
    -- the head's value: version, depth, LUT count
    abbrev pub depth_at : ℕ
    depth_at = number_at s depth_place due.form.width

    abbrev pub count_at : ℕ
    count_at = number_at s (depth_place + due.form.width) due.form.width

    unfoldable pub head_ruling : Ruling
    head_ruling =
        first (Ok tt)
        (field_rules s 0 due.form.head (not (eqb (length_at s 0) (version_size + due.form.width + due.form.width)))
        (head_range (number_at s frame_size version_size) depth_at count_at))

    -- c and the leaves from a place on
    abbrev pub leaves_count : ℕ → ℕ
    leaves_count at = number_at s at count_size

    abbrev pub leaves_at : ℕ → List ℕ
    leaves_at at = ids_at s (at + count_size) due.form.width (leaves_count at)

    abbrev pub leaves_end : ℕ → ℕ
    leaves_end at = at + count_size + leaves_count at * due.form.width

    -- a gate's line: where c stands, where q stands, and the line
    abbrev pub line_cut : ℕ → ℕ
    line_cut at = value_at at + due.form.width

    abbrev pub line_paths : ℕ → ℕ
    line_paths at = leaves_end (line_cut at)

    abbrev pub line_at : ℕ → Line
    line_at at =
        line_of (number_at s (value_at at) due.form.width) (leaves_at (line_cut at))
        (paths_at s (line_paths at + count_size) due.form.width (number_at s (line_paths at) count_size))

    -- "the value's own counts do not use it up exactly"
    abbrev pub line_length_wrong : ℕ → Bool
    line_length_wrong at =
        ltb (end_at s at) (line_cut at + count_size)
        || (ltb (end_at s at) (line_paths at + count_size)
        || not (paths_use s (line_paths at + count_size) due.form.width (number_at s (line_paths at) count_size) (end_at s at)))

    unfoldable pub line_ruling : ℕ → Ruling
    line_ruling at = first (Ok tt) (field_rules s at due.form.line (line_length_wrong at) (line_range (line_at at)))

    -- a LUT's value: root, c and leaves, then 8 bytes of table
    abbrev pub lut_cut : ℕ → ℕ
    lut_cut at = value_at at + due.form.width

    abbrev pub lut_at : ℕ → Lut
    lut_at at = lut_of (number_at s (value_at at) due.form.width) (leaves_at (lut_cut at)) (number_at s (leaves_end (lut_cut at)) rows_size)

    abbrev pub lut_length_wrong : ℕ → Bool
    lut_length_wrong at = ltb (end_at s at) (lut_cut at + count_size) || not (eqb (leaves_end (lut_cut at) + rows_size) (end_at s at))

    unfoldable pub lut_ruling : (least at : ℕ) → Ruling
    lut_ruling least at = first (Ok tt) (field_rules s at due.form.lut (lut_length_wrong at) (lut_range least (lut_at at)))

-- Fields of one kind read whole from some place on, the ruling on them, and where they end.
pub record Fields (A : Type 0) : Type 0 where
  pub read : List A
  pub ruling : Ruling
  pub next : ℕ

abbrev pub and_field : {A : Type 0} → Ruling → A → (at : ℕ) → Fields A → Fields A
and_field (Ok tt) a at rest = record { read = a ∷ rest.read; ruling = rest.ruling; next = rest.next }
and_field (Err f) a at rest = record { read = []; ruling = Err f; next = at }

module _ (due : Due) (s : List ℕ) where
  -- "for each gate in id order": as many lines as gates are left
  unfoldable pub lines_from : (gates at : ℕ) → Fields Line
  lines_from zero at = record { read = []; ruling = Ok tt; next = at }
  lines_from (suc gates) at = and_field (line_ruling due s at) (line_at due s at) at (lines_from gates (end_at s at))

  -- "for each LUT, roots rising": as many as the head counts
  unfoldable pub luts_from : (luts least at : ℕ) → Fields Lut
  luts_from zero least at = record { read = []; ruling = Ok tt; next = at }
  luts_from (suc luts) least at =
      and_field (lut_ruling due s least at) (lut_at due s at) at (luts_from luts ((lut_at due s at).root + 1) (end_at s at))

-- What is found in a sheet's bytes: the sheet, where the ruling is sound.
pub record Reading : Type 0 where
  pub sheet : Sheet
  pub ruling : Ruling

module _ (due : Due) (s : List ℕ) where
  -- "bytes after the last LUT", "of the first surplus byte"
  abbrev pub after_luts : Ruling → Fields Line → Fields Lut → Reading
  after_luts (Ok tt) lines luts =
      record {
        sheet = record { depth = depth_at due s; lines = lines.read; luts = luts.read };
        ruling = cond (ltb luts.next (length s)) (Err (Extra luts.next)) (Ok tt);
      }
  after_luts (Err f) lines luts =
      record { sheet = record { depth = depth_at due s; lines = lines.read; luts = luts.read }; ruling = Err f }

  abbrev pub after_lines : Ruling → Fields Line → Reading
  after_lines (Ok tt) lines =
      let luts = luts_from due s (count_at due s) due.inputs lines.next in
      after_luts luts.ruling lines luts
  after_lines (Err f) lines = record { sheet = record { depth = depth_at due s; lines = lines.read; luts = [] }; ruling = Err f }

  abbrev pub after_head : Ruling → Reading
  after_head (Ok tt) =
      let lines = lines_from due s (due.nodes - due.inputs) (end_at s 0) in
      after_lines lines.ruling lines
  after_head (Err f) = record { sheet = record { depth = 0; lines = []; luts = [] }; ruling = Err f }

  unfoldable pub reading : Reading
  reading = after_head (head_ruling due s)
