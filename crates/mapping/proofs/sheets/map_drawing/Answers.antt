-- `map_drawing` meets its contract: what stage one leaves is written, and is the mapper's sheet.
use native.Mathlib.Omega.{arith}
use mathlib.Core.Path.{◌∙◌}
use Rattle.settling.proofs.Standing.{words_long}
use Rattle.mapping.proofs.DrawingsMapped.{sheet_asked, drawing_mapped}
use Rattle.mapping.proofs.sheets.map_drawing.Goals as goal

pub map_gates-made-requires : goal.map_gates-made-requires
map_gates-made-requires c =
    c.requires.arrays

pub offset_bounds-words-tables_at : goal.offset_bounds-words-tables_at
offset_bounds-words-tables_at c =
    omega (arith, c.requires.arrays.drawing.small)

pub slice_bounds-write_sheet-count : goal.slice_bounds-write_sheet-count
slice_bounds-write_sheet-count c =
    omega (arith, words_long c.requires.arrays c.map_gates-made.ensures)

pub slice_bounds-write_sheet-start : goal.slice_bounds-write_sheet-start
slice_bounds-write_sheet-start c =
    omega (arith, words_long c.requires.arrays c.map_gates-made.ensures)

pub write_sheet-requires : goal.write_sheet-requires
write_sheet-requires c =
    sheet_asked c.requires c.map_gates-made.ensures c.narrow_form-form.ensures
    c.map_gates-made.auto.roles c.map_gates-made.auto.links

pub shape_of-labels : goal.shape_of-labels
shape_of-labels c =
    c.map_gates-made.auto.labels

pub shape_of-cuts : goal.shape_of-cuts
shape_of-cuts c =
    c.map_gates-made.auto.cuts

pub shape_of-roles : goal.shape_of-roles
shape_of-roles c =
    c.write_sheet.auto.roles ∙ c.map_gates-made.auto.roles

pub shape_of-links : goal.shape_of-links
shape_of-links c =
    c.write_sheet.auto.links
    ∙ c.map_gates-made.auto.links

pub shape_of-luts : goal.shape_of-luts
shape_of-luts c =
    c.map_gates-made.auto.luts

pub shape_of-words : goal.shape_of-words
shape_of-words c =
    c.map_gates-made.auto.words

pub shape_of-sheet : goal.shape_of-sheet
shape_of-sheet c =
    c.write_sheet.auto.sheet

pub returns : goal.returns
returns c =
    drawing_mapped c.requires c.map_gates-made.ensures c.narrow_form-form.ensures
    c.write_sheet.ensures
