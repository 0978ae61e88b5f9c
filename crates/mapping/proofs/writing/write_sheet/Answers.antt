-- `write_sheet` meets its contract: head, lines and LUTs, one after the other.
use mathlib.Core.Path.{◌∙◌}
use Rattle.mapping.proofs.SheetsWritten.{head_room_lem, lines_asked, luts_asked, sheet_done}
use Rattle.mapping.proofs.writing.write_sheet.Goals as goal

pub put_head-lines_at-requires : goal.put_head-lines_at-requires
put_head-lines_at-requires c =
    head_room_lem c.requires

pub write_lines-luts_at-requires : goal.write_lines-luts_at-requires
write_lines-luts_at-requires c =
    lines_asked c.requires c.put_head-lines_at.ensures

pub write_luts-requires : goal.write_luts-requires
write_luts-requires c =
    luts_asked c.requires c.put_head-lines_at.ensures c.write_lines-luts_at.ensures

pub shape_of-roles : goal.shape_of-roles
shape_of-roles c =
    c.write_lines-luts_at.auto.roles

pub shape_of-links : goal.shape_of-links
shape_of-links c =
    c.write_lines-luts_at.auto.links

pub shape_of-sheet : goal.shape_of-sheet
shape_of-sheet c =
    c.write_luts.auto.sheet
    ∙ c.write_lines-luts_at.auto.sheet
    ∙ c.put_head-lines_at.auto.sheet

pub returns : goal.returns
returns c =
    sheet_done c.requires c.put_head-lines_at.ensures c.write_lines-luts_at.ensures
    c.write_luts.ensures
