-- `put_head` meets its contract: three numbers behind an open tag, and the length.
use mathlib.Core.List.{◌++◌}
use Rattle.sheet.specs.paper.Encoding.{digits, byte}
use Rattle.sheet.proofs.Writes.{field_room, opening_room, first_room, second_room, third_room, three_written}
use Rattle.sheet.proofs.Writes.{closing_room, closed}
use Rattle.sheet.proofs.put_head.Goals as goal

pub returns : goal.returns
returns c =
    let a = c.args in
    let depth = digits a.form.width a.depth.depth in
    let luts = digits a.form.width a.luts in
    let room = field_room a.sheet.now 0 a.form.head (byte 1 ++ depth ++ luts) c.requires in
    closed a.form.head (byte 1 ++ depth ++ luts)
    (three_written a.sheet.now 0 a.form.head (byte 1) depth luts room
    c.open_field-version_at.ensures c.put_number-depth_at.ensures
    c.put_number-luts_at.ensures c.put_number-next.ensures)
    c.close_field.ensures

pub open_field-version_at-requires : goal.open_field-version_at-requires
open_field-version_at-requires c =
    let a = c.args in
    let depth = digits a.form.width a.depth.depth in
    let luts = digits a.form.width a.luts in
    let room = field_room a.sheet.now 0 a.form.head (byte 1 ++ depth ++ luts) c.requires in
    opening_room a.sheet.now 0 a.form.head (byte 1) depth luts room

pub put_number-depth_at-requires : goal.put_number-depth_at-requires
put_number-depth_at-requires c =
    let a = c.args in
    let depth = digits a.form.width a.depth.depth in
    let luts = digits a.form.width a.luts in
    let room = field_room a.sheet.now 0 a.form.head (byte 1 ++ depth ++ luts) c.requires in
    first_room a.sheet.now 0 a.form.head (byte 1) depth luts room c.open_field-version_at.ensures

pub put_number-luts_at-requires : goal.put_number-luts_at-requires
put_number-luts_at-requires c =
    let a = c.args in
    let depth = digits a.form.width a.depth.depth in
    let luts = digits a.form.width a.luts in
    let room = field_room a.sheet.now 0 a.form.head (byte 1 ++ depth ++ luts) c.requires in
    second_room a.sheet.now 0 a.form.head (byte 1) depth luts room c.open_field-version_at.ensures
    c.put_number-depth_at.ensures

pub put_number-next-requires : goal.put_number-next-requires
put_number-next-requires c =
    let a = c.args in
    let depth = digits a.form.width a.depth.depth in
    let luts = digits a.form.width a.luts in
    let room = field_room a.sheet.now 0 a.form.head (byte 1 ++ depth ++ luts) c.requires in
    third_room a.sheet.now 0 a.form.head (byte 1) depth luts room c.open_field-version_at.ensures
    c.put_number-depth_at.ensures c.put_number-luts_at.ensures

pub close_field-requires : goal.close_field-requires
close_field-requires c =
    let a = c.args in
    let depth = digits a.form.width a.depth.depth in
    let luts = digits a.form.width a.luts in
    let room = field_room a.sheet.now 0 a.form.head (byte 1 ++ depth ++ luts) c.requires in let asked =
    closing_room a.form.head (byte 1 ++ depth ++ luts)
    (three_written a.sheet.now 0 a.form.head (byte 1) depth luts room
    c.open_field-version_at.ensures c.put_number-depth_at.ensures
    c.put_number-luts_at.ensures c.put_number-next.ensures)
    room in record { at_bound = asked.0; next_in_bounds = asked.1 }
