-- `begin_line` meets its contract: label, leaves and the number of paths behind an open tag.
use Rattle.sheet.specs.paper.Encoding.{digits, byte, leaves_bytes}
use Rattle.sheet.proofs.Writes.{opening_room, first_room, second_room, third_room, three_written}
use Rattle.sheet.proofs.begin_line.Goals as goal

pub returns : goal.returns
returns c =
    let a = c.args in
    let label = digits a.form.width a.label.depth in
    let leaves = leaves_bytes a.form.width a.leaves.now in
    three_written a.sheet.now a.at a.form.line label leaves (byte a.paths) c.requires
    c.open_field-label_at.ensures c.put_number-leaves_at.ensures
    c.put_leaves-paths_at.ensures c.put_number.ensures

pub open_field-label_at-requires : goal.open_field-label_at-requires
open_field-label_at-requires c =
    let a = c.args in
    let label = digits a.form.width a.label.depth in
    let leaves = leaves_bytes a.form.width a.leaves.now in
    opening_room a.sheet.now a.at a.form.line label leaves (byte a.paths) c.requires

pub put_number-leaves_at-requires : goal.put_number-leaves_at-requires
put_number-leaves_at-requires c =
    let a = c.args in
    let label = digits a.form.width a.label.depth in
    let leaves = leaves_bytes a.form.width a.leaves.now in
    first_room a.sheet.now a.at a.form.line label leaves (byte a.paths) c.requires
    c.open_field-label_at.ensures

pub put_leaves-paths_at-requires : goal.put_leaves-paths_at-requires
put_leaves-paths_at-requires c =
    let a = c.args in
    let label = digits a.form.width a.label.depth in
    let leaves = leaves_bytes a.form.width a.leaves.now in
    second_room a.sheet.now a.at a.form.line label leaves (byte a.paths) c.requires
    c.open_field-label_at.ensures c.put_number-leaves_at.ensures

pub put_number-requires : goal.put_number-requires
put_number-requires c =
    let a = c.args in
    let label = digits a.form.width a.label.depth in
    let leaves = leaves_bytes a.form.width a.leaves.now in
    third_room a.sheet.now a.at a.form.line label leaves (byte a.paths) c.requires
    c.open_field-label_at.ensures c.put_number-leaves_at.ensures
    c.put_leaves-paths_at.ensures
