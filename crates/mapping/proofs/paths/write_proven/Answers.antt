-- `write_proven` meets its contract: a line's front, its paths and its length.
use Prim.Native.Nat.{◌+◌}
use native.Mathlib.Numerals.{add-one}
use mathlib.Core.Path.{sym, ◌∙◌}
use Rattle.flow.specs.Paths.{paths_in}
use Rattle.mapping.proofs.PathsWritten.{front_room, paths_room, line_ending, line_done}
use Rattle.mapping.proofs.paths.write_proven.Goals as goal

pub begin_line-paths_at-requires : goal.begin_line-paths_at-requires
begin_line-paths_at-requires c =
    let a = c.args in
    let p = c.requires in
    let paths = paths_in a.numbers.inputs a.numbers.nodes a.links.now in
    let count = p.count ∙ sym (add-one a.numbers.k.leaves) in
    front_room a.form a.label.depth a.leaves.now paths a.sheet.now a.at p.room (a.numbers.k.leaves + 1) count

pub write_paths-end-requires : goal.write_paths-end-requires
write_paths-end-requires c =
    let a = c.args in
    let p = c.requires in
    let paths = paths_in a.numbers.inputs a.numbers.nodes a.links.now in
    let count = p.count ∙ sym (add-one a.numbers.k.leaves) in
    record {
      read = p.read;
      count = sym count;
      room =
          paths_room a.form a.label.depth a.leaves.now paths a.sheet.now a.at p.room
          (a.numbers.k.leaves + 1) count c.begin_line-paths_at.ensures;
    }

pub end_line-requires : goal.end_line-requires
end_line-requires c =
    let a = c.args in
    let p = c.requires in
    let paths = paths_in a.numbers.inputs a.numbers.nodes a.links.now in
    let count = p.count ∙ sym (add-one a.numbers.k.leaves) in let asked =
    line_ending a.form a.label.depth a.leaves.now paths a.sheet.now a.at p.room
    (a.numbers.k.leaves + 1) count c.begin_line-paths_at.ensures
    c.write_paths-end.ensures in record { at_bound = asked.0; next_in_bounds = asked.1 }

pub returns : goal.returns
returns c =
    let a = c.args in
    let p = c.requires in
    let paths = paths_in a.numbers.inputs a.numbers.nodes a.links.now in
    let count = p.count ∙ sym (add-one a.numbers.k.leaves) in
    line_done a.form a.label.depth a.leaves.now paths a.sheet.now a.at p.room
    (a.numbers.k.leaves + 1) count c.begin_line-paths_at.ensures
    c.write_paths-end.ensures c.end_line.ensures
