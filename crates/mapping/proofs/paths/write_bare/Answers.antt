-- `write_bare` meets its contract: a line's front, and its length.
use mathlib.Core.Path.{refl}
use mathlib.Core.List.{[]}
use Rattle.mapping.proofs.PathsWritten.{front_room, line_ending, line_done, none_written}
use Rattle.mapping.proofs.paths.write_bare.Goals as goal

pub begin_line-end-requires : goal.begin_line-end-requires
begin_line-end-requires c =
    let a = c.args in front_room a.form a.label.depth a.leaves.now [] a.sheet.now a.at c.requires 0 refl

pub end_line-requires : goal.end_line-requires
end_line-requires c =
    let a = c.args in let asked =
    line_ending a.form a.label.depth a.leaves.now [] a.sheet.now a.at c.requires 0 refl
    c.begin_line-end.ensures (none_written a.form _ _) in record { at_bound = asked.0; next_in_bounds = asked.1 }

pub returns : goal.returns
returns c =
    let a = c.args in
    line_done a.form a.label.depth a.leaves.now [] a.sheet.now a.at c.requires 0 refl
    c.begin_line-end.ensures (none_written a.form _ _) c.end_line.ensures
