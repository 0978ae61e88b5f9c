-- `put_output` meets its contract.
use Rattle.wording.proofs.Listed.{output_part}
use Rattle.wording.proofs.lines.put_output.Goals as goal

pub put_output_line-requires : goal.put_output_line-requires
put_output_line-requires c =
    let a = c.args in
    rw (output_part a.labels.now a.node.id c.label_of-depth.ensures) at c.requires.id_in_bounds_2

pub returns : goal.returns
returns c =
    let a = c.args in
    rw (output_part a.labels.now a.node.id c.label_of-depth.ensures)
    c.put_output_line.ensures
