-- `Luts::put` meets its contract.
use Rattle.wording.proofs.Listed.{lut_part}
use Rattle.wording.proofs.lines.Luts.put.Goals as goal

pub put_lut_line-requires : goal.put_lut_line-requires
put_lut_line-requires c =
    let a = c.args in
    rw
    (lut_part a.self.now.labels.now a.self.now.cuts.now a.self.now.tables.now a.root.id c.label_of-depth.ensures
    c.size_at.ensures)
    at c.requires.line_in_bounds

pub returns : goal.returns
returns c =
    let a = c.args in
    rw
    (lut_part a.self.now.labels.now a.self.now.cuts.now a.self.now.tables.now a.root.id c.label_of-depth.ensures
    c.size_at.ensures)
    c.put_lut_line.ensures
