-- `write_lines` meets its contract: the lines of the gates passed are written.
use Rattle.mapping.proofs.LinesWritten.{lines_none, line_asked, lines_turn, lines_all}
use Rattle.mapping.proofs.lines.write_lines.Goals as goal

pub loop-v-init : goal.loop-v-init
loop-v-init c =
    lines_none c.requires

pub write_line-to-requires : goal.write_line-to-requires
write_line-to-requires c =
    line_asked c.requires c.loop-v.invariant c.loop-v-test.true

pub loop-v-preserved : goal.loop-v-preserved
loop-v-preserved c =
    lines_turn c.requires c.loop-v.invariant c.loop-v-test.true c.write_line-to.auto.roles c.write_line-to.auto.links
    c.write_line-to.ensures

pub returns : goal.returns
returns c =
    lines_all c.requires c.loop-v.invariant c.loop-v-test.false
