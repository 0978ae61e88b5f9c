-- `write_paths` meets its contract: the paths passed are written.
use Rattle.mapping.proofs.PathsWritten.{paths_none, path_asked, paths_turn, paths_all}
use Rattle.mapping.proofs.paths.write_paths.Goals as goal

pub loop-i-init : goal.loop-i-init
loop-i-init c = paths_none c.requires

pub write_path-to-requires : goal.write_path-to-requires
write_path-to-requires c =
    path_asked c.requires c.loop-i.invariant c.loop-i-test.true

pub loop-i-preserved : goal.loop-i-preserved
loop-i-preserved c =
    paths_turn c.requires c.loop-i.invariant c.loop-i-test.true
    c.write_path-to.auto.links c.write_path-to.ensures.links_unchanged
    c.write_path-to.ensures.written

pub returns : goal.returns
returns c =
    paths_all c.requires c.loop-i.invariant c.loop-i-test.false
