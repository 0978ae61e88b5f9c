-- `read_path` meets its contract: the path from the i-th start.
use Rattle.flow.proofs.Listing.{path_read, no_path_read}
use Rattle.flow.proofs.read_path.Goals as goal

pub returns-in_default : goal.returns-in_default
returns-in_default c =
    let a = c.args in
    no_path_read a.numbers.inputs a.numbers.nodes a.links.now a.i
    c.path_start-start.ensures c.in_default.is

pub returns : goal.returns
returns c =
    let a = c.args in
    path_read a.numbers.inputs a.numbers.nodes a.links.now a.i
    c.path_start-start.ensures c.in-Some.is c.write_path.ensures
