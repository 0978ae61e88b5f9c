-- `is_marked` meets its contract: the test is on the node's entry.
use borrow.Author.Tests.{eqb-true, eqb-false}
use lib.ListN.{get_or}
use Rattle.storage.proofs.marks.is_marked.Goals as goal

pub returns : goal.returns
returns c = record {
  yes = eqb-true (get_or c.args.marks.now c.args.node.id 0) 1;
  no = eqb-false (get_or c.args.marks.now c.args.node.id 0) 1;
}
