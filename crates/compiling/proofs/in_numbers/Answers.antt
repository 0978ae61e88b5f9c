-- `in_numbers` meets its contract: each test is one of the rule's.
use native.Mathlib.Omega.{arith}
use Prim.Native.Nat.{◌+◌}
use borrow.Author.Tests.{le-leb, lt-leb}
use Rattle.compiling.specs.Stages.{numbers_right}
use Rattle.compiling.proofs.in_numbers.Goals as goal

pub returns-then-k : goal.returns-then-k
unfolding numbers_right
returns-then-k c =
    let k = c.args.k in
    rw (lt-leb 2 k (omega arith))

pub returns-then-k-2 : goal.returns-then-k-2
unfolding numbers_right
returns-then-k-2 c =
    let k = c.args.k in
    rw (le-leb 2 k (omega arith), lt-leb k 6 (omega arith))

pub returns-then-counts-gt-MOST_INPUTS : goal.returns-then-counts-gt-MOST_INPUTS
unfolding numbers_right
returns-then-counts-gt-MOST_INPUTS c =
    let k = c.args.k in
    let counts = c.args.counts in
    rw (le-leb 2 k (omega arith), le-leb k 6 (omega arith), lt-leb counts.inputs 64 (omega arith))

pub returns-then-counts-gt-MOST_NODES : goal.returns-then-counts-gt-MOST_NODES
unfolding numbers_right
returns-then-counts-gt-MOST_NODES c =
    let k = c.args.k in
    let counts = c.args.counts in
    rw (
      le-leb 2 k (omega arith),
      le-leb k 6 (omega arith),
      le-leb counts.inputs 64 (omega arith),
      lt-leb (counts.inputs + counts.gates) 192 (omega arith),
    )

pub returns : goal.returns
unfolding numbers_right
returns c =
    let k = c.args.k in
    let counts = c.args.counts in
    rw (
      le-leb 2 k (omega arith),
      le-leb k 6 (omega arith),
      le-leb counts.inputs 64 (omega arith),
      le-leb (counts.inputs + counts.gates) 192 (omega arith),
    )
