-- `find` meets its contract: what the rounds left, with the scratch cleared.
use native.Mathlib.Omega.{arith}
use Prim.Native.Nat.{◌-◌}
use mathlib.Core.Path.{sym}
use lib.Seq.{length-take-le}
use Rattle.flow.proofs.Answered.{run_asked, ran_many, ran_full, leaves_asked, answer_paths}
use Rattle.flow.proofs.Answered.{answer_cut}
use Rattle.flow.proofs.find.Goals as goal

pub slice_bounds-run-end : goal.slice_bounds-run-end
slice_bounds-run-end c =
    let a = c.args in
    let long = c.requires.drawing.order_long in
    sym (length-take-le (a.net.numbers.nodes - a.net.numbers.inputs) a.net.order.now (omega arith))

pub run-outcome-requires : goal.run-outcome-requires
run-outcome-requires c =
    run_asked c.requires

pub clear-requires : goal.clear-requires
clear-requires c =
    record {
      small = c.requires.drawing.small;
      long = omega (arith, c.requires.links_long, c.run-outcome.ensures.beyond.size);
      of_five = omega arith;
    }

pub returns-in_default : goal.returns-in_default
returns-in_default c =
    answer_paths c.requires c.run-outcome.ensures.beyond
    (ran_many c.run-outcome.ensures.ran c.in_default.is)
    c.clear.ensures

pub write_leaves-requires : goal.write_leaves-requires
write_leaves-requires c =
    let full = ran_full c.run-outcome.ensures.ran c.in-Some.is in
    leaves_asked (run_asked c.requires).field full c.requires.drawing.k_small c.requires.cut_long

pub returns : goal.returns
returns c =
    let full = ran_full c.run-outcome.ensures.ran c.in-Some.is in
    answer_cut c.requires c.run-outcome.ensures.beyond full c.fill.ensures
    c.write_leaves.ensures
