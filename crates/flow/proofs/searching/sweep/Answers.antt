-- `sweep` meets its contract: the nodes passed are settled while no number was given.
use native.Mathlib.Omega.{arith}
use Prim.Native.Nat.{◌<◌}
use mathlib.Core.Path.{refl}
use lib.ListN.{length}
use Rattle.flow.specs.Sweeps.{SweptSo}
use Rattle.flow.proofs.Columns.{paths_then}
use Rattle.flow.proofs.Finding.{visited_input}
use Rattle.flow.proofs.Sweeping.{sweep_turn, order_size, gate_above, gate_below}
use Rattle.flow.proofs.Sweeping.{end_asked, sweep_settles}
use Rattle.flow.proofs.searching.sweep.Goals as goal

pub overflow_cast-v : goal.overflow_cast-v
overflow_cast-v c =
    omega (arith, order_size c.requires.field, c.requires.field.ground.small)

pub visit_input-last-requires : goal.visit_input-last-requires
visit_input-last-requires c =
    let f = c.requires.field in
    record {
      inputs = c.args.net.numbers.inputs;
      fanins = c.args.net.fanins.now;
      visit = record {
        ground = f.ground;
        searched = c.loop-i.invariant.searched;
        low = omega (arith, order_size f, c.loop-i-test.true);
      };
      input = c.loop-i-test.true;
    }

pub is_reached-requires : goal.is_reached-requires
is_reached-requires c =
    let f = c.requires.field in
    let inv = c.loop-i.invariant in
    let visited = visited_input f.ground inv.searched c.loop-i-test.true
    c.visit_input-last.ensures in
    end_asked f visited.searched (omega (arith, order_size f, c.loop-i-test.true))

pub shape_of-links-then-is_reached : goal.shape_of-links-then-is_reached
shape_of-links-then-is_reached c =
    let f = c.requires.field in
    let inv = c.loop-i.invariant in
    let visited = visited_input f.ground inv.searched c.loop-i-test.true
    c.visit_input-last.ensures in
    (paths_then inv.kept visited.kept).rest.size

pub returns-then-is_reached : goal.returns-then-is_reached
returns-then-is_reached c =
    let f = c.requires.field in
    let inv = c.loop-i.invariant in
    let visited = visited_input f.ground inv.searched c.loop-i-test.true
    c.visit_input-last.ensures in
    record {
      swept_so = SweptSo.reached _ refl
          (record {
            last = _;
            searched = visited.searched;
            is_end = c.is_reached.ensures.is_end c.if-is_reached.true;
            reached = c.is_reached.ensures.reached c.if-is_reached.true;
          });
      paths_kept = paths_then inv.kept visited.kept;
    }

pub loop-i-preserved : goal.loop-i-preserved
loop-i-preserved c =
    let f = c.requires.field in
    let inv = c.loop-i.invariant in
    let visited = visited_input f.ground inv.searched c.loop-i-test.true
    c.visit_input-last.ensures in
    sweep_turn inv refl visited c.is_reached.ensures c.if-is_reached.false

pub visit_gate-last-requires : goal.visit_gate-last-requires
visit_gate-last-requires c =
    let f = c.requires.field in
    let low : c.loop-id.id-index < length c.args.net.order.now =
    omega (arith, order_size f, c.loop-id-test.true) in
    record {
      visit = record {
        ground = f.ground;
        searched = c.loop-id.invariant.searched;
        low = gate_below f c.loop-id.id-index low;
      };
      gate = gate_above f c.loop-id.id-index low;
    }

pub is_reached-requires-in-loop-id : goal.is_reached-requires-in-loop-id
is_reached-requires-in-loop-id c =
    let f = c.requires.field in
    let low : c.loop-id.id-index < length c.args.net.order.now =
    omega (arith, order_size f, c.loop-id-test.true) in
    end_asked f c.visit_gate-last.ensures.searched
    (gate_below f c.loop-id.id-index low)

pub returns-then-is_reached-2 : goal.returns-then-is_reached-2
returns-then-is_reached-2 c =
    record {
      swept_so = SweptSo.reached _ refl
          (record {
            last = _;
            searched = c.visit_gate-last.ensures.searched;
            is_end = c.is_reached-in-loop-id.ensures.is_end c.if-is_reached-2.true;
            reached = c.is_reached-in-loop-id.ensures.reached c.if-is_reached-2.true;
          });
      paths_kept = paths_then c.loop-i.invariant.kept (paths_then c.loop-id.invariant.kept c.visit_gate-last.ensures.kept);
    }

pub loop-id-preserved : goal.loop-id-preserved
loop-id-preserved c =
    sweep_turn c.loop-id.invariant refl c.visit_gate-last.ensures
    c.is_reached-in-loop-id.ensures c.if-is_reached-2.false

pub returns : goal.returns
returns c =
    let f = c.requires.field in
    let a = c.loop-i.invariant in
    let b = c.loop-id.invariant in record {
      swept_so = SweptSo.up_to c.loop-id.last refl b.searched (omega (arith, a.onward, b.onward))
          (sweep_settles f a (omega (arith, c.loop-i-test.false)) b
          (omega (arith, order_size f, c.loop-id-test.false)));
      paths_kept = paths_then a.kept b.kept;
    }
