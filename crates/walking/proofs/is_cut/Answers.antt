-- `is_cut` meets its contract: each test that fails names a part of a cut that does not hold.
use native.Mathlib.Omega.{arith}
use Rattle.std.proofs.Common.{rules}
use Rattle.storage.proofs.Drawings.{drawn_span}
use Rattle.storage.proofs.InMarks.{tells_no}
use Rattle.walking.proofs.WalkLoops.{cut_met, cut_stops, cut_whole}
use Rattle.walking.proofs.is_cut.Goals as goal
use Rattle.walking.proofs.is_cut.Goals.{then-is_empty-via-then-is_empty, then-is_empty-via-else-is_empty+then-leaves-net}
use Rattle.walking.proofs.is_cut.Goals.{then-is_empty-via-else-is_empty+else-leaves-net+then-not-is_rising}
use Rattle.walking.proofs.is_cut.Goals.{then-is_empty-via-else-is_empty+else-leaves-net+else-not-is_rising+then-not-leaves_met}

pub returns-then-is_empty : goal.returns-then-is_empty
returns-then-is_empty c =
    let made = c.walk.ensures in
    record {
      reply = tells_no (λ cut.
          elim c.then-is_empty.branch [
            | then-is_empty-via-then-is_empty w ↦ let some = cut.some in search (w.if-is_empty.true, c.is_empty.ensures, some, rules, arith)
            | then-is_empty-via-else-is_empty+then-leaves-net w ↦ omega (arith, w.if-leaves-net.true, cut.few)
            | then-is_empty-via-else-is_empty+else-leaves-net+then-not-is_rising w ↦
                w.is_rising.ensures.no w.if-not-is_rising.true cut.rising
            | then-is_empty-via-else-is_empty+else-leaves-net+else-not-is_rising+then-not-leaves_met w ↦
                w.leaves_met.ensures.no w.if-not-leaves_met.true (cut_met c.requires made cut)
          ]);
      walk = made;
    }

pub inputs_stop-requires : goal.inputs_stop-requires
inputs_stop-requires c =
    let p = c.requires in
    let span = drawn_span p.drawing.drawn in
    record {
      inputs_in_bounds = omega (arith, p.roles_long, c.walk.ensures.rest.size);
      inputs_bound = omega (arith, p.drawing.small);
    }

pub returns : goal.returns
returns c =
    let p = c.requires in
    let made = c.walk.ensures in
    let rising = c.is_rising.ensures.yes c.if-not-is_rising.false in
    let met = c.leaves_met.ensures.yes c.if-not-leaves_met.false in
    let stop = c.inputs_stop.ensures in
    record {
      reply = record {
        yes =
            λ e.
            cut_whole p made (search (c.if-is_empty.false, c.is_empty.ensures, rules, arith)) (omega (arith, c.if-leaves-net.false)) rising met
            (stop.yes e);
        no = λ e cut. stop.no e (cut_stops p made cut);
      };
      walk = made;
    }
