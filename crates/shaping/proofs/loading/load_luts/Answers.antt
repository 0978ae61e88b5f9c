-- `load_luts` meets its contract: the nodes passed have their entries, and the LUTs left are those of the others.
use Prim.Native.Nat.{◌+◌}
use Rattle.shaping.specs.Terms.{due_of}
use Rattle.shaping.specs.Loading.{lut_arrays}
use Rattle.shaping.proofs.Filling.{luts_begin, luts_put, luts_room, lut_room_lem, put_as}
use Rattle.shaping.proofs.FieldRuns.{head_inside, lut_end, lut_whole}
use Rattle.shaping.proofs.Found.{whole, left_first, next_inside, none_here, left_past}
use Rattle.shaping.proofs.Found.{ruled_here, lut_here, left_behind}
use native.Mathlib.Omega.{arith}
use Rattle.shaping.proofs.loading.load_luts.Goals.{then-next_root-node, else-next_root-node}
use Rattle.shaping.proofs.loading.load_luts.Goals as goal

pub small_at-requires : goal.small_at-requires
small_at-requires c =
    record {
      narrow = c.args.terms.narrow;
      width_in_bounds = omega (
        arith,
        head_inside (due_of c.args.terms) c.args.sheet.now
            (whole (due_of c.args.terms) c.args.sheet.now c.requires.loadable.sound).head,
      );
    }

pub loop-v-init : goal.loop-v-init
loop-v-init c =
    let due = due_of c.args.terms in
    let s = c.args.sheet.now in
    record {
      most = omega arith;
      left = left_first due s (whole due s c.requires.loadable.sound) c.requires.start_value c.small_at.ensures.number;
      filled = luts_begin (lut_arrays c.args.luts.now c.args.cuts.now c.args.tables.now);
    }

pub next_root-requires : goal.next_root-requires
next_root-requires c =
    record {
      nodes = c.requires.loadable.nodes;
      inside = next_inside (due_of c.args.terms) c.args.sheet.now c.loop-v.invariant.left;
    }

pub put_lut-requires : goal.put_lut-requires
put_lut-requires c =
    let due = due_of c.args.terms in
    let s = c.args.sheet.now in
    let l = c.loop-v.invariant.left in record {
      whole =
          lut_whole due s l.least c.loop-v.turn.at
          (ruled_here due s l c.next_root.ensures (omega (arith, c.if-next_root-node.false))
          c.loop-v-test.true);
      lut_room = luts_room (c.loop-v.v + 1) (omega (arith, c.loop-v-test.true)) c.requires.lut_room
          c.loop-v.invariant.filled;
    }

pub field_end-requires : goal.field_end-requires
field_end-requires c =
    let due = due_of c.args.terms in
    let s = c.args.sheet.now in
    let l = c.loop-v.invariant.left in
    lut_end due s l.least c.loop-v.turn.at
    (ruled_here due s l c.next_root.ensures (omega (arith, c.if-next_root-node.false)) c.loop-v-test.true)

pub loop-v-preserved : goal.loop-v-preserved
loop-v-preserved c =
    let due = due_of c.args.terms in
    let s = c.args.sheet.now in
    let l = c.loop-v.invariant.left in
    let low = c.loop-v-test.true in
    let room = lut_room_lem (c.loop-v.v + 1) (omega (arith, low)) c.requires.lut_room in
    let so_far = c.loop-v.invariant.filled in
    elim c.if-next_root-node.branch [
      | then-next_root-node w ↦
          let other = w.if-next_root-node.true in
          rw (w.luts-is, w.cuts-is, w.tables-is, w.turn-is)
          (record {
            most = omega (arith, low);
            left = left_past due s l c.next_root.ensures other;
            filled = luts_put room so_far (put_as (none_here due s l c.next_root.ensures other) w.put_no_lut.ensures);
          })
      | else-next_root-node w ↦
          rw (w.luts-is, w.cuts-is, w.tables-is, w.turn-is)
          (record {
            most = omega (arith, low);
            left = left_behind due s l c.next_root.ensures (omega (arith, w.if-next_root-node.false)) low w.field_end.ensures;
            filled = luts_put room so_far (put_as (lut_here due s l c.next_root.ensures (omega (arith, w.if-next_root-node.false)) low) w.put_lut.ensures);
          })
    ]
