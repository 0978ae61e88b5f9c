-- `load_lines` meets its contract: the nodes passed have their entries, an input none of a line.
use Prim.Native.Nat.{◌+◌}
use Rattle.shaping.specs.Terms.{due_of}
use Rattle.shaping.proofs.Filling.{lines_room}
use Rattle.shaping.proofs.FieldRuns.{head_end}
use Rattle.shaping.proofs.Found.{whole, lines_loading, input_more, gate_end}
use Rattle.shaping.proofs.Found.{gate_ready, gate_more}
use native.Mathlib.Omega.{arith}
use Rattle.shaping.proofs.loading.load_lines.Goals.{then-v-terms, else-v-terms}
use Rattle.shaping.proofs.loading.load_lines.Goals as goal

pub field_end-at-requires : goal.field_end-at-requires
field_end-at-requires c =
    let due = due_of c.args.terms in
    let s = c.args.sheet.now in
    head_end due s (whole due s c.requires.loadable.sound).head

pub loop-v-init : goal.loop-v-init
loop-v-init c = lines_loading c.field_end-at.ensures

pub put_line-requires : goal.put_line-requires
put_line-requires c =
    let all = whole (due_of c.args.terms) c.args.sheet.now c.requires.loadable.sound in record {
      line_ready = gate_ready c.loop-v.invariant all (omega (arith, c.if-v-terms.false)) c.loop-v-test.true
          c.requires.loadable.short;
      line_room = lines_room (c.loop-v.v + 1) (omega (arith, c.loop-v-test.true)) c.requires.line_room c.loop-v.invariant.filled;
    }

pub field_end-at-requires-else-v-terms : goal.field_end-at-requires-else-v-terms
field_end-at-requires-else-v-terms c =
    let all = whole (due_of c.args.terms) c.args.sheet.now c.requires.loadable.sound in
    gate_end c.loop-v.invariant all (omega (arith, c.if-v-terms.false)) c.loop-v-test.true

pub loop-v-preserved : goal.loop-v-preserved
loop-v-preserved c =
    let all = whole (due_of c.args.terms) c.args.sheet.now c.requires.loadable.sound in
    let so_far = c.loop-v.invariant in
    elim c.if-v-terms.branch [
      | then-v-terms w ↦
          rw (w.labels-is, w.cuts-is, w.places-is, w.at-is)
          (input_more so_far c.args.terms.inputs_in w.if-v-terms.true c.requires.line_room w.put_no_line.ensures)
      | else-v-terms w ↦
          rw (w.labels-is, w.cuts-is, w.places-is, w.at-is)
          (gate_more so_far all w.if-v-terms.false c.loop-v-test.true c.requires.line_room w.put_line.ensures
          w.field_end-at-else-v-terms.ensures)
    ]
