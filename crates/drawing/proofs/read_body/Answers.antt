-- `read_body` meets its contract: the gates' loop and the outputs' loop leave what the table's reading says.
use native.Mathlib.Omega.{arith}
use mathlib.Core.Path.{ap}
use Rattle.std.proofs.lemmas.Result.{err_from_is_err_and}
use Rattle.storage.specs.declared.Numbers.{Numbers}
use Rattle.drawing.specs.paper.Forms.{gates_start}
use Rattle.drawing.specs.Reading.{arrays_of}
use Rattle.drawing.proofs.SoundFields.{formed_of, head_sound}
use Rattle.drawing.proofs.Wholes.{long_enough, as_headed, outputs_as_headed, reads_gates_refused}
use Rattle.drawing.proofs.Wholes.{reads_outputs_refused, reads_whole}
use Rattle.drawing.proofs.read_body.Goals as goal

-- src/lib.rt:106:5
pub put_inputs-requires : goal.put_inputs-requires
put_inputs-requires c =
    let a = c.args in
    let sound = head_sound a.table.now c.requires.table_value in
    let long = long_enough (arrays_of a.fanins.now a.rows.now a.outputs.now) c.requires.outputs_value in
    omega (arith, ap (λ (n : Numbers). n.inputs) c.sound_head-head.ensures)

-- src/lib.rt:107:9
pub read_gates-requires : goal.read_gates-requires
read_gates-requires c =
    let a = c.args in
    let sound = head_sound a.table.now c.requires.table_value in
    let long = long_enough (arrays_of a.fanins.now a.rows.now a.outputs.now) c.requires.outputs_value in
    let head = c.sound_head-head.ensures in
    let k = ap (λ (n : Numbers). n.k.leaves) head in
    let inputs = ap (λ (n : Numbers). n.inputs) head in
    let nodes = ap (λ (n : Numbers). n.nodes) head in
    let starts = ap gates_start c.requires.form_value in
    record {
      formed = rw c.requires.form_value (formed_of a.table.now);
      head = omega (arith, sound.whole);
      k_small = omega arith;
      span = omega arith;
      small = omega arith;
      fanins = omega (arith, c.put_inputs.auto.fanins);
      rows = omega (arith, long.rows);
    }

-- src/lib.rt:98:1
pub returns-in_err-at : goal.returns-in_err-at
returns-in_err-at c =
    let a = c.args in
    let s = a.table.now in
    let arrays = arrays_of a.fanins.now a.rows.now a.outputs.now in
    let head = c.sound_head-head.ensures in
    let inputs = c.put_inputs.ensures in
    let read = as_headed s a.fanins.now a.rows.now c.requires.form_value head inputs
    c.read_gates.ensures in
    let p = err_from_is_err_and c.from_residual.result c.from_residual.ensures.1 in
    rw (p.1, p.2) (reads_gates_refused arrays s c.requires.outputs_value c.requires.table_value read c.in_err-at.was)

-- src/lib.rt:98:1
pub returns-in_err-roots : goal.returns-in_err-roots
returns-in_err-roots c =
    let a = c.args in
    let s = a.table.now in
    let arrays = arrays_of a.fanins.now a.rows.now a.outputs.now in
    let head = c.sound_head-head.ensures in
    let inputs = c.put_inputs.ensures in
    let read = as_headed s a.fanins.now a.rows.now c.requires.form_value head inputs
    c.read_gates.ensures in
    let rest = outputs_as_headed s a.outputs.now c.in_ok-at.at c.requires.form_value head
    c.read_outputs.ensures in
    let p = err_from_is_err_and c.from_residual-in_err-roots.result c.from_residual-in_err-roots.ensures.1 in
    rw (p.1, p.2)
    (reads_outputs_refused arrays s c.requires.outputs_value c.requires.table_value read c.in_ok-at.was rest
    c.in_err-roots.was)

-- src/lib.rt:98:1
pub returns : goal.returns
returns c =
    let a = c.args in
    let s = a.table.now in
    let arrays = arrays_of a.fanins.now a.rows.now a.outputs.now in
    let head = c.sound_head-head.ensures in
    let inputs = c.put_inputs.ensures in
    let read = as_headed s a.fanins.now a.rows.now c.requires.form_value head inputs
    c.read_gates.ensures in
    let rest = outputs_as_headed s a.outputs.now c.in_ok-at.at c.requires.form_value head
    c.read_outputs.ensures in
    rw head
    (reads_whole arrays s c.requires.outputs_value c.requires.table_value read c.in_ok-at.was rest
    c.in_ok-roots.was)
