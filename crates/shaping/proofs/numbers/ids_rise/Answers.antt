-- `ids_rise` meets its contract: the ids rise if the last one read and those from here on do.
use Prim.Native.Nat.{◌+◌, ◌*◌, ◌-◌}
use mathlib.Core.Path.{sym, ◌∙◌}
use Rattle.shaping.proofs.Ids.{rise_none, rise_stop, rise_next}
use native.Mathlib.Omega.{arith}
use Rattle.shaping.proofs.numbers.ids_rise.Goals as goal

pub returns-then-node-before : goal.returns-then-node-before
returns-then-node-before c =
    let a = c.args in
    let i = c.loop-i.i in
    sym
    (c.loop-i.invariant
    ∙ rise_stop a.sheet.now c.loop-i.before.id (a.at + i * a.terms.form.width) a.terms.form.width (a.count - i) (omega arith) c.node_at-node.ensures (omega arith))

pub loop-i-preserved : goal.loop-i-preserved
loop-i-preserved c =
    let a = c.args in
    let i = c.loop-i.i in
    c.loop-i.invariant
    ∙ rise_next a.sheet.now c.loop-i.before.id a.at a.terms.form.width a.count i (omega arith) c.node_at-node.ensures (omega arith)

pub returns : goal.returns
returns c =
    let a = c.args in
    let i = c.loop-i.i in
    sym (c.loop-i.invariant ∙ rise_none a.sheet.now c.loop-i.before.id (a.at + i * a.terms.form.width) a.terms.form.width (a.count - i) (omega arith))
