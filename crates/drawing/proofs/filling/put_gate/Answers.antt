-- `put_gate` meets its contract: each store is the gate's.
use Prim.Native.Nat.{ℕ, ◌+◌, ◌*◌}
use mathlib.Core.Path.{ap, ◌∙◌}
use mathlib.Core.List.{List}
use lib.Seq.{sets}
use Rattle.drawing.specs.paper.Bytes.{value_at, ids_at}
use Rattle.drawing.proofs.Filled.{gate_put}
use Rattle.drawing.proofs.filling.put_gate.Goals as goal

-- src/filling.rt:67:1
pub returns : goal.returns
returns c =
    let a = c.args in
    let m = c.byte_at-m in
    let stored : List ℕ → List ℕ =
    λ l. sets l (7 * a.gate.id + 1) (ids_at a.s.now (value_at a.at + 1) a.form.width m.result) in
    gate_put a.form a.s.now a.at a.gate.id a.fanins.now a.rows.now m.ensures.byte
    (c.put_ids.ensures ∙ ap stored c.put_size.ensures) c.number_at.ensures
