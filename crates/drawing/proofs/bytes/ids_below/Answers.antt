-- `ids_below` meets its contract: what the ids from here on say is what all of them do.
use native.Mathlib.Omega.{arith}
use mathlib.Core.Path.{ap, sym, ◌∙◌}
use mathlib.Core.Bool.{not}
use Rattle.drawing.proofs.Ids.{below_none, below_stop, below_next}
use Rattle.drawing.proofs.bytes.ids_below.Goals as goal

pub returns-then-nodes-small_at : goal.returns-then-nodes-small_at
returns-then-nodes-small_at c =
    let a = c.args in
    let l = c.loop-i in
    ap not (sym (l.invariant ∙ below_stop a.s.now a.at a.width a.count l.i a.nodes (omega arith) c.small_at.ensures (omega arith)))

pub loop-i-preserved : goal.loop-i-preserved
loop-i-preserved c =
    let a = c.args in
    let l = c.loop-i in
    l.invariant ∙ below_next a.s.now a.at a.width a.count l.i a.nodes (omega arith) c.small_at.ensures (omega arith)

pub returns : goal.returns
returns c =
    let a = c.args in
    let l = c.loop-i in
    ap not (sym (l.invariant ∙ below_none a.s.now a.at a.width a.count l.i a.nodes (omega arith)))
