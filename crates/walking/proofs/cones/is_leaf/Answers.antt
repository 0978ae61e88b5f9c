-- `is_leaf` meets its contract: no leaf passed is the node.
use native.Mathlib.Omega.{arith}
use mathlib.Core.Path.{sym}
use mathlib.Core.List.Memᴰ
use Rattle.storage.proofs.Entries.{member_at, place_of}
use Rattle.storage.proofs.InMarks.{tells_yes, tells_no}
use Rattle.walking.proofs.cones.is_leaf.Goals as goal

pub returns-then-id-node : goal.returns-then-id-node
returns-then-id-node c =
    tells_yes (Memᴰ.cast (sym c.if-id-node.true) (member_at c.args.leaves.now c.loop-id.id-index (omega arith)))

pub returns : goal.returns
returns c =
    tells_no (λ m. let p = place_of m in c.loop-id.invariant p.at (omega (arith, p.inside)) p.entry)
