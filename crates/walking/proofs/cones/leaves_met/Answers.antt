-- `leaves_met` meets its contract: each leaf passed is a node that is met.
use native.Mathlib.Omega.{arith}
use Prim.Native.Nat.{ℕ, ◌<◌}
use mathlib.Core.Path.{◌≡◌, subst}
use lib.ListN.{get_or}
use Rattle.storage.specs.Roles.{met_in}
use Rattle.storage.proofs.Entries.{member_at, place_of}
use Rattle.storage.proofs.InMarks.{tells_yes, tells_no}
use Rattle.walking.proofs.cones.leaves_met.Goals as goal
use Rattle.walking.proofs.cones.leaves_met.Goals.{then-nodes-id-via-then-nodes-id, then-nodes-id-via-else-nodes-id+then-not-is_met}

pub returns-then-nodes-id : goal.returns-then-nodes-id
returns-then-nodes-id c =
    let here = member_at c.args.leaves.now c.loop-id.id-index (omega arith) in
    tells_no (λ all.
    elim c.then-nodes-id.branch [
      | then-nodes-id-via-then-nodes-id w ↦ omega (arith, w.if-nodes-id.true, (all _ here).0)
      | then-nodes-id-via-else-nodes-id+then-not-is_met w ↦ w.is_met.ensures.no w.if-not-is_met.true (all _ here).1
    ])

pub returns : goal.returns
returns c =
    let a = c.args in
    tells_yes (λ v m.
    let p = place_of m in
    subst (λ (v : ℕ). (v < a.nodes) × (get_or (met_in a.roles.now) v 0 ≡ 1)) p.entry
    (c.loop-id.invariant p.at (omega (arith, p.inside))))
