-- `is_ready` meets its contract: each fanin passed is marked.
use native.Mathlib.Omega.{arith}
use Prim.Native.Nat.{ℕ}
use mathlib.Core.Path.{◌≡◌, sym, subst}
use mathlib.Core.List.{Memᴰ}
use lib.ListN.{get_or}
use Rattle.storage.proofs.Drawings.{fed_entry}
use Rattle.storage.proofs.Entries.{member_at, place_of}
use Rattle.storage.proofs.InMarks.{tells_yes, tells_no}
use Rattle.walking.proofs.sweeping.is_ready.Goals as goal

pub is_marked-requires : goal.is_marked-requires
is_marked-requires c = fed_entry c.requires c.list_at-id-items.ensures c.loop-id-test.true

pub returns-then-not-is_marked : goal.returns-then-not-is_marked
returns-then-not-is_marked c =
    let items = c.list_at-id-items in
    let here = subst (Memᴰ _) items.ensures (member_at items.result.now c.loop-id.id-index c.loop-id-test.true) in
    tells_no (λ all. c.is_marked.ensures.no c.if-not-is_marked.true (all _ here))

pub returns : goal.returns
returns c =
    let items = c.list_at-id-items in
    tells_yes (λ u m.
    let p = place_of (subst (Memᴰ u) (sym items.ensures) m) in
    subst (λ (v : ℕ). get_or c.args.marks.now v 0 ≡ 1) p.entry (c.loop-id.invariant p.at (omega (arith, p.inside))))
