-- `found_fanin` meets its contract: none of the fanins passed was found.
use native.Mathlib.Omega.{arith}
use mathlib.Core.Path.{refl, sym, ap, subst, ◌∙◌}
use mathlib.Core.List.{Memᴰ}
use Rattle.storage.specs.Entries.{at}
use Rattle.storage.proofs.Drawings.{fed_entry}
use Rattle.storage.proofs.Entries.{member_at, place_of}
use Rattle.flow.specs.Links.{outs_in}
use Rattle.flow.specs.Turns.{FaninFound}
use Rattle.flow.proofs.searching.found_fanin.Goals as goal

pub at-requires : goal.at-requires
at-requires c =
    let p = c.requires in
    record {
      small = p.small;
      long = p.long;
      one_of_five = omega arith;
      node = fed_entry p.fed c.list_at-id-items.ensures c.loop-id-test.true;
    }

pub returns-then-at-ne-NOT_FOUND : goal.returns-then-at-ne-NOT_FOUND
returns-then-at-ne-NOT_FOUND c =
    let items = c.list_at-id-items in
    FaninFound.some _ (subst (Memᴰ _) items.ensures (member_at items.result.now c.loop-id.id-index c.loop-id-test.true))
    refl (omega (arith, c.at.ensures))

pub returns : goal.returns
returns c =
    let a = c.args in
    let items = c.list_at-id-items in
    FaninFound.none refl (λ u m.
    let p = place_of (subst (Memᴰ u) (sym items.ensures) m) in
    sym (ap (at (outs_in a.numbers.nodes a.links.now)) p.entry) ∙ c.loop-id.invariant p.at (omega (arith, p.inside)))
