-- `depth` meets its contract: the label kept is the greatest of the outputs passed.
use Prim.Native.Nat.{ℕ, max}
use mathlib.Core.Path.{refl, ap, ap₂, sym, ◌∙◌}
use mathlib.Core.List.{map}
use lib.ListN.{get_or, take}
use Rattle.std.proofs.lemmas.List.{map_more}
use Rattle.theory.specs.paper.Lists.{greatest}
use Rattle.storage.proofs.Entries.{member_at}
use Rattle.covering.proofs.Marking.{greatest_push}
use Rattle.covering.proofs.covers.depth.Goals as goal

pub loop-id-init : goal.loop-id-init
unfolding greatest
loop-id-init c = refl

pub label_of-requires : goal.label_of-requires
label_of-requires c =
    let outputs = c.args.outputs.now in
    let i = c.loop-id.id-index in
    c.requires (get_or outputs i 0) (member_at outputs i c.loop-id-test.true)

pub loop-id-preserved : goal.loop-id-preserved
loop-id-preserved c =
    let a = c.args in
    let l = c.loop-id in
    let label = λ (v : ℕ). get_or a.labels.now v 0 in
    let passed = a.outputs.now in
    let turn = ap greatest (map_more label passed l.id-index 0 c.loop-id-test.true) ∙ greatest_push (map label (take l.id-index passed)) (label (get_or passed l.id-index 0)) in
    c.larger-best.ensures ∙ ap₂ max l.invariant c.label_of.ensures ∙ sym turn
