-- `put_ids` meets its contract: the ids passed are written.
use Rattle.sheet.proofs.Parts.{ids_none, ids_room, ids_more, ids_all}
use Rattle.sheet.proofs.bytes.put_ids.Goals as goal

pub loop-id-init : goal.loop-id-init
loop-id-init c =
    let a = c.args in
    ids_none a.sheet.now a.at a.ids.now a.width

pub put_number-next-requires : goal.put_number-next-requires
put_number-next-requires c = ids_room c.loop-id.invariant c.loop-id-test.true c.requires

pub loop-id-preserved : goal.loop-id-preserved
loop-id-preserved c = ids_more c.loop-id.invariant c.loop-id-test.true c.put_number-next.ensures

pub returns : goal.returns
returns c = ids_all c.loop-id.invariant c.loop-id-test.false
