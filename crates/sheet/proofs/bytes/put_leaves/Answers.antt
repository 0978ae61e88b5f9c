-- `put_leaves` meets its contract: the count, then the ids.
use lib.ListN.{length}
use Rattle.sheet.specs.paper.Encoding.{byte, id_bytes}
use Rattle.sheet.proofs.Writes.{then, room_first, room_then}
use Rattle.sheet.proofs.bytes.put_leaves.Goals as goal

pub put_number-ids_at-requires : goal.put_number-ids_at-requires
put_number-ids_at-requires c =
    let a = c.args in
    room_first a.sheet.now a.at (byte (length a.leaves.now)) (id_bytes a.width a.leaves.now) c.requires

pub put_ids-requires : goal.put_ids-requires
put_ids-requires c = room_then c.put_number-ids_at.ensures (id_bytes c.args.width c.args.leaves.now) c.requires

pub returns : goal.returns
returns c = then c.put_number-ids_at.ensures c.put_ids.ensures
