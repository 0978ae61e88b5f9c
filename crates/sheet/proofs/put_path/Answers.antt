-- `put_path` meets its contract: the length, then the ids.
use lib.ListN.{length}
use Rattle.sheet.specs.paper.Encoding.{digits, id_bytes}
use Rattle.sheet.proofs.Writes.{then, room_first, room_then}
use Rattle.sheet.proofs.put_path.Goals as goal

pub put_number-ids_at-requires : goal.put_number-ids_at-requires
put_number-ids_at-requires c =
    let a = c.args in
    room_first a.sheet.now a.at (digits a.form.width (length a.path.now)) (id_bytes a.form.width a.path.now) c.requires

pub put_ids-requires : goal.put_ids-requires
put_ids-requires c = room_then c.put_number-ids_at.ensures (id_bytes c.args.form.width c.args.path.now) c.requires

pub returns : goal.returns
returns c = then c.put_number-ids_at.ensures c.put_ids.ensures
