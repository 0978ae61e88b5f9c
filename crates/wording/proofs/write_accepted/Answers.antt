-- `write_accepted` meets its contract.
use native.Mathlib.Omega.{arith}
use Rattle.std.proofs.Common.{rules}
use mathlib.Core.Path.{refl}
use lib.ListN.{length-append}
use Rattle.wording.specs.paper.Text.{accepted_line}
use Rattle.wording.proofs.Puts.{put_then, put_wrote}
use Rattle.wording.proofs.Rooms.{accepted_room_lem}
use Rattle.wording.proofs.write_accepted.Goals as goal

pub named-requires : goal.named-requires
unfolding accepted_line
named-requires c =
    omega (arith, simp length-append at (accepted_room_lem c.args.depth.depth (omega arith)))

pub end_line-requires : goal.end_line-requires
unfolding accepted_line
end_line-requires c =
    omega (arith, simp length-append at (accepted_room_lem c.args.depth.depth (omega arith)))

pub returns : goal.returns
unfolding accepted_line
returns c =
    let fits = accepted_room_lem c.args.depth.depth (omega arith) in
    put_wrote refl (omega arith) (put_then c.named.ensures c.end_line.ensures) (search rules)
