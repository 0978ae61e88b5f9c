-- `write_refused` meets its contract.
use native.Mathlib.Omega.{arith}
use Rattle.std.proofs.Common.{rules}
use mathlib.Core.Path.{refl}
use lib.ListN.{length-append}
use Rattle.wording.specs.paper.Text.{refused_line}
use Rattle.wording.proofs.Puts.{put_then, put_wrote}
use Rattle.wording.proofs.Rooms.{refused_room}
use Rattle.wording.proofs.write_refused.Goals as goal

pub named-requires : goal.named-requires
unfolding refused_line
named-requires c =
    omega (
      arith,
      simp length-append at
          (refused_room c.args.number c.args.place c.ranges.number.fits
          c.ranges.place.fits),
    )

pub named-requires-2 : goal.named-requires-2
unfolding refused_line
named-requires-2 c =
    omega (
      arith,
      simp length-append at
          (refused_room c.args.number c.args.place c.ranges.number.fits
          c.ranges.place.fits),
    )

pub end_line-requires : goal.end_line-requires
unfolding refused_line
end_line-requires c =
    omega (
      arith,
      simp length-append at
          (refused_room c.args.number c.args.place c.ranges.number.fits
          c.ranges.place.fits),
    )

pub returns : goal.returns
unfolding refused_line
returns c =
    let fits = refused_room c.args.number c.args.place c.ranges.number.fits c.ranges.place.fits in
    put_wrote refl (omega arith) (put_then (put_then c.named.ensures c.named-2.ensures) c.end_line.ensures) (search rules)
