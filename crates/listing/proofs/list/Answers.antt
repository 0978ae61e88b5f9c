-- `list` meets its contract: what is said of the table comes first, and a table taken is listed.
use native.Mathlib.Omega.{arith}
use Prim.Native.Nat.{◌≤◌, ◌<◌}
use mathlib.Core.Path.{◌≡◌, refl}
use lib.ListN.{length}
use Rattle.std.proofs.Common.{rules, Err}
use Rattle.taking.specs.declared.TakeError.TheVariants.{Refused, LoopAt, TooShort}
use Rattle.taking.proofs.Judged.{table_taken, says, never_short}
use Rattle.wording.specs.paper.Filled.{Filled}
use Rattle.wording.proofs.Filled.{front, refused_as}
use Rattle.listing.proofs.Tables.{list_asked, lists_taken, lists_refused, lists_loop}
use Rattle.listing.proofs.list.Goals as goal

pub returns-then-text-lt-TEXT_ROOM : goal.returns-then-text-lt-TEXT_ROOM
returns-then-text-lt-TEXT_ROOM c =
    let short : length c.args.text.now < 18595 = omega (arith, c.if-text-lt-TEXT_ROOM.true) in let asked =
    front (Filled.short short refl refl) in record { lists = asked.0; front = asked.1 }

pub list_taken-requires : goal.list_taken-requires
list_taken-requires c =
    let known = table_taken c.take_table-taken.ensures (omega arith) (omega arith) (omega arith)
    (omega arith) (omega arith) c.in-Ok.is c.take_table-taken.auto.rows c.take_table-taken.auto.outputs c.take_table-taken.auto.order in
    let long : 18595 ≤ length c.args.text.now = omega (arith, c.if-text-lt-TEXT_ROOM.false) in
    list_asked known.ready known.numbers_are long

pub write_refused-requires : goal.write_refused-requires
write_refused-requires c =
    omega (arith, c.if-text-lt-TEXT_ROOM.false)

pub write_refused-requires-in-Err-LoopAt : goal.write_refused-requires-in-Err-LoopAt
write_refused-requires-in-Err-LoopAt c =
    omega (arith, c.if-text-lt-TEXT_ROOM.false)

pub returns-in-Ok : goal.returns-in-Ok
returns-in-Ok c =
    let known = table_taken c.take_table-taken.ensures (omega arith) (omega arith) (omega arith)
    (omega arith) (omega arith) c.in-Ok.is c.take_table-taken.auto.rows c.take_table-taken.auto.outputs c.take_table-taken.auto.order in let asked =
    front (lists_taken known.ready known.numbers_are c.if-text-lt-TEXT_ROOM.false c.list_taken.ensures) in record { lists = asked.0; front = asked.1 }

pub returns-in-Err-Refused : goal.returns-in-Err-Refused
returns-in-Err-Refused c = let asked =
    front
    (lists_refused
    (says c.take_table-taken.ensures (omega arith) (omega arith) (omega arith) (omega arith)
    (omega arith))
    (let is : c.take_table-taken.result ≡ Err (Refused c.in-Err-Refused.r) = search rules in is) c.if-text-lt-TEXT_ROOM.false
    (refused_as c.number_of.ensures c.place_of.ensures
    c.write_refused.ensures)) in record { lists = asked.0; front = asked.1 }

pub returns-in-Err-LoopAt : goal.returns-in-Err-LoopAt
returns-in-Err-LoopAt c = let asked =
    front
    (lists_loop
    (says c.take_table-taken.ensures (omega arith) (omega arith) (omega arith) (omega arith)
    (omega arith))
    (let is : c.take_table-taken.result ≡ Err (LoopAt c.in-Err-LoopAt.gate) = search rules in is)
    c.if-text-lt-TEXT_ROOM.false c.write_refused-in-Err-LoopAt.ensures) in record { lists = asked.0; front = asked.1 }

pub returns-in-Err-TooShort : goal.returns-in-Err-TooShort
returns-in-Err-TooShort c =
    absurd
    (never_short c.take_table-taken.ensures (omega arith) (omega arith) (omega arith) (omega arith)
    (omega arith) (let is : c.take_table-taken.result ≡ Err TooShort = search rules in is))
