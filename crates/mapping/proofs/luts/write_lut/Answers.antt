-- `write_lut` meets its contract: a root's LUT, or nothing.
use native.Mathlib.Omega.{arith}
use Rattle.mapping.proofs.LutsWritten.{lut_none, lut_room_lem, lut_one}
use Rattle.mapping.proofs.luts.write_lut.Goals as goal

pub is_marked-requires : goal.is_marked-requires
is_marked-requires c =
    c.requires.luts_long

pub returns-then-not-is_marked : goal.returns-then-not-is_marked
returns-then-not-is_marked c =
    let a = c.args in
    lut_none a.form a.cuts.now a.luts.now a.tables.now a.root.id a.sheet.now a.at
    (c.is_marked.ensures.no c.if-not-is_marked.true)

pub list_at-requires : goal.list_at-requires
list_at-requires c =
    record { id_in_bounds = omega (arith, c.requires.cuts_long); size_bound = c.requires.six }

pub put_lut-requires : goal.put_lut-requires
put_lut-requires c =
    let a = c.args in
    let one =
    c.is_marked.ensures.yes c.if-not-is_marked.false in
    lut_room_lem a.form a.cuts.now a.luts.now a.tables.now a.root.id one
    c.list_at.ensures c.requires

pub returns : goal.returns
returns c =
    let a = c.args in
    let one =
    c.is_marked.ensures.yes c.if-not-is_marked.false in
    lut_one a.form a.cuts.now a.luts.now a.tables.now a.root.id one
    c.list_at.ensures c.put_lut.ensures
