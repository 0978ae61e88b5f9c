-- `number_at` meets its contract: the number so far is that of the bytes passed.
use Prim.Native.Nat.{◌+◌, ◌*◌}
use native.Mathlib.Omega.{arith}
use mathlib.Core.Path.{sym}
use lib.ListN.{get_or}
use Rattle.drawing.proofs.Digits.{number_none, number_more, run_size, run_byte, byte_room, word_room}
use Rattle.drawing.proofs.bytes.number_at.Goals as goal

pub loop-byte-init : goal.loop-byte-init
loop-byte-init c = (sym (number_none c.args.s.now c.args.at), omega arith)

pub overflow_mul-number : goal.overflow_mul-number
overflow_mul-number c =
    let a = c.args in
    let l = c.loop-byte in
    let size = run_size a.s.now a.at a.size c.requires.size_in_bounds in
    omega (arith, word_room (l.number * 256 + 0) (l.byte-index + 1) (omega arith) (byte_room l.number l.byte-index 0 (omega arith) (omega arith)))

pub overflow_add-number : goal.overflow_add-number
overflow_add-number c =
    let a = c.args in
    let l = c.loop-byte in
    let size = run_size a.s.now a.at a.size c.requires.size_in_bounds in
    let byte = run_byte a.s.now a.at a.size l.byte-index (omega arith) in
    let small = c.type_inv.s (a.at + l.byte-index) in
    let b = get_or a.s.now (a.at + l.byte-index) 0 in
    omega (arith, byte, word_room (l.number * 256 + b) (l.byte-index + 1) (omega arith) (byte_room l.number l.byte-index b (omega arith) (omega arith)))

pub loop-byte-preserved : goal.loop-byte-preserved
loop-byte-preserved c =
    let a = c.args in
    let l = c.loop-byte in
    let size = run_size a.s.now a.at a.size c.requires.size_in_bounds in
    let byte = run_byte a.s.now a.at a.size l.byte-index (omega arith) in
    let small = c.type_inv.s (a.at + l.byte-index) in
    rw byte (
      omega (arith, number_more a.s.now a.at l.byte-index (omega arith)),
      byte_room l.number l.byte-index (get_or a.s.now (a.at + l.byte-index) 0) (omega arith) (omega arith),
    )
