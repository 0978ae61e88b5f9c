-- `sound_head` meets its contract: a sound head has all of its bytes.
use native.Mathlib.Omega.{arith}
use Rattle.drawing.proofs.SoundFields.{formed_of, head_sound}
use Rattle.drawing.proofs.sound_head.Goals as goal

-- src/lib.rt:86:9
pub byte_at-inputs-requires : goal.byte_at-inputs-requires
byte_at-inputs-requires c = let sound = head_sound c.args.table.now c.requires.table_value in omega arith

-- src/lib.rt:89:21
pub bounds-table-4 : goal.bounds-table-4
bounds-table-4 c =
    let sound = head_sound c.args.table.now c.requires.table_value in omega arith

-- src/lib.rt:92:25
pub small_at-requires : goal.small_at-requires
small_at-requires c =
    let s = c.args.table.now in
    let sound = head_sound s c.requires.table_value in
    rw c.requires.form_value record { narrow = (formed_of s).narrow; width_in_bounds = omega (arith, sound.whole) }
