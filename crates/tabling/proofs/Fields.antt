-- For the writers of fields: a gate's field is written part by part; how many fanins its table tells; and the room of a value's first two
-- parts, where it has four.
use Prim.Native.Nat.{ℕ, ◌<◌, ◌≤◌}
use native.Mathlib.Omega.{arith}
use mathlib.Core.Path.{◌≡◌, ap, sym, subst}
use mathlib.Core.Bool.{Bool, cond}
use mathlib.Core.List.{List, [], ◌∷◌, ◌++◌}
use lib.ListN.{length}
use borrow.Author.Tests.{lt-ltb, le-ltb}
use Rattle.drawing.specs.paper.Forms.{narrow_table}
use Rattle.drawing.specs.paper.Table.{GateLine}
use Rattle.sheet.specs.paper.Encoding.{digits, byte, id_bytes, field}
use Rattle.sheet.specs.Writing.{Room, Written, opened}
use Rattle.sheet.proofs.Writes.{written_as, room_first, room_then, field_room, first_room}
use Rattle.tabling.specs.paper.Encoding.{gate_field}
use Rattle.tabling.specs.Gates.{gate_of, gate_for}

-- a gate by its fanins
module _ (before : List ℕ) (at : ℕ) (fanins : List ℕ) (rows : ℕ) where
  abbrev line_value : List ℕ
  line_value = byte (length fanins) ++ id_bytes 1 fanins ++ digits 8 rows

  pub line_room : Room before at (gate_field narrow_table (gate_of fanins rows)) → Room before at (opened 2 ++ line_value)
  line_room room = field_room before at 2 line_value room

  pub line_written : {after : List ℕ} {r : ℕ} → Written before at (field 2 line_value) after r →
      Written before at (gate_field narrow_table (gate_of fanins rows)) after r
  line_written w = w

-- a gate by its table
module _ (left right rows : ℕ) where
  pub one_fanin : rows < 4 → gate_for left right rows ≡ gate_of (left ∷ []) rows
  one_fanin small = ap (λ (b : Bool). cond b (gate_of (left ∷ []) rows) (gate_of (left ∷ right ∷ []) rows)) (lt-ltb rows 4 small)

  pub two_fanins : 4 ≤ rows → gate_for left right rows ≡ gate_of (left ∷ right ∷ []) rows
  two_fanins large = ap (λ (b : Bool). cond b (gate_of (left ∷ []) rows) (gate_of (left ∷ right ∷ []) rows)) (le-ltb rows 4 large)

module _ {gate line : GateLine} (same : gate ≡ line) where
  pub gate_room : (before : List ℕ) (at : ℕ) → Room before at (gate_field narrow_table gate) → Room before at (gate_field narrow_table line)
  gate_room before at room = subst (λ (g : GateLine). Room before at (gate_field narrow_table g)) same room

  pub gate_written : {before : List ℕ} {at : ℕ} {after : List ℕ} {r : ℕ} → Written before at (gate_field narrow_table line) after r →
      Written before at (gate_field narrow_table gate) after r
  gate_written w = written_as (ap (gate_field narrow_table) (sym same)) w

-- a value in four parts: what `first_room` of sheet is for three
module _ (before : List ℕ) (at tag : ℕ) (vs xs ys zs : List ℕ) (room : Room before at (opened tag ++ (vs ++ xs ++ ys ++ zs))) where
  module _ {a : List ℕ} {i : ℕ} (w : Written before at (opened tag) a i) where
    pub front_room : Room a i vs
    front_room = room_first a i vs xs (first_room before at tag (vs ++ xs) ys zs room w)

    module _ {b : List ℕ} {j : ℕ} (v : Written a i vs b j) where
      pub behind_room : Room b j xs
      behind_room = room_then v xs (first_room before at tag (vs ++ xs) ys zs room w)
