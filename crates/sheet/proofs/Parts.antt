-- The ids of a slice, one id more at a time.
use Prim.Native.Nat.{ℕ, ◌+◌, ◌*◌, ◌<◌, ◌≤◌}
use mathlib.Core.Path.{◌≡◌, refl, ap, sym, ◌∙◌}
use mathlib.Core.List.{List, ◌++◌, flat_map}
use native.Mathlib.Nat.{add-mul, mul-le-mul_right, one-mul}
use native.Mathlib.Numerals.{add-one}
use native.Mathlib.Omega.{arith}
use lib.ListN.{length, get_or, take}
use lib.Seq.{take-suc}
use Rattle.std.proofs.lemmas.List.{take_all, length-take-le}
use Rattle.sheet.specs.paper.Encoding.{digits, id_bytes}
use Rattle.sheet.specs.Writing.{Room, Written}
use Rattle.sheet.proofs.Numbers.{length_digits, length_ids, flat_more}
use Rattle.sheet.proofs.Writes.{then, same_size, written_as}

-- what the loop over the ids keeps: the first i of them are written
pub record IdsWritten (before : List ℕ) (at : ℕ) (ids : List ℕ) (width : ℕ) (sheet : List ℕ) (next i : ℕ) : Type 0 where
  pub written : Written before at (id_bytes width (take i ids)) sheet next

pub ids_none : (before : List ℕ) (at : ℕ) (ids : List ℕ) (width : ℕ) → IdsWritten before at ids width before at 0
unfolding flat_map
ids_none before at ids width = record { written = record { stored = refl; reached = omega arith } }

module _ {before : List ℕ} {at : ℕ} {ids : List ℕ} {width : ℕ} {sheet : List ℕ} {next i : ℕ}
    (so_far : IdsWritten before at ids width sheet next i) (more : i < length ids) where
  one_more : id_bytes width (take (i + 1) ids) ≡ id_bytes width (take i ids) ++ digits width (get_or ids i 0)
  one_more = ap (id_bytes width) (rw add-one (take-suc ids i 0 more)) ∙ flat_more (digits width) (take i ids) (get_or ids i 0)

  pub ids_room : Room before at (id_bytes width ids) → Room sheet next (digits width (get_or ids i 0))
  ids_room room =
      let few : (i + 1) * width ≤ length ids * width = mul-le-mul_right width (omega arith) in
      omega (
        arith,
        same_size so_far.written,
        so_far.written.reached,
        length_digits width (get_or ids i 0),
        length_ids width (take i ids),
        length_ids width ids,
        ap (λ (m : ℕ). m * width) (length-take-le i ids (omega arith)),
        add-mul i 1 width,
        one-mul width,
      )

  pub ids_more : {after : List ℕ} {last : ℕ} → Written sheet next (digits width (get_or ids i 0)) after last →
      IdsWritten before at ids width after last (i + 1)
  ids_more one = record { written = written_as (sym one_more) (then so_far.written one) }

pub ids_all : {before : List ℕ} {at : ℕ} {ids : List ℕ} {width : ℕ} {sheet : List ℕ} {next i : ℕ} → IdsWritten before at ids width sheet next i → length ids ≤ i →
    Written before at (id_bytes width ids) sheet next
ids_all {ids = ids} {width = width} {i = i} so_far done = written_as (ap (id_bytes width) (take_all i ids done)) so_far.written
