-- Writes one after the other are one write of their bytes, and a field whose length is stored last is the field.
use Prim.Native.Nat.{ℕ, suc, ◌+◌, ◌-◌, ◌/◌, ◌%◌, ◌^◌, ◌<◌, ◌≤◌}
use mathlib.Core.Path.{◌≡◌, refl, ap, sym, ◌∙◌}
use mathlib.Core.List.{List, [], ◌∷◌, ◌++◌, flat_map, append_assoc}
use native.Mathlib.Nat.{div-one}
use native.Mathlib.Numerals.{add-one}
use native.Mathlib.Omega.{arith}
use lib.ListN.{length, set, length-append, length-set}
use lib.Seq.{sets, length-sets, set_comm, set-set}
use Rattle.storage.proofs.Stores.{sets_append, set_sets}
use Rattle.sheet.specs.paper.Encoding.{digits, field}
use Rattle.sheet.specs.Writing.{Room, Written, Closed, opened}
use Rattle.sheet.proofs.Numbers.{length_digits, rest_more, flat_more}

-- What the loop over a number's bytes keeps, which stores the low byte first: the bytes from `place` on stand.
pub record LowStored (before : List ℕ) (at number width : ℕ) (sheet : List ℕ) (rest place : ℕ) : Type 0 where
  pub room : at + width ≤ length sheet
  pub size : length sheet ≡ length before
  pub left : rest ≡ number / 256 ^ (width - place)
  pub stored : sheet ≡ sets before (at + place) (digits (width - place) number)

pub low_none : (before : List ℕ) (at number width : ℕ) → Room before at (digits width number) → LowStored before at number width before number width
unfolding digits
low_none before at number width room =
    let none : width - width ≡ 0 = omega arith in
    record {
      room = omega (arith, length_digits width number);
      size = refl;
      left = sym (div-one number) ∙ ap (λ (m : ℕ). number / 256 ^ m) (sym none);
      stored = ap (λ (m : ℕ). sets before (at + width) (digits m number)) (sym none);
    }

pub low_more : {before : List ℕ} {at number width : ℕ} {sheet : List ℕ} {rest place : ℕ} → LowStored before at number width sheet rest place →
    0 < place → place ≤ width → LowStored before at number width (set sheet (at + (place - 1)) (rest % 256)) (rest / 256) (place - 1)
unfolding digits
low_more {before} {at} {number} {width} {sheet} {rest} {place} low more inside =
    let here = at + (place - 1) in
    let i = width - place in
    let behind : at + place ≡ suc here = omega arith in
    let one_more : width - (place - 1) ≡ suc i = omega arith in
    record {
      room = simp length-set low.room;
      size = length-set sheet here (rest % 256) ∙ low.size;
      left = ap (λ (m : ℕ). m / 256) low.left ∙ rest_more number i ∙ ap (λ (m : ℕ). number / 256 ^ m) (add-one i ∙ sym one_more);
      stored =
          ap (λ (m : List ℕ). set m here (rest % 256)) low.stored
          ∙ ap (λ (m : ℕ). set (sets before m (digits i number)) here (rest % 256)) behind
          ∙ set_sets before here (rest % 256) (suc here) (digits i number) (omega arith)
          ∙ ap (λ (m : ℕ). sets (set before here (m % 256)) (suc here) (digits i number)) low.left
          ∙ ap (λ (m : ℕ). sets before here (digits m number)) (sym one_more);
    }

pub low_all : {before : List ℕ} {at number width : ℕ} {sheet : List ℕ} {rest place : ℕ} → place ≡ 0 → LowStored before at number width sheet rest place →
    Written before at (digits width number) sheet (at + width)
low_all {before} {at} {number} {width} {place = place} done low =
    let start : at + place ≡ at = omega (arith, done) in
    let all : width - place ≡ width = omega (arith, done) in
    record {
      stored = low.stored ∙ ap (λ (m : ℕ). sets before m (digits (width - place) number)) start ∙ ap (λ (m : ℕ). sets before at (digits m number)) all;
      reached = omega (arith, length_digits width number);
    }

module _ {before : List ℕ} {at : ℕ} {xs middle : List ℕ} {next : ℕ} (first : Written before at xs middle next) where
  pub same_size : length middle ≡ length before
  same_size = ap length first.stored ∙ length-sets before at xs

  pub then : {ys after : List ℕ} {last : ℕ} → Written middle next ys after last → Written before at (xs ++ ys) after last
  then {ys} {after} {last} second =
      record {
        stored = second.stored ∙ ap (λ (m : List ℕ). sets m next ys) first.stored ∙ ap (λ (j : ℕ). sets (sets before at xs) j ys) first.reached ∙ sets_append before at xs ys;
        reached = omega (arith, second.reached, first.reached, length-append xs ys);
      }

  -- what still has room after the first write
  pub room_then : (ys : List ℕ) → Room before at (xs ++ ys) → Room middle next ys
  room_then ys room = omega (arith, same_size, first.reached, length-append xs ys)

pub room_first : (before : List ℕ) (at : ℕ) (xs ys : List ℕ) → Room before at (xs ++ ys) → Room before at xs
room_first before at xs ys room = omega (arith, length-append xs ys)

pub written_as : {before : List ℕ} {at : ℕ} {xs ys after : List ℕ} {next : ℕ} → xs ≡ ys → Written before at xs after next → Written before at ys after next
written_as {before} {at} {after = after} {next} same w = rw same at w

-- one more of a run of parts, as a path of a line or a line of a sheet
pub written_more : {A : Type 0} (f : A → List ℕ) {before : List ℕ} {at : ℕ} (front : List ℕ) (done : List A) (x : A) {middle : List ℕ} {next : ℕ} {after : List ℕ} {last : ℕ} →
    Written before at (front ++ flat_map f done) middle next → Written middle next (f x) after last →
    Written before at (front ++ flat_map f (done ++ (x ∷ []))) after last
written_more f front done x w one =
    written_as (append_assoc front (flat_map f done) (f x) ∙ ap (λ (l : List ℕ). front ++ l) (sym (flat_more f done x))) (then w one)

-- two entries before a run of stores, stored again
stored_again : (l : List ℕ) (i a b x y : ℕ) (vs : List ℕ) →
    set (set (sets (set (set l i a) (suc i) b) (suc (suc i)) vs) i x) (suc i) y ≡ sets (set (set l i x) (suc i) y) (suc (suc i)) vs
stored_again l i a b x y vs =
    ap (λ (m : List ℕ). set m (suc i) y) (set_sets (set (set l i a) (suc i) b) i x (suc (suc i)) vs (omega arith))
    ∙ set_sets (set (set (set l i a) (suc i) b) i x) (suc i) y (suc (suc i)) vs (omega arith)
    ∙ ap (λ (m : List ℕ). sets (set m (suc i) y) (suc (suc i)) vs)
    (set_comm (set l i a) (suc i) i b x (λ e. omega arith) ∙ ap (λ (m : List ℕ). set m (suc i) b) (set-set l i a x))
    ∙ ap (λ (m : List ℕ). sets m (suc (suc i)) vs) (set-set (set l i x) (suc i) b y)

pub opened_written : (before : List ℕ) (at tag : ℕ) → Written before at (opened tag) (set (set (set before at tag) (at + 1) 0) (at + 2) 0) (at + 3)
opened_written before at tag =
    let third : at + 2 ≡ suc (suc at) = omega arith in
    record {
      stored =
          ap (λ (i : ℕ). set (set (set before at tag) i 0) (at + 2) 0) (add-one at)
          ∙ ap (λ (i : ℕ). set (set (set before at tag) (suc at) 0) i 0) third;
      reached = refl;
    }

-- The length goes in once the value is whole.
module _ (tag : ℕ) (value : List ℕ) {before : List ℕ} {at : ℕ} {middle : List ℕ} {next : ℕ} (w : Written before at (opened tag ++ value) middle next) where
  pub closed : {after : List ℕ} {r : ℕ} → Closed middle at next after r → Written before at (field tag value) after r
  unfolding digits
  closed {after} {r} c =
      let size : next - (at + 3) ≡ length value = omega (arith, w.reached) in
      record {
        stored =
            c.stored
            ∙ ap (λ (n : ℕ). sets middle (at + 1) (digits 2 n)) size
            ∙ ap (λ (m : List ℕ). sets m (at + 1) (digits 2 (length value))) w.stored
            ∙ ap (λ (i : ℕ). sets (sets before at (opened tag ++ value)) i (digits 2 (length value))) (add-one at)
            ∙ stored_again (set before at tag) (suc at) 0 0 (length value / 256 % 256) (length value / 1 % 256) value;
        reached = c.reached ∙ w.reached;
      }

  pub closing_room : Room before at (opened tag ++ value) → (at + 3 ≤ next) × (next ≤ length middle)
  closing_room room = (omega (arith, w.reached), omega (arith, w.reached, same_size w))

pub field_room : (before : List ℕ) (at tag : ℕ) (value : List ℕ) → Room before at (field tag value) → Room before at (opened tag ++ value)
unfolding digits
field_room before at tag value room = room

-- a field's value in three parts, as each field of a sheet has it
module _ (before : List ℕ) (at tag : ℕ) (xs ys zs : List ℕ) (room : Room before at (opened tag ++ (xs ++ ys ++ zs))) where
  pub opening_room : Room before at (opened tag)
  opening_room = room_first before at (opened tag) (xs ++ ys ++ zs) room

  module _ {a : List ℕ} {i : ℕ} (w : Written before at (opened tag) a i) where
    pub first_room : Room a i xs
    first_room = room_first a i xs ys (room_first a i (xs ++ ys) zs (room_then w (xs ++ ys ++ zs) room))

    module _ {b : List ℕ} {j : ℕ} (x : Written a i xs b j) where
      pub second_room : Room b j ys
      second_room = room_then x ys (room_first a i (xs ++ ys) zs (room_then w (xs ++ ys ++ zs) room))

      module _ {c : List ℕ} {k : ℕ} (y : Written b j ys c k) where
        pub third_room : Room c k zs
        third_room = room_then (then x y) zs (room_then w (xs ++ ys ++ zs) room)

        pub three_written : {d : List ℕ} {l : ℕ} → Written c k zs d l → Written before at (opened tag ++ (xs ++ ys ++ zs)) d l
        three_written z = then w (then (then x y) z)
