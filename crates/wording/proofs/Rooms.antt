-- How long the text can be: a number of so many bits has at most so many digits, so each line has its longest, and the lines add up.
use Prim.Native.Nat.{ℕ, suc, ◌+◌, ◌*◌, ◌-◌, ◌^◌, ◌<◌, ◌≤◌}
use mathlib.Core.Path.{◌≡◌, refl, ap, sym, ◌∙◌}
use mathlib.Core.Bool.{Bool, true, false, cond}
use mathlib.Core.List.{List, [], ◌∷◌, ◌++◌}
use native.Mathlib.Nat.{mul-suc}
use native.Mathlib.Omega.{arith}
use borrow.Author.Tests.{eqb-true}
use lib.Dec.{eqb}
use lib.ListN.{length, get_or, take, drop, length-append, length-take}
use lib.Seq.{get_or-take, get_or-drop}
use Rattle.wording.specs.paper.Text.{bytes, decimal, numbered, each, leaf_text, head_line, lut_line, output_line, refused_line, accepted_line}
use Rattle.storage.specs.Lists.{size_at}
use Rattle.wording.specs.paper.Rooms.{room}
use Rattle.wording.specs.Arrays.{Arrays, lut_at, output_at, lut_text, output_text, marked_from, Held}
use Rattle.wording.proofs.Numbers.{places_most, decimal_size, hex16_size}

-- a word with a number of at most k digits
named_most : (word : List ℕ) (k n : ℕ) → n < 10 ^ suc k → length (numbered word n) ≤ length word + suc k
unfolding numbered
named_most word k n h = omega (arith, length-append word (decimal n), decimal_size n, places_most k n h)

pub refused_room : (number place : ℕ) → number < 2 ^ 64 → place < 2 ^ 64 → length (refused_line number place) ≤ 53
unfolding refused_line
refused_room number place few near =
    simp length-append
    (omega (arith, named_most (bytes "refused ") 19 number (omega arith), named_most (bytes " at ") 19 place (omega arith)))

pub accepted_room_lem : (depth : ℕ) → depth < 65536 → length (accepted_line depth) ≤ 21
unfolding accepted_line
accepted_room_lem depth small = simp length-append (omega (arith, named_most (bytes "accepted depth ") 4 depth (omega arith)))

-- so many lines of at most so many bytes
each_long :
    (print : ℕ → List ℕ) (most : ℕ) (l : List ℕ) → ((i : ℕ) → i < length l → length (print (get_or l i 0)) ≤ most) →
    length (each print l) ≤ most * length l
unfolding each
each_long print most [] short = omega arith
each_long print most (v ∷ l) short =
    let rest = each_long print most l (λ i h. short (suc i) (omega arith)) in
    let first = short 0 (omega arith) in
    omega (arith, length-append (print v) (each print l), mul-suc most (length l))

marks_long :
    (print : ℕ → List ℕ) (most : ℕ) (marks : List ℕ) (v : ℕ) →
    ((i u : ℕ) → u ≡ v + i → i < length marks → get_or marks i 0 ≡ 1 → length (print u) ≤ most) →
    length (each print (marked_from v marks)) ≤ most * length marks
unfolding each marked_from
marks_long print most [] v short = omega arith
marks_long print most (m ∷ marks) v short =
    by_mark (eqb m 1) refl
    (marks_long print most marks (suc v) (λ i u e h one. short (suc i) u (omega arith) (omega arith) one))
    (short 0 v (omega arith) (omega arith))
  where
    by_mark :
        (root : Bool) → eqb m 1 ≡ root → length (each print (marked_from (suc v) marks)) ≤ most * length marks → (m ≡ 1 → length (print v) ≤ most) →
        length (each print (cond root (v ∷ []) [] ++ marked_from (suc v) marks)) ≤ most * suc (length marks)
    by_mark true e rest first =
        omega (arith, first (eqb-true m 1 e), length-append (print v) (each print (marked_from (suc v) marks)), mul-suc most (length marks))
    by_mark false e rest first = omega (arith, mul-suc most (length marks))

head_room_lem :
    (k inputs gates luts depth : ℕ) → k < 256 → inputs < 2 ^ 64 → gates < 2 ^ 64 → luts < 2 ^ 64 → depth < 65536 →
    length (head_line k inputs gates luts depth) ≤ 99
unfolding head_line
head_room_lem k inputs gates luts depth hk hi hg hl hd =
    simp length-append
    (omega (
      arith,
      named_most (bytes "K ") 2 k (omega arith),
      named_most (bytes " inputs ") 19 inputs (omega arith),
      named_most (bytes " gates ") 19 gates (omega arith),
      named_most (bytes " luts ") 19 luts (omega arith),
      named_most (bytes " depth ") 4 depth (omega arith),
    ))

-- The entries of the arrays fit 16 bits.
pub record Small (a : Arrays) : Type 0 where
  pub labels : (i : ℕ) → get_or a.labels i 0 < 65536
  pub cuts : (i : ℕ) → get_or a.cuts i 0 < 65536
  pub outputs : (i : ℕ) → get_or a.outputs i 0 < 65536

leaf_room : (v : ℕ) → v < 65536 → length (leaf_text v) ≤ 6
unfolding leaf_text
leaf_room v h = named_most (bytes " ") 4 v (omega arith)

module _ (a : Arrays) (small : Small a) where
  leaves_room : (first size : ℕ) → size ≤ 6 → length (each leaf_text (take size (drop first a.cuts))) ≤ 36
  leaves_room first size six =
      let long : length (take size (drop first a.cuts)) ≤ size = simp length-take (omega arith) in
      let part : (i : ℕ) → i < length (take size (drop first a.cuts)) → length (leaf_text (get_or (take size (drop first a.cuts)) i 0)) ≤ 6
      = λ i h. rw (get_or-take size (drop first a.cuts) i 0 (omega arith), get_or-drop) (leaf_room (get_or a.cuts (first + i) 0) (small.cuts (first + i))) in
      omega (arith, each_long leaf_text 6 (take size (drop first a.cuts)) part)

  lut_room_lem : (v : ℕ) → v < 65536 → size_at a.cuts v ≤ 6 → length (lut_text a.labels a.cuts a.tables v) ≤ 88
  unfolding lut_text lut_at lut_line
  lut_room_lem v h six =
      simp length-append
      (omega (
        arith,
        named_most (bytes "lut ") 4 v (omega arith),
        named_most (bytes " depth ") 4 (get_or a.labels v 0) (omega (arith, small.labels v)),
        leaves_room (7 * v + 1) (size_at a.cuts v) six,
        hex16_size (get_or a.tables v 0),
      ))

  output_room_lem : (v : ℕ) → v < 65536 → length (output_text a.labels v) ≤ 25
  unfolding output_text output_at output_line
  output_room_lem v h =
      simp length-append
      (omega (arith, named_most (bytes "output ") 4 v (omega arith), named_most (bytes " depth ") 4 (get_or a.labels v 0) (omega (arith, small.labels v))))

  luts_room : (nodes : ℕ) → nodes ≤ 32767 → ((v : ℕ) → v < nodes → get_or a.luts v 0 ≡ 1 → size_at a.cuts v ≤ 6) →
      length (each (lut_text a.labels a.cuts a.tables) (marked_from 0 (take nodes a.luts))) ≤ 88 * nodes
  luts_room nodes ids six =
      let long : length (take nodes a.luts) ≤ nodes = simp length-take (omega arith) in
      omega (
        arith,
        marks_long (lut_text a.labels a.cuts a.tables) 88 (take nodes a.luts) 0
            (λ i v e h one. lut_room_lem v (omega arith) (six v (omega arith) (ap (λ (u : ℕ). get_or a.luts u 0) (omega arith) ∙ sym (get_or-take nodes a.luts i 0 (omega arith)) ∙ one))),
      )

  outputs_room : (number : ℕ) → length (each (output_text a.labels) (take number a.outputs)) ≤ 25 * number
  outputs_room number =
      let long : length (take number a.outputs) ≤ number = simp length-take (omega arith) in
      let part : (i : ℕ) → i < length (take number a.outputs) → length (output_text a.labels (get_or (take number a.outputs) i 0)) ≤ 25
      = λ i h. rw (get_or-take number a.outputs i 0 (omega arith)) (output_room_lem (get_or a.outputs i 0) (small.outputs i)) in
      omega (arith, each_long (output_text a.labels) 25 (take number a.outputs) part)

  -- the text of a listing fits its room
  pub listing_room :
      (k inputs nodes number luts depth : ℕ) → Held inputs nodes a number → k < 256 → luts < 2 ^ 64 → depth < 65536 →
      length
      (head_line k inputs (nodes - inputs) luts depth
      ++ each (lut_text a.labels a.cuts a.tables) (marked_from 0 (take nodes a.luts))
      ++ each (output_text a.labels) (take number a.outputs))
      ≤ room nodes number
  listing_room k inputs nodes number luts depth held few count shallow =
      simp length-append
      (omega (
        arith,
        head_room_lem k inputs (nodes - inputs) luts depth few (omega arith) (omega arith) count shallow,
        luts_room nodes held.small held.six,
        outputs_room number,
      ))
