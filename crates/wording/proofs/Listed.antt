-- What is left to print of a list, or of marks, is what is printed of the next one, and then what is left behind it.
use Prim.Native.Nat.{ℕ, ◌+◌, ◌*◌, ◌-◌, ◌≤◌, ◌<◌}
use mathlib.Core.Path.{◌≡◌, refl, ap, sym, ◌∙◌}
use mathlib.Core.List.{List, [], ◌∷◌, ◌++◌, map, append-nil, append_assoc}
use native.Mathlib.Numerals.{add-one}
use native.Mathlib.Omega.{arith}
use borrow.Author.Tests.{eq-eqb, ne_eqb}
use lib.ListN.{length, get_or, take, drop, drop_of_length-le}
use Rattle.wording.specs.paper.Text.{each, head_line, lut_line, output_line, listing_of}
use Rattle.wording.specs.declared.words.Pen.{Pen}
use Rattle.wording.specs.Puts.{Room, Put}
use Rattle.storage.specs.Lists.{size_at}
use Rattle.wording.specs.Arrays.{Arrays, lut_at, output_at, luts_in, outputs_in, mapping_in, lut_text, output_text, marked, marked_from}
use Rattle.wording.proofs.Puts.{rest_more, Left, left_room, left_turn, left_end}

each_append : (print : ℕ → List ℕ) (xs ys : List ℕ) → each print (xs ++ ys) ≡ each print xs ++ each print ys
unfolding each
each_append print [] ys = refl
each_append print (x ∷ xs) ys = ap (λ (l : List ℕ). print x ++ l) (each_append print xs ys) ∙ sym (append_assoc (print x) (each print xs) (each print ys))

-- what is printed of values made from ids is printed of the ids
pub each_map : {A : Type 0} (print : A → List ℕ) (make : ℕ → A) (l : List ℕ) → each print (map make l) ≡ each (λ v. print (make v)) l
unfolding each
each_map print make [] = refl
each_map print make (v ∷ l) = ap (λ (t : List ℕ). print (make v) ++ t) (each_map print make l)

-- Of a list, from its i-th element on.
module _ (print : ℕ → List ℕ) (l : List ℕ) {p₀ : Pen} {all : List ℕ} {p : Pen} {i : ℕ} (left : Left p₀ all p (each print (drop i l))) where
  module _ (more : i < length l) {v : ℕ} (next : get_or l i 0 ≡ v) where
    each_more : each print (drop i l) ≡ print v ++ each print (drop (i + 1) l)
    unfolding each
    each_more = ap (each print) (rest_more l i more) ∙ ap (λ (u : ℕ). print u ++ each print (drop (i + 1) l)) next

    pub each_room : Room p (print v)
    each_room = left_room left (print v) (each print (drop (i + 1) l)) each_more

    pub each_turn : {q : Pen} → Put p (print v) q → Left p₀ all q (each print (drop (i + 1) l))
    each_turn put = left_turn left (print v) (each print (drop (i + 1) l)) each_more put

  pub each_end : length l ≤ i → Put p₀ all p
  unfolding each
  each_end h = left_end left (ap (each print) (drop_of_length-le l h))

pub marked_root : (print : ℕ → List ℕ) (v mark : ℕ) → mark ≡ 1 → each print (marked v mark) ≡ print v
unfolding each
marked_root print v mark e = rw (eq-eqb mark 1 e) (append-nil (print v))

pub marked_other : (print : ℕ → List ℕ) (v mark : ℕ) → (mark ≡ 1 → ⊥) → each print (marked v mark) ≡ []
unfolding each
marked_other print v mark e = rw (ne_eqb mark 1 e)

-- Of marks, from node v on.
module _ (print : ℕ → List ℕ) (marks : List ℕ) {p₀ : Pen} {all : List ℕ} {p : Pen} {v : ℕ}
    (left : Left p₀ all p (each print (marked_from v (drop v marks)))) where
  module _ (more : v < length marks) where
    marks_more : each print (marked_from v (drop v marks)) ≡ each print (marked v (get_or marks v 0)) ++ each print (marked_from (v + 1) (drop (v + 1) marks))
    unfolding marked_from
    marks_more =
        ap (λ (l : List ℕ). each print (marked_from v l)) (rest_more marks v more)
        ∙ ap (λ (u : ℕ). each print (marked v (get_or marks v 0) ++ marked_from u (drop (v + 1) marks))) (sym (add-one v))
        ∙ each_append print (marked v (get_or marks v 0)) (marked_from (v + 1) (drop (v + 1) marks))

    pub marks_room : Room p (each print (marked v (get_or marks v 0)))
    marks_room =
        left_room left (each print (marked v (get_or marks v 0))) (each print (marked_from (v + 1) (drop (v + 1) marks))) marks_more

    pub marks_turn : {q : Pen} → Put p (each print (marked v (get_or marks v 0))) q → Left p₀ all q (each print (marked_from (v + 1) (drop (v + 1) marks)))
    marks_turn put = left_turn left _ _ marks_more put

  pub marks_end : length marks ≤ v → Put p₀ all p
  unfolding each marked_from
  marks_end h = left_end left (ap (λ (l : List ℕ). each print (marked_from v l)) (drop_of_length-le marks h))

-- the label and the size as they were read, and the leaves as the part of the array that is lent
pub lut_part :
    (labels cuts tables : List ℕ) (v : ℕ) {depth size : ℕ} → depth ≡ get_or labels v 0 → size ≡ size_at cuts v →
    lut_text labels cuts tables v
    ≡ lut_line (record { root = v; depth = depth; leaves = take ((7 * v + 1 + size) - (7 * v + 1)) (drop (7 * v + 1) cuts); table = get_or tables v 0 })
unfolding lut_text lut_at
lut_part labels cuts tables v {depth} {size} deep many =
    let whole : size_at cuts v ≡ (7 * v + 1 + size) - (7 * v + 1) = omega arith in
    ap (λ (n : ℕ). lut_line (record { root = v; depth = get_or labels v 0; leaves = take n (drop (7 * v + 1) cuts); table = get_or tables v 0 })) whole
    ∙ ap
    (λ (d : ℕ).
    lut_line (record { root = v; depth = d; leaves = take ((7 * v + 1 + size) - (7 * v + 1)) (drop (7 * v + 1) cuts); table = get_or tables v 0 }))
    (sym deep)

pub output_part : (labels : List ℕ) (v : ℕ) {depth : ℕ} → depth ≡ get_or labels v 0 → output_text labels v ≡ output_line (record { node = v; depth = depth })
unfolding output_text output_at
output_part labels v deep = ap (λ (d : ℕ). output_line (record { node = v; depth = d })) (sym deep)

-- a listing's text from arrays: the head, the roots' lines and the outputs' lines
pub listing_parts :
    (k inputs nodes : ℕ) (a : Arrays) (number depth : ℕ) {luts : ℕ} → luts ≡ length (luts_in a nodes) →
    listing_of (mapping_in k inputs nodes a number depth)
    ≡ head_line k inputs (nodes - inputs) luts depth
    ++ each (lut_text a.labels a.cuts a.tables) (marked_from 0 (take nodes a.luts))
    ++ each (output_text a.labels) (take number a.outputs)
unfolding listing_of lut_text output_text
listing_parts k inputs nodes a number depth {luts} count =
    ap (λ (n : ℕ). head_line k inputs (nodes - inputs) n depth ++ each lut_line (luts_in a nodes) ++ each output_line (outputs_in a number)) (sym count)
    ∙ ap (λ (t : List ℕ). head_line k inputs (nodes - inputs) luts depth ++ t ++ each output_line (outputs_in a number))
    (each_map lut_line (lut_at a.labels a.cuts a.tables) (marked_from 0 (take nodes a.luts)))
    ∙ ap (λ (t : List ℕ). head_line k inputs (nodes - inputs) luts depth ++ each (lut_text a.labels a.cuts a.tables) (marked_from 0 (take nodes a.luts)) ++ t)
    (each_map output_line (output_at a.labels) (take number a.outputs))
