-- Bytes put one run after the other are one run, and what is left to put after some of it is what the loops keep.
use Prim.Native.Nat.{ℕ, suc, ◌+◌, ◌<◌, ◌≤◌}
use mathlib.Core.Path.{◌≡◌, refl, ap, sym, ◌∙◌}
use mathlib.Core.List.{List, [], ◌∷◌, ◌++◌}
use native.Mathlib.Nat.{add-zero, suc-add, add-suc}
use native.Mathlib.Numerals.{add-one}
use native.Mathlib.Omega.{arith}
use lib.ListN.{length, get_or, set, drop, length-append}
use lib.Seq.{sets, sets-eq, set_comm, drop-cons}
use Rattle.storage.proofs.Stores.{sets_append}
use Rattle.wording.specs.paper.Puts.{Wrote}
use Rattle.wording.specs.declared.words.Pen.{Pen}
use Rattle.wording.specs.Puts.{Room, Put}

-- a store behind a run can come before it
pub sets_before : (l : List ℕ) (i : ℕ) (xs : List ℕ) (b : ℕ) → sets (set l (i + length xs) b) i xs ≡ sets l i (xs ++ (b ∷ []))
sets_before l i [] b = ap (λ (j : ℕ). set l j b) (add-zero i)
sets_before l i (a ∷ xs) b =
    ap (λ (t : List ℕ). sets t (suc i) xs) (set_comm l (i + suc (length xs)) i b a (λ e. omega arith))
    ∙ ap (λ (j : ℕ). sets (set (set l i a) j b) (suc i) xs) (add-suc i (length xs) ∙ sym (suc-add i (length xs)))
    ∙ sets_before (set l i a) (suc i) xs b

module _ {p q : Pen} {xs : List ℕ} (put : Put p xs q) where
  pub put_then : {r : Pen} {ys : List ℕ} → Put q ys r → Put p (xs ++ ys) r
  put_then {r} {ys} more =
      record {
        lent = more.lent ∙ put.lent;
        size = more.size ∙ put.size;
        next = omega (arith, put.next, more.next, length-append xs ys);
        stored =
            more.stored
            ∙ ap (λ (l : List ℕ). sets l q.at ys) put.stored
            ∙ ap (λ (j : ℕ). sets (sets p.text.now p.at xs) j ys) put.next
            ∙ sets_append p.text.now p.at xs ys;
      }

pub put_none : (p : Pen) → Put p [] p
put_none p = record { lent = refl; size = refl; next = sym (add-zero p.at); stored = refl }

-- the rest of a list begins with its next element
pub rest_more : (l : List ℕ) (i : ℕ) → i < length l → drop i l ≡ get_or l i 0 ∷ drop (i + 1) l
rest_more l i h = rw (add-one, drop-cons l i 0)

-- What a pen wrote that began at the front of a text: the text ends as what is behind the pen, which still has the same reference.
pub put_wrote : {p q : Pen} {xs text : List ℕ} → p.at ≡ 0 → length xs ≤ length p.text.now → Put p xs q →
    (p.text.ghost_name ≡ q.text.ghost_name → text ≡ q.text.now) → Wrote p.text.now xs q.at text
put_wrote {p} {q} {xs} front fits put ends =
    let t = p.text.now in
    let none : p.at + length xs ≡ length xs = omega arith in
    record {
      size = put.next ∙ none;
      text =
          ends (sym put.lent) ∙ put.stored ∙ ap (λ (j : ℕ). sets t j xs) front ∙ sets-eq xs t 0 (omega arith)
          ∙ ap (λ (j : ℕ). xs ++ drop j t) (omega arith);
    }

-- What a loop keeps: putting the rest from here gives what putting all from the start gives.
pub record Left (p₀ : Pen) (all : List ℕ) (p : Pen) (rest : List ℕ) : Type 0 where
  pub lent : p.text.ghost_name ≡ p₀.text.ghost_name
  pub size : length p.text.now ≡ length p₀.text.now
  pub fits : Room p rest
  pub place : p₀.at + length all ≡ p.at + length rest
  pub same : sets p₀.text.now p₀.at all ≡ sets p.text.now p.at rest

module _ {p₀ : Pen} {all : List ℕ} {p : Pen} {rest : List ℕ} (left : Left p₀ all p rest) where
  pub left_room : (xs more : List ℕ) → rest ≡ xs ++ more → Room p xs
  left_room xs more e = omega (arith, left.fits, ap length e, length-append xs more)

  pub left_turn : (xs more : List ℕ) {q : Pen} → rest ≡ xs ++ more → Put p xs q → Left p₀ all q more
  left_turn xs more {q} e put =
      let long = ap length e in
      let parts = length-append xs more in
      record {
        lent = put.lent ∙ left.lent;
        size = put.size ∙ left.size;
        fits = omega (arith, left.fits, put.size, put.next);
        place = omega (arith, left.place, put.next);
        same =
            left.same
            ∙ ap (sets p.text.now p.at) e
            ∙ sym (sets_append p.text.now p.at xs more)
            ∙ ap (λ (l : List ℕ). sets l (p.at + length xs) more) (sym put.stored)
            ∙ ap (λ (j : ℕ). sets q.text.now j more) (sym put.next);
      }

  pub left_end : rest ≡ [] → Put p₀ all p
  left_end e =
      let long = ap length e in
      record { lent = left.lent; size = left.size; next = omega (arith, left.place); stored = sym (left.same ∙ ap (sets p.text.now p.at) e) }
