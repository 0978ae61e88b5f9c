-- The gates of a tree in the array: three places each, a tree's behind those of its operands.
use Prim.Native.Nat.{ℕ, zero, suc, ◌+◌, ◌*◌, ◌≤◌}
use native.Mathlib.Numerals.{add-one}
use native.Mathlib.Omega.{arith}
use mathlib.Core.Path.{◌≡◌, refl, sym, ap, subst, ◌∙◌}
use mathlib.Core.List.{List, [], ◌∷◌, ◌++◌}
use lib.ListN.{length, take, set}
use lib.Seq.{sets, take-set-le, length-sets}
use Rattle.storage.proofs.Stores.{sets_append}
use Rattle.grammar.specs.paper.Text.{most_text}
use Rattle.grammar.specs.paper.Grammar.{Tree}
use Rattle.grammar.specs.paper.Gates.{size_of, not_table}
use Rattle.grammar.specs.Stored.{operand_of, triple, triples}
use Rattle.grammar.proofs.Stored.{triples_size}
use Rattle.scanning.specs.declared.expressions.Piece.{Piece}
use Rattle.scanning.specs.Reading.{Holds, Joined, Negated, nots}

-- what is stored behind what was stored
pub stored_more : (from : List ℕ) {before after : List ℕ} (i j : ℕ) (xs ys : List ℕ) → before ≡ sets from i xs → j ≡ i + length xs → after ≡ sets before j ys →
    after ≡ sets from i (xs ++ ys)
stored_more from i j xs ys first place more =
    more ∙ ap (λ (l : List ℕ). sets l j ys) first ∙ ap (λ (k : ℕ). sets (sets from i xs) k ys) place ∙ sets_append from i xs ys

-- what lies before is kept, and nothing grows
pub front_kept : (n : ℕ) (l : List ℕ) (i : ℕ) (vs : List ℕ) → n ≤ i → take n (sets l i vs) ≡ take n l
front_kept n l i [] low = refl
front_kept n l i (v ∷ vs) low = front_kept n (set l i v) (suc i) vs (omega arith) ∙ take-set-le n l i v low

module _ {from after : List ℕ} {made : ℕ} {e : Tree} {r : Piece} (h : Holds from made e after r) where
  pub held_size : length after ≡ length from
  held_size = ap length h.stored ∙ length-sets from (3 * made) (triples made e)

  pub held_front : take (3 * made) after ≡ take (3 * made) from
  held_front = ap (take (3 * made)) h.stored ∙ front_kept (3 * made) from (3 * made) (triples made e) (omega arith)

-- a name has no gates
pub holds_name : (gates : List ℕ) (made : ℕ) (piece : Piece) (p : ℕ) → piece.operand ≡ p → piece.made ≡ made → Holds gates made (Tree.name p) gates piece
unfolding size_of operand_of triples
holds_name gates made piece p operand count = record { stored = refl; operand = operand; count = omega arith }

-- the gate of a sign `!`
pub holds_not : {from before after : List ℕ} {made : ℕ} {e : Tree} {piece r : Piece} → Holds from made e before piece →
    Joined not_table piece.operand piece before after r → Holds from made (Tree.not e) after r
unfolding size_of operand_of triples
holds_not {from} {before} {after} {made} {e} {piece} {r} h j =
    let gate : List ℕ = triple not_table (operand_of made e) (operand_of made e) in
    let same : after ≡ sets before (3 * piece.made) gate =
    j.stored ∙ ap (λ (x : ℕ). sets before (3 * piece.made) (triple not_table x x)) h.operand in
    record {
      stored = stored_more from (3 * made) (3 * piece.made) (triples made e) gate h.stored (omega (arith, triples_size made e, h.count)) same;
      operand = j.operand ∙ ap (λ (x : ℕ). most_text + x) h.count;
      count = omega (arith, j.made, h.count);
    }

pub nots_inner : (k : ℕ) (e : Tree) → nots k (Tree.not e) ≡ Tree.not (nots k e)
unfolding nots
nots_inner zero e = refl
nots_inner (suc k) e = ap Tree.not (nots_inner k e)

pub nots_one : (k : ℕ) (e : Tree) → nots (k + 1) e ≡ Tree.not (nots k e)
unfolding nots
nots_one k e = ap (λ (m : ℕ). nots m e) (add-one k)

pub nots_size : (k : ℕ) (e : Tree) → size_of (nots k e) ≡ k + size_of e
unfolding nots size_of
nots_size zero e = omega arith
nots_size (suc k) e = omega (arith, nots_size k e)

-- one sign more
pub negated_none : (gates : List ℕ) (piece : Piece) → Negated 0 piece gates gates piece
unfolding nots
negated_none gates piece = record { next = refl; holds = λ from made e h. h }

pub negated_more : {i : ℕ} {piece last r : Piece} {before middle after : List ℕ} → Negated i piece before middle last →
    Joined not_table last.operand last middle after r → Negated (i + 1) piece before after r
negated_more {i} {r = r} {after = after} n j =
    record {
      next = j.next ∙ n.next;
      holds = λ from made e h. subst (λ (f : Tree). Holds from made f after r) (sym (nots_one i e)) (holds_not (n.holds from made e h) j);
    }
