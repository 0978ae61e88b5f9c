-- The node of a name or an operand: what is found in the array is what the system says.
use Prim.Native.Nat.{ℕ, zero, suc, ◌+◌, ◌-◌, ◌≤◌, ◌<◌}
use native.Mathlib.Omega.{arith}
use mathlib.Core.Path.{◌≡◌, refl, ap, sym, ◌∙◌}
use mathlib.Core.Bool.{Bool, true, false, cond}
use mathlib.Core.List.{List}
use lib.ListN.{length, get_or, drop, drop_of_length-le}
use lib.Seq.{drop-cons}
use borrow.Author.Tests.{lt-ltb, le-ltb}
use Rattle.grammar.specs.paper.Text.{most_text, word_at, same_word}
use Rattle.grammar.specs.paper.Grammar.{System}
use Rattle.grammar.specs.paper.Gates.{Definition, nodes_of, node_among, node_at}
use Rattle.naming.specs.Stored.{Stored, place_in, node_in, node_from, node_named, operand_node}
use Rattle.naming.proofs.Pairs.{no_definition, defined_size, place_stored, node_stored}

-- An operand

module _ (node : ℕ → ℕ) (inputs : ℕ) {operand : ℕ} where
  pub operand_named : operand < most_text → operand_node node inputs operand ≡ node operand
  unfolding operand_node
  operand_named low = ap (λ (t : Bool). cond t (node operand) (inputs + (operand - most_text))) (lt-ltb operand most_text low)

  pub operand_numbered : most_text ≤ operand → operand_node node inputs operand ≡ inputs + (operand - most_text)
  unfolding operand_node
  operand_numbered high = ap (λ (t : Bool). cond t (node operand) (inputs + (operand - most_text))) (le-ltb operand most_text high)

-- One name at a time

pub node_none : (s names : List ℕ) (i left : ℕ) (w : List ℕ) → left ≡ 0 → node_from s names i left w ≡ 0
unfolding node_from
node_none s names i zero w e = refl
node_none s names i (suc left) w e = absurd (omega arith)

node_first : (s names : List ℕ) (i left : ℕ) (w : List ℕ) → 0 < left → node_from s names i left w ≡
    cond (same_word (word_at s (place_in names i)) w) (node_in names i) (node_from s names (suc i) (left - 1) w)
unfolding node_from
node_first s names i zero w some = absurd (omega arith)
node_first s names i (suc left) w some =
    let e : left ≡ suc left - 1 = omega arith in
    ap (λ (n : ℕ). cond (same_word (word_at s (place_in names i)) w) (node_in names i) (node_from s names (suc i) n w)) e

module _ (s names : List ℕ) (i left : ℕ) (w : List ℕ) (some : 0 < left) where
  pub node_found : same_word (word_at s (place_in names i)) w ≡ true → node_from s names i left w ≡ node_in names i
  node_found e =
      node_first s names i left w some ∙ ap (λ (t : Bool). cond t (node_in names i) (node_from s names (suc i) (left - 1) w)) e

  pub node_later : same_word (word_at s (place_in names i)) w ≡ false → node_from s names i left w ≡ node_from s names (i + 1) (left - 1) w
  node_later e =
      let next : suc i ≡ i + 1 = omega arith in
      node_first s names i left w some ∙ ap (λ (t : Bool). cond t (node_in names i) (node_from s names (suc i) (left - 1) w)) e
      ∙ ap (λ (k : ℕ). node_from s names k (left - 1) w) next

-- In the array as in the system

module _ {s : List ℕ} {sys : System} {made defined outs : ℕ} {gates names : List ℕ} (stored : Stored s sys made defined outs gates names) where
  node_from_lem : (w : List ℕ) (left i : ℕ) → i + left ≡ defined → node_from s names i left w ≡ node_among s (drop i (nodes_of sys)) w
  unfolding node_from node_among
  node_from_lem w zero i all =
      let end : length (nodes_of sys) ≤ i = omega (arith, defined_size stored) in
      sym (ap (λ (ds : List Definition). node_among s ds w) (drop_of_length-le (nodes_of sys) {i = i} end))
  node_from_lem w (suc left) i all =
      let ds = nodes_of sys in
      let low : i < defined = omega arith in
      let inside : i < length ds = omega (arith, defined_size stored) in
      let d = get_or ds i no_definition in
      ap (λ (p : ℕ). cond (same_word (word_at s p) w) (node_in names i) (node_from s names (suc i) left w)) (place_stored stored i low)
      ∙ ap (λ (n : ℕ). cond (same_word (word_at s d.place) w) n (node_from s names (suc i) left w)) (node_stored stored i low)
      ∙ ap (λ (n : ℕ). cond (same_word (word_at s d.place) w) d.node n) (node_from_lem w left (suc i) (omega arith))
      ∙ sym (ap (λ (l : List Definition). node_among s l w) (drop-cons ds i no_definition inside))

  pub node_named_lem : (p : ℕ) → node_named s names defined p ≡ node_at s sys p
  node_named_lem p = node_from_lem (word_at s p) defined 0 (omega arith)
