-- The lines of the table: each three of the array is one, in order. So a writer that goes through the array gate by gate and output by output has
-- the table of the text.
use Prim.Native.Nat.{ℕ, ◌+◌, ◌≤◌, ◌<◌}
use native.Mathlib.Omega.{arith}
use mathlib.Core.Path.{◌≡◌, refl, ap, sym, ◌∙◌}
use mathlib.Core.Bool.{Bool, cond}
use mathlib.Core.Logic.{inl, inr}
use mathlib.Core.List.Memᴰ
use mathlib.Core.List.{List, [], ◌∷◌, ◌++◌, map, map-append, flat_map}
use lib.ListN.{length, get_or, length-map}
use borrow.Author.Tests.{lt-ltb, le-ltb}
use Rattle.drawing.specs.paper.Table.{GateLine, Table, no_gate}
use Rattle.grammar.specs.paper.Text.{most_text}
use Rattle.grammar.specs.paper.Grammar.{Tree, Equation, System}
use Rattle.grammar.specs.paper.Names.{names_in, used_by}
use Rattle.grammar.specs.paper.Gates.{size_of, root_of, gate, gates_of, equation_gates, equation_size, all_gates, node_at, table_for, not_table, pass_table, and_table, or_table}
use Rattle.grammar.specs.Stored.{operand_of}
use Rattle.grammar.proofs.Entries.{mapped_at}
use Rattle.naming.specs.Stored.{Stored, place_in, node_named, operand_node}
use Rattle.naming.specs.Lines.{Three, three, three_in, fanins_of, line_of}
use Rattle.naming.proofs.Threes.{threes_of, equation_threes, all_threes, no_three}
use Rattle.naming.proofs.Pairs.{output_stored}
use Rattle.naming.proofs.Uses.{NamesLow, low_first, low_second, all_low}
use Rattle.naming.proofs.Misnames.{threes, threes_long, three_stored, gate_held}
use Rattle.naming.proofs.NodesNamed.{node_named_lem, operand_named, operand_numbered}

-- A three's fanins

module _ (node : ℕ → ℕ) (inputs : ℕ) (t : Three) where
  abbrev node_left : ℕ
  node_left = operand_node node inputs t.left

  abbrev node_right : ℕ
  node_right = operand_node node inputs t.right

  pub fanins_one : t.table < 4 → fanins_of node inputs t ≡ node_left ∷ []
  unfolding fanins_of
  fanins_one few = ap (λ (b : Bool). cond b (node_left ∷ []) (node_left ∷ node_right ∷ [])) (lt-ltb t.table 4 few)

  pub fanins_two : 4 ≤ t.table → fanins_of node inputs t ≡ node_left ∷ node_right ∷ []
  unfolding fanins_of
  fanins_two many = ap (λ (b : Bool). cond b (node_left ∷ []) (node_left ∷ node_right ∷ [])) (le-ltb t.table 4 many)

-- The lines of expressions, of equations and of all

module _ (node : ℕ → ℕ) (inputs : ℕ) where
  abbrev line : Three → GateLine
  line = line_of node inputs

  operand_root : (made n : ℕ) (e : Tree) → n ≡ inputs + made → NamesLow (names_in e) → operand_node node inputs (operand_of made e) ≡ root_of node n e
  unfolding operand_of root_of names_in
  operand_root made n (Tree.name p) from low = operand_named node inputs (low p (Memᴰ.head refl))
  operand_root made n (Tree.not e) from low = operand_numbered node inputs (omega arith) ∙ omega arith
  operand_root made n (Tree.and e f) from low = operand_numbered node inputs (omega arith) ∙ omega arith
  operand_root made n (Tree.or e f) from low = operand_numbered node inputs (omega arith) ∙ omega arith

  one_more : (a : List Three) (t : Three) {x : List GateLine} {g : GateLine} → map line a ≡ x → line t ≡ g → map line (a ++ (t ∷ [])) ≡ x ++ (g ∷ [])
  one_more a t {x} {g} e f = map-append line a (t ∷ []) ∙ ap (λ (l : List GateLine). l ++ (line t ∷ [])) e ∙ ap (λ (h : GateLine). x ++ (h ∷ [])) f

  two_lists : (a b : List Three) {x y : List GateLine} → map line a ≡ x → map line b ≡ y → map line (a ++ b) ≡ x ++ y
  two_lists a b {x} e f = map-append line a b ∙ ap (λ (l : List GateLine). l ++ map line b) e ∙ ap (λ (l : List GateLine). x ++ l) f

  -- the line of an operator of one operand, and of one of two
  line_one : (table o x : ℕ) → table < 4 → operand_node node inputs o ≡ x → line (three table o o) ≡ gate (x ∷ []) table
  line_one table o x few e = ap (λ (l : List ℕ). gate l table) (fanins_one node inputs (three table o o) few ∙ ap (λ (v : ℕ). v ∷ []) e)

  line_two : (table o u x y : ℕ) → 4 ≤ table → operand_node node inputs o ≡ x → operand_node node inputs u ≡ y →
      line (three table o u) ≡ gate (x ∷ y ∷ []) table
  line_two table o u x y many e f =
      ap (λ (l : List ℕ). gate l table)
      (fanins_two node inputs (three table o u) many ∙ ap (λ (v : ℕ). v ∷ operand_node node inputs u ∷ []) e ∙ ap (λ (v : ℕ). x ∷ v ∷ []) f)

  two_more : (table : ℕ) (a b : List Three) (o u : ℕ) {x y : List GateLine} {v w : ℕ} → 4 ≤ table → map line a ≡ x → map line b ≡ y →
      operand_node node inputs o ≡ v → operand_node node inputs u ≡ w →
      map line (a ++ b ++ (three table o u ∷ [])) ≡ x ++ y ++ (gate (v ∷ w ∷ []) table ∷ [])
  two_more table a b o u {v = v} {w = w} many first second left right =
      one_more (a ++ b) (three table o u) (two_lists a b first second) (line_two table o u v w many left right)

  lines_of : (made n : ℕ) (e : Tree) → n ≡ inputs + made → NamesLow (names_in e) → map line (threes_of made e) ≡ gates_of node n e
  unfolding threes_of gates_of names_in
  lines_of made n (Tree.name p) from low = refl
  lines_of made n (Tree.not e) from low =
      one_more (threes_of made e) (three not_table (operand_of made e) (operand_of made e)) (lines_of made n e from low)
      (line_one not_table (operand_of made e) (root_of node n e) (omega arith) (operand_root made n e from low))
  lines_of made n (Tree.and e f) from low =
      let first : NamesLow (names_in e) = low_first (names_in f) low in
      let second : NamesLow (names_in f) = low_second (names_in e) low in
      let later : n + size_of e ≡ inputs + (made + size_of e) = omega arith in
      two_more and_table (threes_of made e) (threes_of (made + size_of e) f) (operand_of made e) (operand_of (made + size_of e) f) (omega arith)
      (lines_of made n e from first) (lines_of (made + size_of e) (n + size_of e) f later second) (operand_root made n e from first)
      (operand_root (made + size_of e) (n + size_of e) f later second)
  lines_of made n (Tree.or e f) from low =
      let first : NamesLow (names_in e) = low_first (names_in f) low in
      let second : NamesLow (names_in f) = low_second (names_in e) low in
      let later : n + size_of e ≡ inputs + (made + size_of e) = omega arith in
      two_more or_table (threes_of made e) (threes_of (made + size_of e) f) (operand_of made e) (operand_of (made + size_of e) f) (omega arith)
      (lines_of made n e from first) (lines_of (made + size_of e) (n + size_of e) f later second) (operand_root made n e from first)
      (operand_root (made + size_of e) (n + size_of e) f later second)

  equation_lines : (made n : ℕ) (e : Tree) → n ≡ inputs + made → NamesLow (names_in e) → map line (equation_threes made e) ≡ equation_gates node n e
  unfolding equation_threes equation_gates names_in
  equation_lines made n (Tree.name p) from low =
      ap (λ (g : GateLine). g ∷ []) (line_one pass_table p (node p) (omega arith) (operand_named node inputs (low p (Memᴰ.head refl))))
  equation_lines made n (Tree.not e) from low = lines_of made n (Tree.not e) from low
  equation_lines made n (Tree.and e f) from low = lines_of made n (Tree.and e f) from low
  equation_lines made n (Tree.or e f) from low = lines_of made n (Tree.or e f) from low

  pub all_lines : (made n : ℕ) (qs : List Equation) → n ≡ inputs + made → NamesLow (flat_map used_by qs) → map line (all_threes made qs) ≡ all_gates node n qs
  unfolding all_threes all_gates flat_map
  all_lines made n [] from low = refl
  all_lines made n (q ∷ qs) from low =
      let size = equation_size q.tree in
      two_lists (equation_threes made q.tree) (all_threes (made + size) qs)
      (equation_lines made n q.tree from (low_first (flat_map used_by qs) low))
      (all_lines (made + size) (n + size) qs (omega arith) (low_second (names_in q.tree) low))

-- One by one, from the arrays

-- two ways to find a name's node that agree
operand_same : {node other : ℕ → ℕ} → ((p : ℕ) → node p ≡ other p) → (inputs operand : ℕ) →
    operand_node node inputs operand ≡ operand_node other inputs operand
unfolding operand_node
operand_same same inputs operand = rw (same operand)

line_same : {node other : ℕ → ℕ} → ((p : ℕ) → node p ≡ other p) → (inputs : ℕ) (t : Three) → line_of node inputs t ≡ line_of other inputs t
unfolding fanins_of
line_same same inputs t = rw (operand_same same inputs t.left, operand_same same inputs t.right)

module _ {s : List ℕ} {sys : System} {made defined outs : ℕ} {gates names : List ℕ} (stored : Stored s sys made defined outs gates names) (k : ℕ) where
  abbrev table : Table
  table = table_for s k sys

  abbrev found : ℕ → ℕ
  found = node_named s names defined

  pub names_low : NamesLow (flat_map used_by sys.equations)
  names_low p m = omega (arith, stored.within p (Memᴰ.append_left sys.outputs m), stored.short)

  lines_are : map (line_of (node_at s sys) (length sys.inputs)) (threes stored) ≡ table.gates
  unfolding table_for
  lines_are = all_lines (node_at s sys) (length sys.inputs) 0 (length sys.inputs) sys.equations (omega arith) names_low

  -- as many gates as were stored
  pub lines_size : length table.gates ≡ made
  lines_size = sym (ap length lines_are) ∙ length-map (threes stored) _ ∙ threes_long stored

  pub outputs_size : length table.outputs ≡ outs
  unfolding table_for
  outputs_size = length-map sys.outputs (node_at s sys) ∙ sym stored.outs_said

  -- the j-th gate's line
  pub line_stored : (j : ℕ) → j < made → get_or table.gates j no_gate ≡ line_of found (length sys.inputs) (three_in gates j)
  line_stored j low =
      let n = length sys.inputs in
      ap (λ (l : List GateLine). get_or l j no_gate) (sym lines_are)
      ∙ mapped_at (line_of (node_at s sys) n) no_three no_gate (threes stored) j (omega (arith, threes_long stored))
      ∙ ap (line_of (node_at s sys) n) (sym (three_stored stored j low))
      ∙ sym (line_same (node_named_lem stored) n (three_in gates j))

  pub output_node : (j : ℕ) → j < outs → get_or table.outputs j 0 ≡ found (place_in names (defined + j))
  unfolding table_for
  output_node j low =
      mapped_at (node_at s sys) 0 0 sys.outputs j (omega (arith, stored.outs_said)) ∙ ap (node_at s sys) (sym (output_stored stored j low))
      ∙ sym (node_named_lem stored (place_in names (defined + j)))

  -- an operand of a gate is a place or the number of a gate
  pub left_low : (j : ℕ) → j < made → (three_in gates j).left < most_text + made
  left_low j low = omega (arith, all_low 0 sys.equations names_low (gate_held stored j low (inl refl)), stored.made_said)

  pub right_low : (j : ℕ) → j < made → (three_in gates j).right < most_text + made
  right_low j low = omega (arith, all_low 0 sys.equations names_low (gate_held stored j low (inr refl)), stored.made_said)
