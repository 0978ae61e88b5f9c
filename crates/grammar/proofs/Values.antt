-- An expression's gates give its value: where the gates are obeyed, the value at its root is that of the tree, with names read at their nodes. By
-- induction on the tree, with four tables of one or two fanins. And the names of an equation lie behind its last gate.
use Prim.Native.Nat.{ℕ, suc, ◌+◌, ◌-◌}
use native.Mathlib.Omega.{arith}
use mathlib.Core.Path.{◌≡◌, refl, sym, ap, ap₂, subst, ◌∙◌}
use mathlib.Core.Logic.{⊎_elim}
use mathlib.Core.Bool.{Bool, true, false, ◌||◌, ◌&&◌}
use mathlib.Core.Bool as bool
use mathlib.Core.List.Memᴰ
use mathlib.Core.List.{List, [], ◌∷◌, ◌++◌, Memᴰ}
use Rattle.theory.specs.paper.Values.{row_of, result_at, Obeys}
use Rattle.theory.specs.paper.Walk.{Walked, Behind}
use Rattle.theory.proofs.Walks.{behind_walked}
use Rattle.drawing.specs.paper.Table.{Table, net_of, tables_of}
use Rattle.grammar.specs.paper.Grammar.{Tree, Equation}
use Rattle.grammar.specs.paper.Names.{names_in}
use Rattle.grammar.specs.paper.Gates.{size_of, root_of, gate, gates_of, equation_gates, equation_size, all_gates, not_table, pass_table, and_table, or_table}
use Rattle.grammar.specs.paper.Meaning.{value_of}
use Rattle.grammar.proofs.Sizes.{gates_length, equation_gates_length, Begins}
use Rattle.grammar.proofs.Standing.{Stands, Operands, stands_first, stands_after, operands_stand, value_here, behind_here}

-- The four tables

not_result : (a : Bool) → result_at not_table (row_of (a ∷ [])) ≡ bool.not a
unfolding result_at row_of
not_result true = refl
not_result false = refl

pass_result : (a : Bool) → result_at pass_table (row_of (a ∷ [])) ≡ a
unfolding result_at row_of
pass_result true = refl
pass_result false = refl

and_result : (a b : Bool) → result_at and_table (row_of (a ∷ b ∷ [])) ≡ (a && b)
unfolding result_at row_of
and_result true true = refl
and_result true false = refl
and_result false true = refl
and_result false false = refl

or_result : (a b : Bool) → result_at or_table (row_of (a ∷ b ∷ [])) ≡ (a || b)
unfolding result_at row_of
or_result true true = refl
or_result true false = refl
or_result false true = refl
or_result false false = refl

-- two readings of names that agree in an expression give it one value
pub value_agrees : (f g : ℕ → Bool) (e : Tree) → ((p : ℕ) → Memᴰ p (names_in e) → f p ≡ g p) → value_of f e ≡ value_of g e
unfolding value_of names_in
value_agrees f g (Tree.name p) same = same p (Memᴰ.head refl)
value_agrees f g (Tree.not e) same = ap bool.not (value_agrees f g e same)
value_agrees f g (Tree.and d e) same = ap₂ {C = Bool} ◌&&◌
    (value_agrees f g d (λ p m. same p (Memᴰ.append_left (names_in e) m))) (value_agrees f g e (λ p m. same p (Memᴰ.append_right (names_in d) m)))
value_agrees f g (Tree.or d e) same = ap₂ {C = Bool} ◌||◌
    (value_agrees f g d (λ p m. same p (Memᴰ.append_left (names_in e) m))) (value_agrees f g e (λ p m. same p (Memᴰ.append_right (names_in d) m)))

module _ (t : Table) (node : ℕ → ℕ) where
  -- the parts of an expression's gates
  not_stands : (n : ℕ) (e : Tree) → Stands t n (gates_of node n (Tree.not e)) → Stands t n (gates_of node n e)
  unfolding gates_of
  not_stands n e st = stands_first (gates_of node n e) (gate (root_of node n e ∷ []) not_table ∷ []) st

  not_last : (n : ℕ) (e : Tree) → Stands t n (gates_of node n (Tree.not e)) → Stands t (n + size_of e) (gate (root_of node n e ∷ []) not_table ∷ [])
  unfolding gates_of
  not_last n e st = stands_after (gates_of node n e) (gate (root_of node n e ∷ []) not_table ∷ []) (gates_length node n e) st

  abbrev Parts : (n : ℕ) (e f : Tree) (table : ℕ) → Type 0
  Parts n e f table =
      Operands t n (size_of e) (size_of f) (gates_of node n e) (gates_of node (n + size_of e) f) (gate (root_of node n e ∷ root_of node (n + size_of e) f ∷ []) table)

  and_parts : (n : ℕ) (e f : Tree) → Stands t n (gates_of node n (Tree.and e f)) → Parts n e f and_table
  unfolding gates_of
  and_parts n e f st = operands_stand (gates_of node n e) (gates_of node (n + size_of e) f) (gates_length node n e) (gates_length node (n + size_of e) f) st

  or_parts : (n : ℕ) (e f : Tree) → Stands t n (gates_of node n (Tree.or e f)) → Parts n e f or_table
  unfolding gates_of
  or_parts n e f st = operands_stand (gates_of node n e) (gates_of node (n + size_of e) f) (gates_length node n e) (gates_length node (n + size_of e) f) st

  -- Values

  module _ (x : ℕ → Bool) (obeys : Obeys (net_of t) (tables_of t) x) where
    pub root_value : (n : ℕ) (e : Tree) → Stands t n (gates_of node n e) → x (root_of node n e) ≡ value_of (λ p. x (node p)) e
    unfolding root_of value_of
    root_value n (Tree.name p) st = refl
    root_value n (Tree.not e) st =
        value_here (not_last n e st) x obeys ∙ not_result (x (root_of node n e)) ∙ ap bool.not (root_value n e (not_stands n e st))
    root_value n (Tree.and e f) st =
        let parts = and_parts n e f st in
        value_here parts.last x obeys ∙ and_result (x (root_of node n e)) (x (root_of node (n + size_of e) f))
        ∙ ap₂ {C = Bool} ◌&&◌ (root_value n e parts.left) (root_value (n + size_of e) f parts.right)
    root_value n (Tree.or e f) st =
        let parts = or_parts n e f st in
        value_here parts.last x obeys ∙ or_result (x (root_of node n e)) (x (root_of node (n + size_of e) f))
        ∙ ap₂ {C = Bool} ◌||◌ (root_value n e parts.left) (root_value (n + size_of e) f parts.right)

    -- an equation's last gate has its expression's value
    pub equation_value : (n : ℕ) (e : Tree) → Stands t n (equation_gates node n e) → x (n + equation_size e - 1) ≡ value_of (λ p. x (node p)) e
    unfolding equation_gates equation_size root_of value_of size_of
    equation_value n (Tree.name p) st =
        let here : n + 1 - 1 ≡ n = omega arith in
        ap x here ∙ value_here st x obeys ∙ pass_result (x (node p))
    equation_value n (Tree.not e) st =
        let here : n + suc (size_of e) - 1 ≡ n + size_of e = omega arith in
        ap x here ∙ root_value n (Tree.not e) st
    equation_value n (Tree.and e f) st =
        let here : n + suc (size_of e + size_of f) - 1 ≡ n + (size_of e + size_of f) = omega arith in
        ap x here ∙ root_value n (Tree.and e f) st
    equation_value n (Tree.or e f) st =
        let here : n + suc (size_of e + size_of f) - 1 ≡ n + (size_of e + size_of f) = omega arith in
        ap x here ∙ root_value n (Tree.or e f) st

  -- Names behind

  -- what is walked from one of a gate's two fanins lies behind the gate
  two_behind : {m u w table v p : ℕ} (l : List ℕ) {r : List ℕ} → Stands t m (gate (u ∷ w ∷ []) table ∷ []) →
      (Memᴰ p l → Walked (net_of t) [] u v) → (Memᴰ p r → Walked (net_of t) [] w v) → Memᴰ p (l ++ r) → Behind (net_of t) m v
  two_behind l last left right m =
      ⊎_elim (λ here. behind_here last (Memᴰ.head refl) (left here)) (λ here. behind_here last (Memᴰ.tail (Memᴰ.head refl)) (right here))
      (Memᴰ.append_cases l m)

  -- the walk back from an expression's root comes to each of its names
  pub names_walked : (n : ℕ) (e : Tree) {p : ℕ} → Stands t n (gates_of node n e) → Memᴰ p (names_in e) → Walked (net_of t) [] (root_of node n e) (node p)
  unfolding root_of names_in
  names_walked n (Tree.name q) st m =
      subst (λ (p : ℕ). Walked (net_of t) [] (node q) (node p)) (sym (Memᴰ.eq_of_singleton m)) Walked.start
  names_walked n (Tree.not e) st m = behind_walked (behind_here (not_last n e st) (Memᴰ.head refl) (names_walked n e (not_stands n e st) m))
  names_walked n (Tree.and e f) st m =
      let parts = and_parts n e f st in
      behind_walked (two_behind (names_in e) parts.last (λ here. names_walked n e parts.left here)
      (λ here. names_walked (n + size_of e) f parts.right here) m)
  names_walked n (Tree.or e f) st m =
      let parts = or_parts n e f st in
      behind_walked (two_behind (names_in e) parts.last (λ here. names_walked n e parts.left here)
      (λ here. names_walked (n + size_of e) f parts.right here) m)

  -- they lie behind an equation's last gate
  pub equation_behind : (n : ℕ) (e : Tree) {p : ℕ} → Stands t n (equation_gates node n e) → Memᴰ p (names_in e) →
      Behind (net_of t) (n + equation_size e - 1) (node p)
  unfolding equation_gates equation_size size_of names_in
  equation_behind n (Tree.name q) {p} st m =
      let here : n ≡ n + 1 - 1 = omega arith in
      subst (λ (v : ℕ). Behind (net_of t) v (node p)) here
      (behind_here st (Memᴰ.head refl) (subst (λ (r : ℕ). Walked (net_of t) [] (node q) (node r)) (sym (Memᴰ.eq_of_singleton m)) Walked.start))
  equation_behind n (Tree.not e) {p} st m =
      let here : n + size_of e ≡ n + suc (size_of e) - 1 = omega arith in
      subst (λ (v : ℕ). Behind (net_of t) v (node p)) here
      (behind_here (not_last n e st) (Memᴰ.head refl) (names_walked n e (not_stands n e st) m))
  equation_behind n (Tree.and e f) {p} st m =
      let here : n + (size_of e + size_of f) ≡ n + suc (size_of e + size_of f) - 1 = omega arith in
      let parts = and_parts n e f st in
      subst (λ (v : ℕ). Behind (net_of t) v (node p)) here
      (two_behind (names_in e) parts.last (names_walked n e parts.left) (names_walked (n + size_of e) f parts.right) m)
  equation_behind n (Tree.or e f) {p} st m =
      let here : n + (size_of e + size_of f) ≡ n + suc (size_of e + size_of f) - 1 = omega arith in
      let parts = or_parts n e f st in
      subst (λ (v : ℕ). Behind (net_of t) v (node p)) here
      (two_behind (names_in e) parts.last (names_walked n e parts.left) (names_walked (n + size_of e) f parts.right) m)

  -- the gates of each equation stand where they begin
  pub begins_stands : {n m : ℕ} {q : Equation} {qs : List Equation} → Stands t n (all_gates node n qs) → Begins n qs m q →
      Stands t m (equation_gates node m q.tree)
  unfolding all_gates
  begins_stands {n} st (Begins.first {q = q} {qs = qs}) =
      stands_first (equation_gates node n q.tree) (all_gates node (n + equation_size q.tree) qs) st
  begins_stands {n} st (Begins.later {q = q} {qs = qs} b) =
      begins_stands (stands_after (equation_gates node n q.tree) (all_gates node (n + equation_size q.tree) qs) (equation_gates_length node n q.tree) st) b
