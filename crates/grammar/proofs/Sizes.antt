-- The gates that equations become: how many they are, where each equation's begin, and that each is a sound line of a table. And the nodes that names
-- stand for: an input's number, or the last gate of an equation.
use Prim.Native.Nat.{ℕ, zero, suc, ◌+◌, ◌-◌, ◌≤◌, ◌<◌}
use native.Mathlib.Nat.{add-zero}
use native.Mathlib.Omega.{arith}
use mathlib.Core.Path.{◌≡◌, refl, sym, ap, ap₂, subst, ◌∙◌}
use mathlib.Core.Logic.{⊎_elim}
use mathlib.Core.Bool.{Bool, true, false, cond}
use mathlib.Core.List.Memᴰ
use mathlib.Core.List.{List, [], ◌∷◌, ◌++◌, map, Memᴰ}
use mathlib.Core.List.{map-append}
use lib.ListN.{length, get_or, length-append}
use Rattle.drawing.specs.paper.Table.{GateLine}
use Rattle.drawing.specs.Lines.{SoundLine}
use Rattle.grammar.specs.paper.Text.{word_at, same_word}
use Rattle.grammar.specs.paper.Grammar.{Tree, Equation, System}
use Rattle.grammar.specs.paper.Names.{place_of, definitions}
use Rattle.grammar.specs.paper.Gates.{size_of, root_of, gate, gates_of, equation_gates, equation_size, all_gates, all_size, not_table, pass_table, and_table, or_table}
use Rattle.grammar.specs.paper.Gates.{Definition, input_nodes, equation_nodes, nodes_of, node_among, node_at, table_for}
use Rattle.grammar.proofs.Places.{equation_size_some}

-- How many gates there are

module _ (node : ℕ → ℕ) where
  pub gates_length : (n : ℕ) (e : Tree) → length (gates_of node n e) ≡ size_of e
  unfolding gates_of size_of
  gates_length n (Tree.name p) = refl
  gates_length n (Tree.not e) = simp length-append (omega (arith, gates_length n e))
  gates_length n (Tree.and e f) = simp length-append (omega (arith, gates_length n e, gates_length (n + size_of e) f))
  gates_length n (Tree.or e f) = simp length-append (omega (arith, gates_length n e, gates_length (n + size_of e) f))

  pub equation_gates_length : (n : ℕ) (e : Tree) → length (equation_gates node n e) ≡ equation_size e
  unfolding equation_gates equation_size
  equation_gates_length n (Tree.name p) = refl
  equation_gates_length n (Tree.not e) = gates_length n (Tree.not e)
  equation_gates_length n (Tree.and e f) = gates_length n (Tree.and e f)
  equation_gates_length n (Tree.or e f) = gates_length n (Tree.or e f)

  pub all_gates_length : (n : ℕ) (qs : List Equation) → length (all_gates node n qs) ≡ all_size qs
  unfolding all_gates all_size
  all_gates_length n [] = refl
  all_gates_length n (q ∷ qs) =
      simp length-append (omega (arith, equation_gates_length n q.tree, all_gates_length (n + equation_size q.tree) qs))

-- Each gate is a sound line

module _ (node : ℕ → ℕ) (k total : ℕ) (two : 2 ≤ k) (below : (p : ℕ) → node p < total) where
  pub root_below : (n : ℕ) (e : Tree) → n + size_of e ≤ total → root_of node n e < total
  unfolding root_of size_of
  root_below n (Tree.name p) fits = below p
  root_below n (Tree.not e) fits = omega arith
  root_below n (Tree.and e f) fits = omega arith
  root_below n (Tree.or e f) fits = omega arith

  one_sound : (u table : ℕ) → u < total → table < 4 → SoundLine k total (gate (u ∷ []) table)
  one_sound u table low small =
      record {
        some = omega arith;
        few = omega arith;
        nodes_only = λ v m. subst (λ (x : ℕ). x < total) (sym (Memᴰ.eq_of_singleton m)) low;
        rows = small;
      }

  two_sound : (u v table : ℕ) → u < total → v < total → table < 16 → SoundLine k total (gate (u ∷ v ∷ []) table)
  two_sound u v table low-u low-v small =
      record {
        some = omega arith;
        few = omega arith;
        nodes_only = λ w m. ⊎_elim
            (λ (e : w ≡ u). subst (λ (x : ℕ). x < total) (sym e) low-u)
            (λ later. subst (λ (x : ℕ). x < total) (sym (Memᴰ.eq_of_singleton later)) low-v)
            (Memᴰ.cases_cons m);
        rows = small;
      }

  -- a gate behind others
  last_sound : (gs : List GateLine) {h g : GateLine} → ((x : GateLine) → Memᴰ x gs → SoundLine k total x) → SoundLine k total h →
      Memᴰ g (gs ++ (h ∷ [])) → SoundLine k total g
  last_sound gs {h} {g} before last m = ⊎_elim (before g) (λ n. subst (SoundLine k total) (sym (Memᴰ.eq_of_singleton n)) last) (Memᴰ.append_cases gs m)

  pub gates_sound : (n : ℕ) (e : Tree) → n + size_of e ≤ total → (g : GateLine) → Memᴰ g (gates_of node n e) → SoundLine k total g
  unfolding gates_of size_of
  gates_sound n (Tree.name p) fits g m = absurd (Memᴰ.not-nil m)
  gates_sound n (Tree.not e) fits g m =
      last_sound (gates_of node n e) (gates_sound n e (omega arith)) (one_sound (root_of node n e) not_table (root_below n e (omega arith)) (omega arith)) m
  gates_sound n (Tree.and e f) fits g m =
      last_sound (gates_of node n e ++ gates_of node (n + size_of e) f)
      (λ x here. ⊎_elim (gates_sound n e (omega arith) x) (gates_sound (n + size_of e) f (omega arith) x) (Memᴰ.append_cases (gates_of node n e) here))
      (two_sound (root_of node n e) (root_of node (n + size_of e) f) and_table (root_below n e (omega arith)) (root_below (n + size_of e) f (omega arith)) (omega arith))
      m
  gates_sound n (Tree.or e f) fits g m =
      last_sound (gates_of node n e ++ gates_of node (n + size_of e) f)
      (λ x here. ⊎_elim (gates_sound n e (omega arith) x) (gates_sound (n + size_of e) f (omega arith) x) (Memᴰ.append_cases (gates_of node n e) here))
      (two_sound (root_of node n e) (root_of node (n + size_of e) f) or_table (root_below n e (omega arith)) (root_below (n + size_of e) f (omega arith)) (omega arith))
      m

  pub equation_gates_sound : (n : ℕ) (e : Tree) → n + equation_size e ≤ total → (g : GateLine) → Memᴰ g (equation_gates node n e) → SoundLine k total g
  unfolding equation_gates equation_size
  equation_gates_sound n (Tree.name p) fits g m =
      subst (SoundLine k total) (sym (Memᴰ.eq_of_singleton m)) (one_sound (node p) pass_table (below p) (omega arith))
  equation_gates_sound n (Tree.not e) fits g m = gates_sound n (Tree.not e) fits g m
  equation_gates_sound n (Tree.and e f) fits g m = gates_sound n (Tree.and e f) fits g m
  equation_gates_sound n (Tree.or e f) fits g m = gates_sound n (Tree.or e f) fits g m

  pub all_gates_sound : (n : ℕ) (qs : List Equation) → n + all_size qs ≤ total → (g : GateLine) → Memᴰ g (all_gates node n qs) → SoundLine k total g
  unfolding all_gates all_size
  all_gates_sound n [] fits g m = absurd (Memᴰ.not-nil m)
  all_gates_sound n (q ∷ qs) fits g m =
      ⊎_elim (equation_gates_sound n q.tree (omega arith) g) (all_gates_sound (n + equation_size q.tree) qs (omega arith) g)
      (Memᴰ.append_cases (equation_gates node n q.tree) m)

-- Where an equation's gates begin

-- among equations whose gates are numbered from n on, those of q are numbered from m on
pub data Begins : (n : ℕ) → List Equation → (m : ℕ) → Equation → Type 0 where
  first : {n : ℕ} {q : Equation} {qs : List Equation} → Begins n (q ∷ qs) n q
  later : {n m : ℕ} {q r : Equation} {qs : List Equation} → Begins (n + equation_size q.tree) qs m r → Begins n (q ∷ qs) m r

abbrev pub last_of : (m : ℕ) → Equation → ℕ
last_of m q = m + equation_size q.tree - 1

abbrev pub definition_at : (m : ℕ) → Equation → Definition
definition_at m q = record { place = q.place; node = last_of m q }

pub begins_somewhere : {q : Equation} (n : ℕ) {qs : List Equation} → Memᴰ q qs → (m : ℕ) × Begins n qs m q
begins_somewhere {q} n (Memᴰ.head {x = r} {xs = qs} e) = (n, subst (λ (x : Equation). Begins n (r ∷ qs) n x) (sym e) Begins.first)
begins_somewhere n (Memᴰ.tail {x = r} m) = let there = begins_somewhere (n + equation_size r.tree) m in (there.0, Begins.later there.1)

pub begins_member : {n m : ℕ} {q : Equation} {qs : List Equation} → Begins n qs m q → Memᴰ q qs
begins_member Begins.first = Memᴰ.head refl
begins_member (Begins.later b) = Memᴰ.tail (begins_member b)

pub begins_low : {n m : ℕ} {q : Equation} {qs : List Equation} → Begins n qs m q → n ≤ m
begins_low Begins.first = omega arith
begins_low (Begins.later b) = omega (arith, begins_low b)

pub begins_high : {n m : ℕ} {q : Equation} {qs : List Equation} → Begins n qs m q → m + equation_size q.tree ≤ n + all_size qs
unfolding all_size
begins_high Begins.first = omega arith
begins_high (Begins.later b) = omega (arith, begins_high b)

pub begins_defined : {n m : ℕ} {q : Equation} {qs : List Equation} → Begins n qs m q → Memᴰ (definition_at m q) (equation_nodes n qs)
unfolding equation_nodes
begins_defined Begins.first = Memᴰ.head refl
begins_defined (Begins.later b) = Memᴰ.tail (begins_defined b)

pub record Defines (n : ℕ) (qs : List Equation) (d : Definition) : Type 0 where
  pub start : ℕ
  pub equation : Equation
  pub begins : Begins n qs start equation
  pub same : d ≡ definition_at start equation

pub defined_begins : (n : ℕ) (qs : List Equation) {d : Definition} → Memᴰ d (equation_nodes n qs) → Defines n qs d
unfolding equation_nodes
defined_begins n [] m = absurd (Memᴰ.not-nil m)
defined_begins n (q ∷ qs) {d} m = ⊎_elim
    (λ e. record { start = n; equation = q; begins = Begins.first; same = e })
    (λ there. after (defined_begins (n + equation_size q.tree) qs there))
    (Memᴰ.cases_cons m)
  where
    after : Defines (n + equation_size q.tree) qs d → Defines n (q ∷ qs) d
    after b = record { start = b.start; equation = b.equation; begins = Begins.later b.begins; same = b.same }

-- Inputs

abbrev pub input_at : (n : ℕ) (ps : List ℕ) (i : ℕ) → Definition
input_at n ps i = record { place = get_or ps i 0; node = n + i }

pub input_defined : (n : ℕ) (ps : List ℕ) (i : ℕ) → i < length ps → Memᴰ (input_at n ps i) (input_nodes n ps)
unfolding input_nodes
input_defined n [] i low = absurd (omega arith)
input_defined n (p ∷ ps) zero low = Memᴰ.head (ap (λ (x : ℕ). record { place = p; node = x }) (add-zero n))
input_defined n (p ∷ ps) (suc i) low =
    let same : n + suc i ≡ suc n + i = omega arith in
    Memᴰ.tail (Memᴰ.cast (ap (λ (x : ℕ). record { place = get_or ps i 0; node = x }) same) (input_defined (suc n) ps i (omega arith)))

pub defined_input : (n : ℕ) (ps : List ℕ) {d : Definition} → Memᴰ d (input_nodes n ps) → (i : ℕ) × (i < length ps) × (d ≡ input_at n ps i)
unfolding input_nodes
defined_input n [] m = absurd (Memᴰ.not-nil m)
defined_input n (p ∷ ps) {d} m = ⊎_elim
    (λ e. (zero, omega arith, e ∙ ap (λ (x : ℕ). record { place = p; node = x }) (sym (add-zero n))))
    (λ there. after (defined_input (suc n) ps there))
    (Memᴰ.cases_cons m)
  where
    after : (i : ℕ) × (i < length ps) × (d ≡ input_at (suc n) ps i) → (i : ℕ) × (i < length (p ∷ ps)) × (d ≡ input_at n (p ∷ ps) i)
    after (i, low, e) =
        let same : suc n + i ≡ n + suc i = omega arith in
        (suc i, omega arith, e ∙ ap (λ (x : ℕ). record { place = get_or ps i 0; node = x }) same)

-- All definitions

abbrev pub place_in : Definition → ℕ
place_in d = d.place

input_places : (n : ℕ) (ps : List ℕ) → map place_in (input_nodes n ps) ≡ ps
unfolding input_nodes
input_places n [] = refl
input_places n (p ∷ ps) = ap {B = List ℕ} (λ l. p ∷ l) (input_places (suc n) ps)

equation_places : (n : ℕ) (qs : List Equation) → map place_in (equation_nodes n qs) ≡ map place_of qs
unfolding equation_nodes
equation_places n [] = refl
equation_places n (q ∷ qs) = ap {B = List ℕ} (λ l. q.place ∷ l) (equation_places (n + equation_size q.tree) qs)

module _ (sys : System) where
  pub node_places : map place_in (nodes_of sys) ≡ definitions sys
  node_places =
      map-append place_in (input_nodes 0 sys.inputs) (equation_nodes (length sys.inputs) sys.equations)
      ∙ ap₂ {C = List ℕ} ◌++◌ (input_places 0 sys.inputs) (equation_places (length sys.inputs) sys.equations)

  pub nodes_below : (d : Definition) → Memᴰ d (nodes_of sys) → d.node < length sys.inputs + all_size sys.equations
  nodes_below d m = ⊎_elim at_input at_equation (Memᴰ.append_cases (input_nodes 0 sys.inputs) m)
    where
      at_input : Memᴰ d (input_nodes 0 sys.inputs) → d.node < length sys.inputs + all_size sys.equations
      at_input here = let (i, low, e) = defined_input 0 sys.inputs here in omega (arith, ap (λ (x : Definition). x.node) e)

      at_equation : Memᴰ d (equation_nodes (length sys.inputs) sys.equations) → d.node < length sys.inputs + all_size sys.equations
      at_equation here =
          let b = defined_begins (length sys.inputs) sys.equations here in
          omega (arith, ap (λ (x : Definition). x.node) b.same, begins_high b.begins, equation_size_some b.equation.tree)

cond_below : (b : Bool) (x y total : ℕ) → x < total → y < total → cond b x y < total
cond_below true x y total low high = low
cond_below false x y total low high = high

-- the node among definitions is one of theirs, or 0
node_among_below : (s : List ℕ) (ds : List Definition) (w : List ℕ) (total : ℕ) → ((d : Definition) → Memᴰ d ds → d.node < total) → 0 < total →
    node_among s ds w < total
unfolding node_among
node_among_below s [] w total below some = some
node_among_below s (d ∷ ds) w total below some =
    cond_below (same_word (word_at s d.place) w) d.node (node_among s ds w) total (below d (Memᴰ.head refl))
    (node_among_below s ds w total (λ x m. below x (Memᴰ.tail m)) some)

-- every name's node is one of the net
pub node_below : (s : List ℕ) (sys : System) → 1 ≤ length sys.inputs → (p : ℕ) → node_at s sys p < length sys.inputs + all_size sys.equations
node_below s sys some p =
    node_among_below s (nodes_of sys) (word_at s p) (length sys.inputs + all_size sys.equations) (nodes_below sys) (omega arith)

-- The table

module _ (s : List ℕ) (k : ℕ) (sys : System) where
  pub table_gates_length : length (table_for s k sys).gates ≡ all_size sys.equations
  unfolding table_for
  table_gates_length = all_gates_length (node_at s sys) (length sys.inputs) sys.equations

  pub table_gates_sound : 2 ≤ k → 1 ≤ length sys.inputs → (g : GateLine) → Memᴰ g (table_for s k sys).gates →
      SoundLine k (length sys.inputs + all_size sys.equations) g
  unfolding table_for
  table_gates_sound two some g m =
      all_gates_sound (node_at s sys) k (length sys.inputs + all_size sys.equations) two (node_below s sys some) (length sys.inputs) sys.equations
      (omega arith) g m

  pub table_outputs_below : 1 ≤ length sys.inputs → (v : ℕ) → Memᴰ v (table_for s k sys).outputs →
      v < length sys.inputs + all_size sys.equations
  unfolding table_for
  table_outputs_below some v m =
      let (p, there, e) = Memᴰ.of_map (node_at s sys) sys.outputs m in
      subst (λ (x : ℕ). x < length sys.inputs + all_size sys.equations) e (node_below s sys some p)
