-- The gate table of a well_formed, well_named text computes what its equations say. Values that obey the gates, read at the nodes of names, solve the
-- equations; and where the net has no loop, every solution agrees with them, by induction on the rank of a name's node: the names that an equation
-- uses lie behind its last gate. So there is one solution on the defined names, and the outputs have its values.
use Prim.Native.Nat.{ℕ, ◌≤◌, ◌<◌}
use native.Mathlib.Nat.{zero-add}
use mathlib.Core.Path.{◌≡◌, refl, sym, ap, subst, ◌∙◌}
use mathlib.Core.Logic.{⊎_elim}
use mathlib.Core.Bool.{Bool}
use mathlib.Core.List.Memᴰ
use mathlib.Core.List.{List, flat_map, Memᴰ}
use lib.ListN.{length, get_or, length-map}
use Rattle.theory.specs.paper.Values.{Values}
use Rattle.theory.specs.paper.Walk.{NoLoop}
use Rattle.theory.specs.paper.Sound.{Bounded, Ranked}
use Rattle.theory.proofs.Ranks.{by_rank}
use Rattle.theory.proofs.Walks.{met_rank}
use Rattle.theory.proofs.Loops.{ranked_without_loops}
use Rattle.theory.proofs.Valuations.{value_of_obeys}
use Rattle.theory.proofs.Valuations as valuations
use Rattle.storage.proofs.Entries.{member_at}
use Rattle.drawing.specs.paper.Table.{net_of, tables_of}
use Rattle.grammar.specs.paper.Text.{word_at}
use Rattle.grammar.specs.paper.Grammar.{Equation, System, WellFormed}
use Rattle.grammar.specs.paper.Names.{names_in, used_by, definitions, uses, WellNamed}
use Rattle.grammar.specs.paper.Gates.{all_gates, equation_gates, Definition, input_nodes, equation_nodes, nodes_of, node_among, node_at, table_for}
use Rattle.grammar.specs.paper.Meaning.{Solves}
use Rattle.grammar.specs.paper.Faithful.{Faithful}
use Rattle.grammar.proofs.Places.{inputs_some}
use Rattle.grammar.proofs.Sizes.{Begins, last_of, definition_at, begins_somewhere, begins_member, begins_defined, defined_begins, input_at}
use Rattle.grammar.proofs.Sizes.{input_defined, defined_input, place_in, node_places, table_gates_length, table_gates_sound}
use Rattle.grammar.proofs.Entries.{mapped_at}
use Rattle.grammar.proofs.NamesApart.{node_of_definition, use_defined}
use Rattle.grammar.proofs.Standing.{Stands, gates_stand, nothing_beyond, sound_bounded}
use Rattle.grammar.proofs.Values.{value_agrees, equation_value, equation_behind, begins_stands}

-- what an equation names is used
pub used_in : {q : Equation} {p : ℕ} {qs : List Equation} → Memᴰ q qs → Memᴰ p (names_in q.tree) → Memᴰ p (flat_map used_by qs)
unfolding flat_map
used_in {p = p} (Memᴰ.head {xs = qs} e) m = Memᴰ.append_left (flat_map used_by qs) (subst (λ (q : Equation). Memᴰ p (names_in q.tree)) e m)
used_in (Memᴰ.tail {x = r} there) m = Memᴰ.append_right (names_in r.tree) (used_in there m)

module _ (s : List ℕ) (k : ℕ) (sys : System) where
  -- the gates of the table, from the first node behind the inputs
  pub table_stands : Stands (table_for s k sys) (length sys.inputs) (all_gates (node_at s sys) (length sys.inputs) sys.equations)
  unfolding table_for
  table_stands = gates_stand (table_for s k sys)

  pub equation_stands : {m : ℕ} {q : Equation} → Begins (length sys.inputs) sys.equations m q →
      Stands (table_for s k sys) m (equation_gates (node_at s sys) m q.tree)
  equation_stands b = begins_stands (table_for s k sys) (node_at s sys) table_stands b

  pub table_inputs : (table_for s k sys).inputs ≡ length sys.inputs
  unfolding table_for
  table_inputs = refl

  pub table_outputs : length (table_for s k sys).outputs ≡ length sys.outputs
  unfolding table_for
  table_outputs = length-map sys.outputs (node_at s sys)

  pub table_bounded : 2 ≤ k → 1 ≤ length sys.inputs → Bounded (net_of (table_for s k sys)) k
  unfolding table_for
  table_bounded two some =
      sound_bounded (table_for s k sys) k (rw (table_gates_length s k sys) (table_gates_sound s k sys two some))

  output_node : (j : ℕ) → j < length sys.outputs → get_or (table_for s k sys).outputs j 0 ≡ node_at s sys (get_or sys.outputs j 0)
  unfolding table_for
  output_node j low = mapped_at (node_at s sys) 0 0 sys.outputs j low

-- the value of a word, read at its node
abbrev pub read_at : (s : List ℕ) → System → (ℕ → Bool) → List ℕ → Bool
read_at s sys x w = x (node_among s (nodes_of sys) w)

module _ {s : List ℕ} (k : ℕ) {sys : System} (whole : WellFormed s sys) (named : WellNamed s sys) (setting : ℕ → Bool) where
  -- Values of nodes that obey the gates solve the equations.
  pub values_solve : (x : ℕ → Bool) → Values (net_of (table_for s k sys)) (tables_of (table_for s k sys)) setting x → Solves s sys setting (read_at s sys x)
  unfolding net_of
  values_solve x values =
      record {
        at_inputs = λ i low.
            ap x (node_of_definition whole named (input_at 0 sys.inputs i) (Memᴰ.append_left _ (input_defined 0 sys.inputs i low)) ∙ zero-add i)
            ∙ values.at_inputs i (subst (λ (n : ℕ). i < n) (sym (table_inputs s k sys)) low);
        at_equations = λ q m.
            let (start, begins) = begins_somewhere (length sys.inputs) m in
            ap x (node_of_definition whole named (definition_at start q) (Memᴰ.append_right (input_nodes 0 sys.inputs) (begins_defined begins)))
            ∙ equation_value (table_for s k sys) (node_at s sys) x values.at_gates start q.tree (equation_stands s k sys begins);
      }

  -- Every solution agrees with them, where the net has a rank.
  module _ (ranked : Ranked (net_of (table_for s k sys))) (x : ℕ → Bool) (values : Values (net_of (table_for s k sys)) (tables_of (table_for s k sys)) setting x)
      (y : List ℕ → Bool) (solves : Solves s sys setting y) where
    abbrev Agrees : ℕ → Type 0
    Agrees v = (d : Definition) → Memᴰ d (nodes_of sys) → d.node ≡ v → y (word_at s d.place) ≡ x v

    agrees_at_input : (v : ℕ) (d : Definition) → Memᴰ d (input_nodes 0 sys.inputs) → d.node ≡ v → y (word_at s d.place) ≡ x v
    agrees_at_input v d m here =
        let (i, low, e) = defined_input 0 sys.inputs m in
        ap (λ (f : Definition). y (word_at s f.place)) e ∙ solves.at_inputs i low ∙ sym ((values_solve x values).at_inputs i low)
        ∙ ap x (node_of_definition whole named (input_at 0 sys.inputs i) (Memᴰ.append_left _ (input_defined 0 sys.inputs i low))
        ∙ sym (ap (λ (f : Definition). f.node) e) ∙ here)

    agrees_at_equation : (v : ℕ) → ((u : ℕ) → ranked.rank u < ranked.rank v → Agrees u) →
        (d : Definition) → Memᴰ d (equation_nodes (length sys.inputs) sys.equations) → d.node ≡ v → y (word_at s d.place) ≡ x v
    agrees_at_equation v below d m here =
        let b = defined_begins (length sys.inputs) sys.equations m in
        let q = b.equation in
        let node : last_of b.start q ≡ v = sym (ap (λ (f : Definition). f.node) b.same) ∙ here in
        let stands = equation_stands s k sys b.begins in
        ap (λ (f : Definition). y (word_at s f.place)) b.same
        ∙ solves.at_equations q (begins_member b.begins)
        ∙ value_agrees (λ p. y (word_at s p)) (λ p. x (node_at s sys p)) q.tree (λ p there.
        let (f, among, same) = use_defined named p (Memᴰ.append_left sys.outputs (used_in (begins_member b.begins) there)) in
        let its : f.node ≡ node_at s sys p = sym (node_of_definition whole named f among) ∙ ap (node_among s (nodes_of sys)) same in
        let behind = equation_behind (table_for s k sys) (node_at s sys) b.start q.tree stands there in
        ap y (sym same)
        ∙ below (node_at s sys p) (subst (λ (w : ℕ). ranked.rank (node_at s sys p) < ranked.rank w) node (met_rank ranked behind)) f among its)
        ∙ sym (equation_value (table_for s k sys) (node_at s sys) x values.at_gates b.start q.tree stands)
        ∙ ap x node

    agrees : (v : ℕ) → Agrees v
    agrees = by_rank Agrees ranked.rank (λ v below d m here. ⊎_elim
        (λ there. agrees_at_input v d there here) (λ there. agrees_at_equation v below d there here)
        (Memᴰ.append_cases (input_nodes 0 sys.inputs) m))

    -- at the place of a definition
    pub solution_agrees : (d : ℕ) → Memᴰ d (definitions sys) → y (word_at s d) ≡ read_at s sys x (word_at s d)
    solution_agrees d m =
        let (f, among, e) = Memᴰ.of_map place_in (nodes_of sys) (subst (Memᴰ d) (sym (node_places sys)) m) in
        ap (λ (p : ℕ). y (word_at s p)) (sym e) ∙ agrees f.node f among refl ∙ ap x (sym (node_of_definition whole named f among))
        ∙ ap (λ (p : ℕ). read_at s sys x (word_at s p)) e

    -- and of a use
    pub solution_agrees_at_use : (p : ℕ) → Memᴰ p (uses sys) → y (word_at s p) ≡ x (node_at s sys p)
    solution_agrees_at_use p m =
        let (f, among, same) = use_defined named p m in
        ap y (sym same) ∙ agrees f.node f among refl ∙ ap x (sym (node_of_definition whole named f among) ∙ ap (node_among s (nodes_of sys)) same)

-- The table computes what the equations say.
pub table_faithful : {s : List ℕ} (k : ℕ) {sys : System} → WellFormed s sys → WellNamed s sys → 2 ≤ k → NoLoop (net_of (table_for s k sys)) →
    Faithful s sys (table_for s k sys)
table_faithful {s} k {sys} whole named two free =
    record {
      inputs = table_inputs s k sys;
      outputs = table_outputs s k sys;
      solved = λ setting. (read_at s sys (value setting), values_solve k whole named setting (value setting) (obeys setting));
      once = λ setting y z solves other d m.
          solution_agrees k whole named setting ranked (value setting) (obeys setting) y solves d m
          ∙ sym (solution_agrees k whole named setting ranked (value setting) (obeys setting) z other d m);
      valued = λ setting. (value setting, obeys setting);
      computed = λ setting x y values solves j low.
          ap x (output_node s k sys j low)
          ∙ sym (solution_agrees_at_use k whole named setting ranked x values y solves (get_or sys.outputs j 0)
          (Memᴰ.append_right (flat_map used_by sys.equations) (member_at sys.outputs j low)));
    }
  where
    ranked : Ranked (net_of (table_for s k sys))
    ranked = (ranked_without_loops (table_bounded s k sys two (inputs_some whole)) (nothing_beyond (table_for s k sys))).1 free

    value : (ℕ → Bool) → ℕ → Bool
    value = valuations.value_of (net_of (table_for s k sys)) (tables_of (table_for s k sys)) ranked

    obeys : (setting : ℕ → Bool) → Values (net_of (table_for s k sys)) (tables_of (table_for s k sys)) setting (value setting)
    obeys = value_of_obeys (net_of (table_for s k sys)) (tables_of (table_for s k sys)) ranked
