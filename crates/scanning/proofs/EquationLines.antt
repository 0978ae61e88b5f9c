-- Equations one after the other: what is kept of them grows equation by equation.
use Prim.Native.Nat.{ℕ, ◌+◌, ◌*◌, ◌-◌, ◌≤◌}
use native.Mathlib.Omega.{arith}
use native.Mathlib.Nat.{add-zero}
use mathlib.Core.Path.{◌≡◌, refl, sym, ap, ap₂, ◌∙◌}
use mathlib.Core.Logic.{inr}
use mathlib.Core.List.{List, [], ◌∷◌, ◌++◌, append_assoc, append-nil}
use lib.ListN.{length, get_or, length-append}
use lib.Seq.{sets, length-sets}
use Rattle.storage.proofs.Stores.{sets_append, stored_beside}
use Rattle.grammar.specs.paper.Grammar.{Tree, Equation, Equates, Equations}
use Rattle.grammar.specs.paper.Gates.{equation_size, all_size, Definition, equation_nodes}
use Rattle.grammar.specs.Machine.{Runs}
use Rattle.grammar.specs.Stored.{equation_triples, all_triples, definition_pairs}
use Rattle.grammar.proofs.Places.{equation_size_some}
use Rattle.grammar.proofs.Stored.{equation_triples_size, all_triples_size, pairs_append, pairs_size, equation_nodes_size}
use Rattle.grammar.proofs.Runs.{run_then}
use Rattle.grammar.proofs.Stops.{halts_then}
use Rattle.scanning.specs.Equations.{LeftSide, Empty, RightSide, RightStopped, TurnAsked, EquationHere, LinesStopped, EquationsAsked, Sofar}

-- one more equation
module _ (last : Equation) where
  all_size_more : (qs : List Equation) → all_size (qs ++ (last ∷ [])) ≡ all_size qs + equation_size last.tree
  unfolding all_size
  all_size_more [] = omega arith
  all_size_more (q ∷ qs) = omega (arith, all_size_more qs)

  all_triples_more : (made : ℕ) (qs : List Equation) → all_triples made (qs ++ (last ∷ [])) ≡ all_triples made qs ++ equation_triples (made + all_size qs) last.tree
  unfolding all_triples all_size
  all_triples_more made [] = append-nil (equation_triples made last.tree) ∙ ap (λ (m : ℕ). equation_triples m last.tree) (sym (add-zero made))
  all_triples_more made (q ∷ qs) =
      ap (λ (l : List ℕ). equation_triples made q.tree ++ l) (all_triples_more (made + equation_size q.tree) qs)
      ∙ sym (append_assoc (equation_triples made q.tree) (all_triples (made + equation_size q.tree) qs) _)
      ∙ ap (λ (m : ℕ). all_triples made (q ∷ qs) ++ equation_triples m last.tree) (omega arith)

  -- the node of its name
  abbrev last_node : (n : ℕ) (qs : List Equation) → Definition
  last_node n qs = record { place = last.place; node = n + all_size qs + equation_size last.tree - 1 }

  nodes_more : (n : ℕ) (qs : List Equation) → equation_nodes n (qs ++ (last ∷ [])) ≡ equation_nodes n qs ++ (last_node n qs ∷ [])
  unfolding equation_nodes all_size
  nodes_more n [] = ap (λ (m : ℕ). record { place = last.place; node = m + equation_size last.tree - 1 } ∷ []) (sym (add-zero n))
  nodes_more n (q ∷ qs) =
      ap (λ (l : List Definition). equation_nodes n (q ∷ []) ++ l) (nodes_more (n + equation_size q.tree) qs)
      ∙ ap (λ (m : ℕ). equation_nodes n (q ∷ qs) ++ (record { place = last.place; node = m + equation_size last.tree - 1 } ∷ [])) (omega arith)

equations_more : {s : List ℕ} {i j k : ℕ} {qs : List Equation} {e : Tree} → Equations s i j qs → Equates s j k e →
    Equations s i k (qs ++ (record { place = j; tree = e } ∷ []))
equations_more Equations.none equates = Equations.more equates Equations.none
equations_more (Equations.more first rest) equates = Equations.more first (equations_more rest equates)

-- One equation from its two sides.
module _ {s : List ℕ} {at start made listed inputs : ℕ} {gates₀ gates names₀ : List ℕ} (asked : TurnAsked s at gates₀ made names₀ listed inputs)
    (left : LeftSide s at start) {next count : ℕ} (right : RightSide s start made gates₀ gates next count) where
  pub count_some : 1 ≤ inputs + count
  count_some = omega (arith, right.counted, equation_size_some right.tree)

  pub equation_here : {names : List ℕ} → names ≡ sets names₀ (2 * listed) (at ∷ (inputs + count - 1) ∷ []) →
      EquationHere s at gates₀ made names₀ listed inputs gates names next count
  equation_here kept =
      record {
        tree = right.tree;
        equates =
            record {
              name_end = left.name_end;
              sign = left.here.sign;
              start = start;
              stop = right.stop;
              named = left.named;
              blanks = left.here.blanks;
              equals_sign = left.here.equals_sign;
              expression = right.expression;
              end = right.end;
            };
        gates_stored = right.stored;
        names_stored = kept ∙ ap (λ (n : ℕ). sets names₀ (2 * listed) (at ∷ n ∷ [])) (omega (arith, right.counted));
        counted = right.counted;
        begins = right.begins;
        gates_few = omega (arith, right.slow, asked.gates_few, left.far);
        names_few = omega (arith, asked.names_few, left.far, right.forward);
        forward = omega (arith, left.far, right.forward);
        run = run_then left.run right.run;
      }

pub equation_stops : {s : List ℕ} {at start p : ℕ} {gates₀ gates : List ℕ} (names : List ℕ) → LeftSide s at start → RightStopped s start gates₀ gates p →
    LinesStopped s at gates₀ names gates names p
equation_stops names left right = record { halts = halts_then left.run right.halts; gates_size = right.size; names_size = refl }

-- Equations so far.
module _ {s : List ℕ} {at inputs : ℕ} {gates₀ names₀ : List ℕ} (asked : EquationsAsked s at gates₀ names₀ inputs) where
  pub sofar_none : Sofar s at gates₀ names₀ inputs gates₀ names₀ at 0 inputs
  unfolding all_triples all_size equation_nodes definition_pairs
  sofar_none =
      record {
        equations = [];
        equating = Equations.none;
        gates_stored = refl;
        names_stored = refl;
        made_is = refl;
        listed_is = omega arith;
        begins = asked.begins;
        gates_few = omega arith;
        names_few = asked.names_few;
        empty = asked.empty;
        run = Runs.stay;
      }

  module _ {gates names : List ℕ} {next made listed : ℕ} (sofar : Sofar s at gates₀ names₀ inputs gates names next made listed) where
    pub sofar_gates_size : length gates ≡ length gates₀
    sofar_gates_size = ap length sofar.gates_stored ∙ length-sets gates₀ 0 (all_triples 0 sofar.equations)

    pub sofar_names_size : length names ≡ length names₀
    sofar_names_size = ap length sofar.names_stored ∙ length-sets names₀ (2 * inputs) (definition_pairs (equation_nodes inputs sofar.equations))

    pub sofar_more : {gates' names' : List ℕ} {next' count : ℕ} → EquationHere s next gates made names listed inputs gates' names' next' count →
        Sofar s at gates₀ names₀ inputs gates' names' next' count (listed + 1)
    unfolding definition_pairs
    sofar_more {gates'} {names'} {next'} {count} here =
        record {
          equations = grown;
          equating = equations_more sofar.equating here.equates;
          gates_stored = gates_stored;
          names_stored = names_stored;
          made_is = omega (arith, here.counted, sofar.made_is, all_size_more last qs);
          listed_is = omega (arith, sofar.listed_is, length-append qs (last ∷ []));
          begins = here.begins;
          gates_few = here.gates_few;
          names_few = here.names_few;
          empty = empty;
          run = run_then sofar.run here.run;
        }
      where
        qs : List Equation
        qs = sofar.equations

        last : Equation
        last = record { place = next; tree = here.tree }

        grown : List Equation
        grown = qs ++ (last ∷ [])

        gates_stored : gates' ≡ sets gates₀ 0 (all_triples 0 grown)
        gates_stored =
            here.gates_stored ∙ ap (λ (l : List ℕ). sets l (3 * made) (equation_triples made here.tree)) sofar.gates_stored
            ∙ ap (λ (i : ℕ). sets (sets gates₀ 0 (all_triples 0 qs)) i (equation_triples made here.tree)) (omega (arith, sofar.made_is, all_triples_size 0 qs))
            ∙ sets_append gates₀ 0 (all_triples 0 qs) (equation_triples made here.tree)
            ∙ ap (λ (m : ℕ). sets gates₀ 0 (all_triples 0 qs ++ equation_triples m here.tree)) (omega (arith, sofar.made_is))
            ∙ ap (sets gates₀ 0) (sym (all_triples_more last 0 qs))

        pair : ℕ → List ℕ
        pair node = next ∷ node ∷ []

        names_stored : names' ≡ sets names₀ (2 * inputs) (definition_pairs (equation_nodes inputs grown))
        names_stored =
            here.names_stored
            ∙ ap (λ (l : List ℕ). sets l (2 * listed) (pair (inputs + made + equation_size here.tree - 1))) sofar.names_stored
            ∙ ap₂ (λ (i m : ℕ). sets (sets names₀ (2 * inputs) (definition_pairs (equation_nodes inputs qs))) i (pair (inputs + m + equation_size here.tree - 1)))
            (omega (arith, sofar.listed_is, pairs_size (equation_nodes inputs qs), equation_nodes_size inputs qs)) sofar.made_is
            ∙ sets_append names₀ (2 * inputs) (definition_pairs (equation_nodes inputs qs)) (pair (inputs + all_size qs + equation_size here.tree - 1))
            ∙ ap (sets names₀ (2 * inputs)) (sym (ap definition_pairs (nodes_more last inputs qs) ∙ pairs_append (equation_nodes inputs qs) (last_node last inputs qs ∷ [])))

        empty : Empty gates' count
        empty i above =
            ap (λ (l : List ℕ). get_or l i 0) here.gates_stored
            ∙ stored_beside gates (3 * made) (equation_triples made here.tree) i (inr (omega (arith, here.counted, equation_triples_size made here.tree)))
            ∙ sofar.empty i (omega (arith, here.counted))

    -- where it stops
    pub sofar_stops : {gates' names' : List ℕ} {p : ℕ} → LinesStopped s next gates names gates' names' p → LinesStopped s at gates₀ names₀ gates' names' p
    sofar_stops stopped =
        record {
          halts = halts_then sofar.run stopped.halts;
          gates_size = stopped.gates_size ∙ sofar_gates_size;
          names_size = stopped.names_size ∙ sofar_names_size;
        }
