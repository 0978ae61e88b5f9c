-- How much the arrays hold of a text: three places a gate, two a name, and a node for each definition.
use Prim.Native.Nat.{ℕ, suc, ◌+◌, ◌*◌}
use native.Mathlib.Omega.{arith}
use mathlib.Core.Path.{◌≡◌, refl, ap, ◌∙◌}
use mathlib.Core.List.{List, [], ◌∷◌, ◌++◌, map}
use lib.ListN.{length, length-append, length-map}
use Rattle.grammar.specs.paper.Grammar.{Tree, Equation, System}
use Rattle.grammar.specs.paper.Names.{place_of, definitions}
use Rattle.grammar.specs.paper.Gates.{size_of, equation_size, all_size, Definition, input_nodes, equation_nodes, nodes_of, not_table}
use Rattle.grammar.specs.Stored.{operand_of, triple, triples, equation_triples, all_triples, definition_pairs, output_pairs}

-- Gates

pub triples_size : (made : ℕ) (e : Tree) → length (triples made e) ≡ 3 * size_of e
unfolding triples size_of
triples_size made (Tree.name p) = refl
triples_size made (Tree.not e) =
    length-append (triples made e) (triple not_table (operand_of made e) (operand_of made e)) ∙ omega (arith, triples_size made e)
triples_size made (Tree.and e f) =
    length-append (triples made e ++ triples (made + size_of e) f) (triple _ (operand_of made e) (operand_of (made + size_of e) f))
    ∙ omega (arith, length-append (triples made e) (triples (made + size_of e) f), triples_size made e, triples_size (made + size_of e) f)
triples_size made (Tree.or e f) =
    length-append (triples made e ++ triples (made + size_of e) f) (triple _ (operand_of made e) (operand_of (made + size_of e) f))
    ∙ omega (arith, length-append (triples made e) (triples (made + size_of e) f), triples_size made e, triples_size (made + size_of e) f)

pub equation_triples_size : (made : ℕ) (e : Tree) → length (equation_triples made e) ≡ 3 * equation_size e
unfolding equation_triples equation_size
equation_triples_size made (Tree.name p) = refl
equation_triples_size made (Tree.not e) = triples_size made (Tree.not e)
equation_triples_size made (Tree.and e f) = triples_size made (Tree.and e f)
equation_triples_size made (Tree.or e f) = triples_size made (Tree.or e f)

pub all_triples_size : (made : ℕ) (qs : List Equation) → length (all_triples made qs) ≡ 3 * all_size qs
unfolding all_triples all_size
all_triples_size made [] = refl
all_triples_size made (q ∷ qs) =
    length-append (equation_triples made q.tree) (all_triples (made + equation_size q.tree) qs)
    ∙ omega (arith, equation_triples_size made q.tree, all_triples_size (made + equation_size q.tree) qs)

-- Names

pub pairs_append : (ds es : List Definition) → definition_pairs (ds ++ es) ≡ definition_pairs ds ++ definition_pairs es
unfolding definition_pairs
pairs_append [] es = refl
pairs_append (d ∷ ds) es = ap (λ (l : List ℕ). d.place ∷ d.node ∷ l) (pairs_append ds es)

pub pairs_size : (ds : List Definition) → length (definition_pairs ds) ≡ 2 * length ds
unfolding definition_pairs
pairs_size [] = refl
pairs_size (d ∷ ds) = omega (arith, pairs_size ds)

pub outputs_size : (ps : List ℕ) → length (output_pairs ps) ≡ 2 * length ps
unfolding output_pairs
outputs_size [] = refl
outputs_size (p ∷ ps) = omega (arith, outputs_size ps)

-- Definitions

pub definitions_size : (sys : System) → length (definitions sys) ≡ length sys.inputs + length sys.equations
definitions_size sys = length-append sys.inputs (map place_of sys.equations) ∙ ap (λ (n : ℕ). length sys.inputs + n) (length-map sys.equations place_of)

pub input_nodes_size : (n : ℕ) (ps : List ℕ) → length (input_nodes n ps) ≡ length ps
unfolding input_nodes
input_nodes_size n [] = refl
input_nodes_size n (p ∷ ps) = ap suc (input_nodes_size (suc n) ps)

pub equation_nodes_size : (n : ℕ) (qs : List Equation) → length (equation_nodes n qs) ≡ length qs
unfolding equation_nodes
equation_nodes_size n [] = refl
equation_nodes_size n (q ∷ qs) = ap suc (equation_nodes_size (n + equation_size q.tree) qs)

pub nodes_size : (sys : System) → length (nodes_of sys) ≡ length sys.inputs + length sys.equations
nodes_size sys =
    length-append (input_nodes 0 sys.inputs) (equation_nodes (length sys.inputs) sys.equations)
    ∙ omega (arith, input_nodes_size 0 sys.inputs, equation_nodes_size (length sys.inputs) sys.equations)
