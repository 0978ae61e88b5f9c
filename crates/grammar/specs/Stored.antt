-- What the readers keep of a text, in two lent arrays. `gates` has three places a gate: its function table, its left operand and its right operand; a
-- gate of one operand has it twice. An operand is the place of a name, or most_text and the gate's number. `names` has two places a name behind `in`, on
-- an equation's left or behind `out`: its place, and the node it stands for, which is 0 behind `out`.
use Rattle.std.specs.Prelude.{ℕ, ◌+◌, List, [], ◌∷◌, ◌++◌}
use Rattle.grammar.specs.paper.Text.{most_text}
use Rattle.grammar.specs.paper.Grammar.{Tree, Equation, System}
use Rattle.grammar.specs.paper.Gates.{size_of, equation_size, Definition, nodes_of, not_table, pass_table, and_table, or_table}

-- the operand that an expression is, where its gates are numbered from `made` on
unfoldable pub operand_of : (made : ℕ) → Tree → ℕ
operand_of made (Tree.name p) = p
operand_of made (Tree.not e) = most_text + (made + size_of e)
operand_of made (Tree.and e f) = most_text + (made + (size_of e + size_of f))
operand_of made (Tree.or e f) = most_text + (made + (size_of e + size_of f))

-- one gate
abbrev pub triple : (table left right : ℕ) → List ℕ
triple table left right = table ∷ left ∷ right ∷ []

-- the gates of an expression
unfoldable pub triples : (made : ℕ) → Tree → List ℕ
triples made (Tree.name p) = []
triples made (Tree.not e) = triples made e ++ triple not_table (operand_of made e) (operand_of made e)
triples made (Tree.and e f) =
    triples made e ++ triples (made + size_of e) f ++ triple and_table (operand_of made e) (operand_of (made + size_of e) f)
triples made (Tree.or e f) =
    triples made e ++ triples (made + size_of e) f ++ triple or_table (operand_of made e) (operand_of (made + size_of e) f)

-- of an equation
unfoldable pub equation_triples : (made : ℕ) → Tree → List ℕ
equation_triples made (Tree.name p) = triple pass_table p p
equation_triples made (Tree.not e) = triples made (Tree.not e)
equation_triples made (Tree.and e f) = triples made (Tree.and e f)
equation_triples made (Tree.or e f) = triples made (Tree.or e f)

-- of all equations
unfoldable pub all_triples : (made : ℕ) → List Equation → List ℕ
all_triples made [] = []
all_triples made (q ∷ qs) = equation_triples made q.tree ++ all_triples (made + equation_size q.tree) qs

unfoldable pub definition_pairs : List Definition → List ℕ
definition_pairs [] = []
definition_pairs (d ∷ ds) = d.place ∷ d.node ∷ definition_pairs ds

unfoldable pub output_pairs : List ℕ → List ℕ
output_pairs [] = []
output_pairs (p ∷ ps) = p ∷ 0 ∷ output_pairs ps

-- all that is kept of a text's names
abbrev pub name_pairs : System → List ℕ
name_pairs sys = definition_pairs (nodes_of sys) ++ output_pairs sys.outputs
