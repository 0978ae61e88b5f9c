-- Gates by threes: those of a system, put behind each other, are what the array holds; so the j-th gate of the array is the j-th three.
use Prim.Native.Nat.{ℕ, zero, suc, ◌+◌, ◌*◌, ◌<◌}
use native.Mathlib.Nat.{le_of_suc-le-suc, not-suc-le-zero}
use native.Mathlib.Omega.{arith}
use mathlib.Core.Path.{◌≡◌, refl, ap, ◌∙◌}
use mathlib.Core.List.{List, [], ◌∷◌, ◌++◌}
use lib.ListN.{length, get_or, take, length-append}
use lib.Seq.{get_or-take}
use Rattle.grammar.specs.paper.Grammar.{Tree, Equation}
use Rattle.grammar.specs.paper.Gates.{size_of, equation_size, all_size, not_table, pass_table, and_table, or_table}
use Rattle.grammar.specs.Stored.{operand_of, triples, equation_triples, all_triples}
use Rattle.naming.specs.Lines.{Three, three, three_in}

unfoldable pub threes_of : (made : ℕ) → Tree → List Three
threes_of made (Tree.name p) = []
threes_of made (Tree.not e) = threes_of made e ++ (three not_table (operand_of made e) (operand_of made e) ∷ [])
threes_of made (Tree.and e f) =
    threes_of made e ++ threes_of (made + size_of e) f ++ (three and_table (operand_of made e) (operand_of (made + size_of e) f) ∷ [])
threes_of made (Tree.or e f) =
    threes_of made e ++ threes_of (made + size_of e) f ++ (three or_table (operand_of made e) (operand_of (made + size_of e) f) ∷ [])

unfoldable pub equation_threes : (made : ℕ) → Tree → List Three
equation_threes made (Tree.name p) = three pass_table p p ∷ []
equation_threes made (Tree.not e) = threes_of made (Tree.not e)
equation_threes made (Tree.and e f) = threes_of made (Tree.and e f)
equation_threes made (Tree.or e f) = threes_of made (Tree.or e f)

unfoldable pub all_threes : (made : ℕ) → List Equation → List Three
all_threes made [] = []
all_threes made (q ∷ qs) = equation_threes made q.tree ++ all_threes (made + equation_size q.tree) qs

-- Behind each other

unfoldable pub flat : List Three → List ℕ
flat [] = []
flat (t ∷ ts) = t.table ∷ t.left ∷ t.right ∷ flat ts

flat_append : (a b : List Three) → flat (a ++ b) ≡ flat a ++ flat b
unfolding flat
flat_append [] b = refl
flat_append (t ∷ a) b = ap (λ (l : List ℕ). t.table ∷ t.left ∷ t.right ∷ l) (flat_append a b)

flat_last : (a : List Three) (t : Three) {x : List ℕ} → flat a ≡ x → flat (a ++ (t ∷ [])) ≡ x ++ (t.table ∷ t.left ∷ t.right ∷ [])
unfolding flat
flat_last a t e = flat_append a (t ∷ []) ∙ ap (λ (l : List ℕ). l ++ flat (t ∷ [])) e

flat_both : (a b : List Three) {x y : List ℕ} → flat a ≡ x → flat b ≡ y → flat (a ++ b) ≡ x ++ y
flat_both a b {x} e f = flat_append a b ∙ ap (λ (l : List ℕ). l ++ flat b) e ∙ ap (λ (l : List ℕ). x ++ l) f

flat_two : (a b : List Three) (t : Three) {x y : List ℕ} → flat a ≡ x → flat b ≡ y → flat (a ++ b ++ (t ∷ [])) ≡ x ++ y ++ (t.table ∷ t.left ∷ t.right ∷ [])
flat_two a b t e f = flat_last (a ++ b) t (flat_both a b e f)

flat_threes : (made : ℕ) (e : Tree) → flat (threes_of made e) ≡ triples made e
unfolding flat threes_of triples
flat_threes made (Tree.name p) = refl
flat_threes made (Tree.not e) = flat_last (threes_of made e) _ (flat_threes made e)
flat_threes made (Tree.and e f) = flat_two (threes_of made e) (threes_of (made + size_of e) f) _ (flat_threes made e) (flat_threes (made + size_of e) f)
flat_threes made (Tree.or e f) = flat_two (threes_of made e) (threes_of (made + size_of e) f) _ (flat_threes made e) (flat_threes (made + size_of e) f)

flat_equation : (made : ℕ) (e : Tree) → flat (equation_threes made e) ≡ equation_triples made e
unfolding flat equation_threes equation_triples
flat_equation made (Tree.name p) = refl
flat_equation made (Tree.not e) = flat_threes made (Tree.not e)
flat_equation made (Tree.and e f) = flat_threes made (Tree.and e f)
flat_equation made (Tree.or e f) = flat_threes made (Tree.or e f)

pub flat_all : (made : ℕ) (qs : List Equation) → flat (all_threes made qs) ≡ all_triples made qs
unfolding flat all_threes all_triples
flat_all made [] = refl
flat_all made (q ∷ qs) =
    flat_both (equation_threes made q.tree) (all_threes (made + equation_size q.tree) qs) (flat_equation made q.tree)
    (flat_all (made + equation_size q.tree) qs)

-- How many

threes_size : (made : ℕ) (e : Tree) → length (threes_of made e) ≡ size_of e
unfolding threes_of size_of
threes_size made (Tree.name p) = refl
threes_size made (Tree.not e) = simp length-append (omega (arith, threes_size made e))
threes_size made (Tree.and e f) = simp length-append (omega (arith, threes_size made e, threes_size (made + size_of e) f))
threes_size made (Tree.or e f) = simp length-append (omega (arith, threes_size made e, threes_size (made + size_of e) f))

equation_threes_size : (made : ℕ) (e : Tree) → length (equation_threes made e) ≡ equation_size e
unfolding equation_threes equation_size
equation_threes_size made (Tree.name p) = refl
equation_threes_size made (Tree.not e) = threes_size made (Tree.not e)
equation_threes_size made (Tree.and e f) = threes_size made (Tree.and e f)
equation_threes_size made (Tree.or e f) = threes_size made (Tree.or e f)

pub all_threes_size : (made : ℕ) (qs : List Equation) → length (all_threes made qs) ≡ all_size qs
unfolding all_threes all_size
all_threes_size made [] = refl
all_threes_size made (q ∷ qs) =
    simp length-append (omega (arith, equation_threes_size made q.tree, all_threes_size (made + equation_size q.tree) qs))

-- One by one

abbrev pub no_three : Three
no_three = three 0 0 0

three_in_flat : (ts : List Three) (j : ℕ) → j < length ts → three_in (flat ts) j ≡ get_or ts j no_three
unfolding flat
three_in_flat [] j h = absurd (not-suc-le-zero h)
three_in_flat (t ∷ ts) zero h = refl
three_in_flat (t ∷ ts) (suc j) h =
    let table : 3 * suc j ≡ suc (suc (suc (3 * j))) = omega arith in
    let left : 3 * suc j + 1 ≡ suc (suc (suc (3 * j + 1))) = omega arith in
    let right : 3 * suc j + 2 ≡ suc (suc (suc (3 * j + 2))) = omega arith in
    let all = flat (t ∷ ts) in
    ap (λ (i : ℕ). three (get_or all i 0) (get_or all (3 * suc j + 1) 0) (get_or all (3 * suc j + 2) 0)) table
    ∙ ap (λ (i : ℕ). three (get_or (flat ts) (3 * j) 0) (get_or all i 0) (get_or all (3 * suc j + 2) 0)) left
    ∙ ap (λ (i : ℕ). three (get_or (flat ts) (3 * j) 0) (get_or (flat ts) (3 * j + 1) 0) (get_or all i 0)) right
    ∙ three_in_flat ts j (le_of_suc-le-suc h)

-- an array's gates are those of its beginning
three_in_part : (gates : List ℕ) (made j : ℕ) → j < made → three_in gates j ≡ three_in (take (3 * made) gates) j
three_in_part gates made j low =
    let table = get_or-take (3 * made) gates (3 * j) 0 (omega arith) in
    let left = get_or-take (3 * made) gates (3 * j + 1) 0 (omega arith) in
    let right = get_or-take (3 * made) gates (3 * j + 2) 0 (omega arith) in
    cc

pub three_at : (gates : List ℕ) (made : ℕ) (ts : List Three) → take (3 * made) gates ≡ flat ts → length ts ≡ made → (j : ℕ) → j < made →
    three_in gates j ≡ get_or ts j no_three
three_at gates made ts stored size j low =
    three_in_part gates made j low ∙ ap (λ (l : List ℕ). three_in l j) stored ∙ three_in_flat ts j (omega arith)
