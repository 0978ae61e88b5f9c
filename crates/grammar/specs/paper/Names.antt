-- Names: where they are defined, where they are used, and what is wrong with them.
use Rattle.std.specs.Prelude.{ℕ, ◌<◌, ◌≡◌}
use mathlib.Core.List.{List, [], ◌∷◌, ◌++◌, map, flat_map, Memᴰ}
use Rattle.grammar.specs.paper.Text.{word_at}
use Rattle.grammar.specs.paper.Grammar.{Tree, Equation, System}

-- the places of the names in an expression, left to right
unfoldable pub names_in : Tree → List ℕ
names_in (Tree.name p) = p ∷ []
names_in (Tree.not e) = names_in e
names_in (Tree.and e f) = names_in e ++ names_in f
names_in (Tree.or e f) = names_in e ++ names_in f

abbrev pub place_of : Equation → ℕ
place_of q = q.place

abbrev pub used_by : Equation → List ℕ
used_by q = names_in q.tree

-- the places where a name is defined, "inputs included", and those where one is used, outputs included
abbrev pub definitions : System → List ℕ
definitions sys = sys.inputs ++ map place_of sys.equations

abbrev pub uses : System → List ℕ
uses sys = flat_map used_by sys.equations ++ sys.outputs

-- "name used but nowhere defined, or defined again (inputs included)"
pub data Misnamed (s : List ℕ) (sys : System) (p : ℕ) : Type 0 where
  undefined : Memᴰ p (uses sys) → ((d : ℕ) → Memᴰ d (definitions sys) → word_at s d ≡ word_at s p → ⊥) → Misnamed s sys p
  again : (d : ℕ) → Memᴰ p (definitions sys) → Memᴰ d (definitions sys) → d < p → word_at s d ≡ word_at s p → Misnamed s sys p

abbrev pub WellNamed : List ℕ → System → Type 0
WellNamed s sys = (p : ℕ) → Misnamed s sys p → ⊥

-- "the earliest such place"
pub record FirstMisnamed (s : List ℕ) (sys : System) (p : ℕ) : Type 0 where
  pub misnamed : Misnamed s sys p
  pub earliest : (q : ℕ) → q < p → Misnamed s sys q → ⊥
