-- Is a node in a list of nodes? And LUTs by the list of their roots.
use Rattle.std.specs.Prelude.{ℕ, List, [], ◌∷◌, Bool, false, ◌||◌, eqb}
use Rattle.theory.specs.paper.Cover.{Luts}

-- is v in the list?
unfoldable pub is_member : ℕ → List ℕ → Bool
is_member v [] = false
is_member v (u ∷ us) = eqb v u || is_member v us

-- LUTs as the list of their roots, and the leaves of each
abbrev pub luts_of : List ℕ → (ℕ → List ℕ) → Luts
luts_of roots leaves = record { root = λ v. is_member v roots; leaves = leaves }
