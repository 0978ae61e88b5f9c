-- What is said of a system's names is one answer: `named_one`.
use Prim.Native.Nat.{ℕ, ◌<◌}
use native.Mathlib.Decide.{dec_lt}
use native.Mathlib.Omega.{arith}
use mathlib.Core.Path.{◌≡◌, refl, ap}
use mathlib.Core.List.{List}
use Rattle.grammar.specs.paper.Grammar.{System}
use Rattle.grammar.specs.paper.Names.{FirstMisnamed}
use Rattle.std.specs.Prelude.{Option, Some, None}
use Rattle.naming.specs.Wrongs.{Named}

-- one earliest place of a name that is not right
pub misnamed_one : {s : List ℕ} {sys : System} {p q : ℕ} → FirstMisnamed s sys p → FirstMisnamed s sys q → p ≡ q
misnamed_one {p = p} {q = q} a b = same (dec_lt p q) (dec_lt q p)
  where
    same : Dec (p < q) → Dec (q < p) → p ≡ q
    same (yes low) other = absurd (b.earliest p low a.misnamed)
    same (no high) (yes low) = absurd (a.earliest q low b.misnamed)
    same (no high) (no low) = omega arith

pub named_one : (s : List ℕ) (sys : System) (r q : Option ℕ) → Named s sys r → Named s sys q → r ≡ q
named_one s sys None None a b = refl
named_one s sys None (Some q) a b = absurd (a q b.misnamed)
named_one s sys (Some p) None a b = absurd (b p a.misnamed)
named_one s sys (Some p) (Some q) a b = ap Some (misnamed_one a b)
