-- The bytes between two places of a text: how they grow by a byte, how many they are, and which byte is which.
use Prim.Native.Nat.{ℕ, suc, ◌+◌, ◌-◌, ◌≤◌, ◌<◌}
use native.Mathlib.Omega.{arith}
use mathlib.Core.Path.{◌≡◌, sym, ap, ◌∙◌}
use mathlib.Core.List.{List, [], ◌∷◌, ◌++◌}
use lib.ListN.{length, drop, get_or, length-take, length-drop}
use lib.Seq.{take-suc, get_or-take, get_or-drop}
use Rattle.grammar.specs.paper.Text.{byte_at}
use Rattle.grammar.specs.paper.Grammar.{between}

pub between_grows : (s : List ℕ) (i j : ℕ) → i ≤ j → j < length s → between s i (suc j) ≡ between s i j ++ (byte_at s j ∷ [])
between_grows s i j ordered inside =
    let more : suc j - i ≡ suc (j - i) = omega arith in
    let place : i + (j - i) ≡ j = omega arith in
    rw more (take-suc (drop i s) (j - i) 0 (rw length-drop (omega arith)) ∙ ap (λ b. between s i j ++ (b ∷ [])) (get_or-drop i s (j - i) 0 ∙ ap (byte_at s) place))

pub between_none : (s : List ℕ) (i : ℕ) → between s i i ≡ []
between_none s i = let none : i - i ≡ 0 = omega arith in rw none

pub between_one : (s : List ℕ) (i : ℕ) → i < length s → between s i (suc i) ≡ byte_at s i ∷ []
between_one s i inside = between_grows s i i (omega arith) inside ∙ rw (between_none s i)

pub length_between : (s : List ℕ) (i j : ℕ) → j ≤ length s → length (between s i j) ≡ j - i
length_between s i j inside = length-take (j - i) (drop i s) ∙ omega (arith, length-drop i s)

-- where the bytes are known, each of them is
pub between_at : (s : List ℕ) (i j k : ℕ) (w : List ℕ) → between s i j ≡ w → k < length w → byte_at s (i + k) ≡ get_or w k 0
between_at s i j k w e low =
    let short : length w ≤ j - i = omega (arith, ap length e, length-take (j - i) (drop i s)) in
    sym (get_or-drop i s k 0) ∙ (sym (get_or-take (j - i) (drop i s) k 0 (omega arith)) ∙ ap (λ v. get_or v k 0) e)
