-- What is said of one name: a definition that is there already, a name that nothing defines, an operand that is a gate.
use Prim.Native.Nat.{ℕ, ◌≤◌, ◌<◌}
use native.Mathlib.Omega.{arith}
use mathlib.Core.Path.{◌≡◌, refl, sym, subst, ◌∙◌}
use mathlib.Core.Bool.{Bool, true, false, not}
use mathlib.Core.List.{List}
use Rattle.std.specs.Bool.{then_some}
use Rattle.storage.specs.Marks.{Tells}
use Rattle.grammar.specs.paper.Text.{most_text, word_at}
use Rattle.std.specs.Prelude.{Option, None}
use Rattle.naming.specs.Stored.{place_in}
use Rattle.naming.specs.Wrongs.{LeastOf, Among, AgainAt, UndefinedAt, UndefinedOperand}
use Rattle.naming.proofs.Leasts.{least_same}

module _ {s names : List ℕ} {i place : ℕ} (here : place ≡ place_in names i) where
  pub again_told : {b : Bool} → Tells (Among s names i (word_at s place)) b → LeastOf (AgainAt s names i) (then_some b place)
  again_told {b = true} told = LeastOf.at (record { here = here; before = told.yes refl }) (λ q h. omega (arith, h.here))
  again_told {b = false} told =
      LeastOf.nowhere (λ q h. told.no refl (subst (λ (p : ℕ). Among s names i (word_at s p)) (h.here ∙ sym here) h.before))

module _ {s names : List ℕ} {defined place : ℕ} where
  pub undefined_told : {b : Bool} → Tells (Among s names defined (word_at s place)) b → LeastOf (UndefinedAt s names defined place) (then_some (not b) place)
  undefined_told {b = true} told =
      LeastOf.nowhere (λ q h. h.nowhere (subst (λ (p : ℕ). Among s names defined (word_at s p)) (sym h.here) (told.yes refl)))
  undefined_told {b = false} told = LeastOf.at (record { here = refl; nowhere = told.no refl }) (λ q h. omega (arith, h.here))

  -- an operand below the text's limit is a name's place, any other none
  pub operand_name : {r : Option ℕ} → place < most_text → LeastOf (UndefinedAt s names defined place) r → LeastOf (UndefinedOperand s names defined place) r
  operand_name low = least_same (λ p h. record { name = omega (arith, h.here); undefined = h }) (λ p h. h.undefined)

  pub operand_gate : most_text ≤ place → LeastOf (UndefinedOperand s names defined place) None
  operand_gate high = LeastOf.nowhere (λ q h. omega (arith, h.name, h.undefined.here))
