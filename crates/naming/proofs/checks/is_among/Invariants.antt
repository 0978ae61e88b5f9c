-- `is_among` meets its contract: none of the names passed has the word.
use Prim.Native.Nat.{ℕ, ◌<◌}
use mathlib.Core.Path.{◌≡◌}
use Rattle.grammar.specs.paper.Text.{word_at}
use Rattle.naming.specs.Stored.{place_in}
use Rattle.naming.proofs.checks.is_among.Given as goal

abbrev pub invariant-loop-i : goal.invariant-loop-i
invariant-loop-i l = (k : ℕ) → k < l.i → word_at l.equations.text.now (place_in l.equations.names.now k) ≡ word_at l.equations.text.now l.place → ⊥
