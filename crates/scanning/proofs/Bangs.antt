-- Signs `!`, one after the other: whatever factor stands behind them is one with them.
use Prim.Native.Nat.{ℕ, ◌+◌, ◌≤◌, ◌<◌}
use native.Mathlib.Omega.{arith}
use mathlib.Core.Path.{◌≡◌, sym, subst, ◌∙◌}
use mathlib.Core.Bool.{false}
use mathlib.Core.List.{List}
use lib.ListN.{length}
use Rattle.grammar.specs.paper.Text.{byte_at, bang, is_blank}
use Rattle.grammar.specs.paper.Grammar.{Tree, Factor, Sign}
use Rattle.grammar.specs.Machine.{State, Runs}
use Rattle.grammar.proofs.Bytes.{sign_within}
use Rattle.grammar.proofs.Runs.{run_then}
use Rattle.grammar.proofs.Moves.{run_bang}
use Rattle.spelling.specs.Spelling.{Skipped}
use Rattle.scanning.specs.Reading.{nots}
use Rattle.scanning.proofs.Holding.{nots_inner, nots_one}
use Rattle.scanning.proofs.Ends.{sign_of}

-- so far
pub record SoFar (s : List ℕ) (at next count : ℕ) : Type 0 where
  pub few : count + at ≤ next
  pub within : next ≤ length s
  pub ends : is_blank (byte_at s next) ≡ false
  pub negates : (n j : ℕ) (e : Tree) → Factor s n next j e → Factor s n at j (nots count e)
  pub run : (d : ℕ) → Runs s (State.wants d) at (State.wants d) next

pub bangs_none : {s : List ℕ} {at : ℕ} → at ≤ length s → is_blank (byte_at s at) ≡ false → SoFar s at at 0
unfolding nots
bangs_none within ends = record { few = omega arith; within = within; ends = ends; negates = λ n j e f. f; run = λ d. Runs.stay }

module _ {s : List ℕ} {at next count : ℕ} (so_far : SoFar s at next count) (here : byte_at s next ≡ bang) where
  pub bang_inside : next < length s
  bang_inside = sign_within s next bang (omega arith) here

  pub bangs_more : {next' : ℕ} → Skipped s (next + 1) next' → SoFar s at next' (count + 1)
  bangs_more {next'} skipped =
      let low : next < length s = bang_inside in
      let sign : Sign s bang next next' = sign_of here skipped in
      let few = so_far.few in
      let ordered : next + 1 ≤ next' = skipped.blanks.ordered in
      record {
        few = omega arith;
        within = skipped.within (omega arith);
        ends = skipped.ends;
        negates = λ n j e f.
            subst (λ (g : Tree). Factor s n at j g) (nots_inner count e ∙ sym (nots_one count e))
            (so_far.negates n j (Tree.not e) (Factor.negated sign f));
        run = λ d. run_then (so_far.run d) (run_bang sign);
      }
