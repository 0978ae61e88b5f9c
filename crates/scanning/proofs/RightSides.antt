-- The right side of an equation: an expression and `;`. What is stored of it are the equation's gates, and the machine runs over it or halts in it.
use Prim.Native.Nat.{ℕ, ◌+◌, ◌*◌, ◌≤◌}
use native.Mathlib.Omega.{arith}
use native.Mathlib.Decide.{ℕ_discrete}
use mathlib.Core.Path.{◌≡◌, refl, sym, ap, ap₂, ◌∙◌, subst}
use mathlib.Core.Logic.{inl, inr}
use mathlib.Core.List.{List}
use lib.ListN.{length}
use lib.Seq.{sets}
use borrow.Author.Tests.{ne_eqb}
use Rattle.grammar.specs.paper.Text.{byte_at, semicolon, star, plus, is_blank, most_brackets}
use Rattle.grammar.specs.paper.Grammar.{Tree}
use Rattle.grammar.specs.paper.Gates.{size_of, equation_size, pass_table}
use Rattle.grammar.specs.Machine.{Runs, behind_operand}
use Rattle.grammar.specs.Stored.{operand_of, triple, triples, equation_triples}
use Rattle.grammar.proofs.Bytes.{sign_within}
use Rattle.grammar.proofs.Moves.{Waits, run_blanks}
use Rattle.grammar.proofs.Runs.{run_then}
use Rattle.grammar.proofs.Stops.{operand_stuck}
use Rattle.scanning.specs.declared.expressions.Piece.{Piece}
use Rattle.scanning.specs.Reading.{Holds, Got, WholeExpression}
use Rattle.scanning.proofs.Holding.{held_size}
use Rattle.scanning.proofs.Ends.{sign_of}
use Rattle.std.specs.Prelude.{Result, Ok, Err}
use Rattle.spelling.specs.declared.Stopped.{Stopped}
use Rattle.scanning.specs.declared.equations.Moved.{Moved}
use Rattle.scanning.specs.Equations.{Passed, EndRead, RightStopped, RightRead}

-- an equation's gates are those of its expression, or the one that passes a name's value on
module _ {gates₀ gates₁ gates : List ℕ} {made count : ℕ} {piece : Piece} where
  whole_kept : (e : Tree) → Passed piece made gates₁ gates count → Holds gates₀ made e gates₁ piece → 1 ≤ size_of e →
      (gates ≡ sets gates₀ (3 * made) (triples made e)) × (count ≡ made + size_of e)
  whole_kept e passed holds some =
      let (same, is) = passed.whole (λ bare. omega (arith, holds.count)) in
      (same ∙ holds.stored, is ∙ holds.count)

  kept : (e : Tree) → Passed piece made gates₁ gates count → Holds gates₀ made e gates₁ piece →
      (gates ≡ sets gates₀ (3 * made) (equation_triples made e)) × (count ≡ made + equation_size e)
  unfolding equation_triples equation_size triples size_of operand_of
  kept (Tree.name p) passed holds =
      let (stores, is) = passed.bare (omega (arith, holds.count)) in
      (stores ∙ ap₂ (λ (l : List ℕ) (x : ℕ). sets l (3 * made) (triple pass_table x x)) holds.stored holds.operand, is)
  kept (Tree.not e) passed holds = whole_kept (Tree.not e) passed holds (omega arith)
  kept (Tree.and e f) passed holds = whole_kept (Tree.and e f) passed holds (omega arith)
  kept (Tree.or e f) passed holds = whole_kept (Tree.or e f) passed holds (omega arith)

count_small : {gates₁ gates : List ℕ} {made count : ℕ} {piece : Piece} → Passed piece made gates₁ gates count → made ≤ piece.made → count ≤ piece.made + 1
count_small {made = made} {count = count} {piece = piece} passed more = by_test (ℕ_discrete piece.made made)
  where
    by_test : Dec (piece.made ≡ made) → count ≤ piece.made + 1
    by_test (yes is) = omega (arith, (passed.bare is).1, is)
    by_test (no differ) = omega (arith, (passed.whole differ).1)

module _ {s : List ℕ} {at made : ℕ} {gates₀ gates₁ : List ℕ} {piece : Piece} where
  pub right_read : (gates : List ℕ) (r : Result Moved Stopped) → Got s (WholeExpression s most_brackets at) most_brackets at gates₀ made gates₁ piece →
      EndRead s piece made gates₁ gates r → RightRead s at made gates₀ gates r
  unfolding behind_operand is_blank
  right_read gates (Ok moved) got end =
      let both = kept got.tree end.passed got.holds in
      let inside = sign_within s piece.next semicolon (omega arith) end.here in
      let sign = sign_of end.here end.skipped in
      record {
        tree = got.tree;
        stop = piece.next;
        expression = got.derived.derived;
        end = sign;
        stored = both.0;
        counted = both.1;
        slow = omega (arith, got.slow, count_small end.passed (omega (arith, got.holds.count)), sign.blanks.ordered);
        begins = record { within = end.skipped.within (omega arith); solid = end.skipped.ends };
        forward = omega (arith, got.moved, sign.blanks.ordered);
        run =
            run_then got.behind.run
            (Runs.go inside (got.behind.next_move ∙ ap (behind_operand 0) end.here) (run_blanks Waits.between_lines sign.blanks));
      }
  right_read gates (Err p) got end =
      subst (λ (q : ℕ). RightStopped s at gates₀ gates q) (sym end.place)
      (record {
        halts =
            record {
              state = got.behind.state;
              run = got.behind.run;
              no_move =
                  got.behind.next_move
                  ∙ operand_stuck 0 (byte_at s piece.next) got.ends (ne_eqb (byte_at s piece.next) star got.derived.no_star)
                  (ne_eqb (byte_at s piece.next) plus got.derived.no_plus) (inr refl)
                  (inl (ne_eqb (byte_at s piece.next) semicolon (λ e. end.other (ap (byte_at s) end.place ∙ e))));
              early = λ e. absurd (got.behind.undone e);
            };
        size = ap length end.kept ∙ held_size got.holds;
      })
