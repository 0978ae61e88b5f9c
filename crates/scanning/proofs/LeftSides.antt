-- The left side of an equation, or `out`: what stands there and the machine's run over it.
use Prim.Native.Nat.{ℕ, ◌+◌}
use native.Mathlib.Omega.{arith}
use native.Mathlib.Decide.{ℕ_discrete}
use mathlib.Core.Path.{◌≡◌, refl, sym, ap, ◌∙◌, subst}
use mathlib.Core.Logic.{◌⊎◌, inl, inr}
use mathlib.Core.List.{List}
use lib.ListN.{length}
use borrow.Author.Tests.{ne_eqb}
use Rattle.grammar.specs.paper.Text.{byte_at, equals, word_in, word_out}
use Rattle.grammar.specs.paper.Grammar.{between}
use Rattle.grammar.specs.Machine.{State, Move, Runs, Halts, move, behind_left}
use Rattle.grammar.proofs.Bytes.{keyword_is}
use Rattle.grammar.proofs.Words.{length_between}
use Rattle.grammar.proofs.Moves.{Place, Due, Ended, Word, run_word, run_name_blanks, run_equals, run_gap_ended, keyword_stuck, name_word}
use Rattle.grammar.proofs.Runs.{run_then}
use Rattle.grammar.proofs.Stops.{between_lines_stuck, left_stuck}
use Rattle.spelling.specs.Spelling.{Named, Unnamed, Keyword}
use Rattle.scanning.specs.Equations.{Begins, EqualsHere, NoEquals, LeftSide, OutHere}
use Rattle.scanning.proofs.Entries.{named_onward}

module _ {s : List ℕ} where
  pub left_side : {at end start : ℕ} → Named s at end → EqualsHere s end start → LeftSide s at start
  left_side {at} {end} named here =
      let reached = run_name_blanks Due.between_lines named.name here.blanks in
      record {
        name_end = end;
        named = named.name;
        here = here;
        far = omega (arith, named.name.some, here.blanks.ordered, here.equals_sign.blanks.ordered);
        run = run_then reached.run (run_equals reached.ended here.equals_sign);
      }

  -- behind a name no `=` stands
  pub no_equals : {at end p : ℕ} → Named s at end → NoEquals s end p → Halts s State.between_lines at p
  unfolding move
  no_equals {at} {end} {p} named nothing = by_place (ℕ_discrete end p)
    where
      word : Runs s State.between_lines at (State.left (between s at end)) end
      word = run_word Due.between_lines (name_word named.name)

      stuck : behind_left (byte_at s p) ≡ Move.stuck
      stuck = left_stuck (byte_at s p) nothing.solid (ne_eqb (byte_at s p) equals nothing.other)

      by_place : Dec (end ≡ p) → Halts s State.between_lines at p
      by_place (yes is) =
          subst (Halts s State.between_lines at) is
          (record {
            state = State.left (between s at end);
            run = word;
            no_move = named_onward Place.equation named ∙ ap (λ (j : ℕ). behind_left (byte_at s j)) is ∙ stuck;
            early = λ e. let z : ◌≡◌ {A = ℕ} 0 1 = cc in omega arith;
          })
      by_place (no apart) =
          record {
            state = State.named;
            run =
                run_then word
                (run_gap_ended {c = Place.equation} (Ended.in_word_lem (between s at end) named.plain refl)
                (record { some = omega (arith, nothing.blanks.ordered); blanks = nothing.blanks }));
            no_move = stuck;
            early = λ e. let z : ◌≡◌ {A = ℕ} 0 1 = cc in omega arith;
          }

  keyword_word : {i j : ℕ} → Keyword s i j → Word s i j
  keyword_word k = record { some = k.some; few = k.few; letter = k.letter; each = k.each }

  pub out_here : {at p : ℕ} → Unnamed s at p → p ≡ at + 3 → OutHere s at p
  out_here {at} {p} (Unnamed.no_letter is no_letter) far = absurd (omega arith)
  out_here {at} {p} (Unnamed.keyword k) far =
      record {
        size = far;
        keyword = ap (between s at) (sym far) ∙ word;
        ends = k.ends;
        within = k.within;
        run = subst (λ (w : List ℕ). Runs s State.between_lines at (State.left w) p) word (run_word Due.between_lines (keyword_word k));
      }
    where
      which : (between s at p ≡ word_in) ⊎ (between s at p ≡ word_out) → between s at p ≡ word_out
      which (inl is) = absurd (omega (arith, length_between s at p k.within, ap length is))
      which (inr is) = is

      word : between s at p ≡ word_out
      word = which (keyword_is (between s at p) k.keyword)

  pub no_left : {at p : ℕ} → Begins s at → Unnamed s at p → (p ≡ at + 3 → ⊥) → Halts s State.between_lines at p
  no_left {at} begins (Unnamed.no_letter is no_letter) near =
      subst (Halts s State.between_lines at) (sym is)
      (record {
        state = State.between_lines;
        run = Runs.stay;
        no_move = between_lines_stuck (byte_at s at) begins.solid no_letter;
        early = λ e. let z : ◌≡◌ {A = ℕ} 0 1 = cc in omega arith;
      })
  no_left {at} {p} begins (Unnamed.keyword k) near =
      record {
        state = State.left (between s at p);
        run = run_word Due.between_lines (keyword_word k);
        no_move =
            keyword_stuck Place.equation (between s at p) (byte_at s p) k.keyword k.ends
            (λ e is. near (omega (arith, length_between s at p k.within, ap length is, k.some)));
        early = λ e. let z : ◌≡◌ {A = ℕ} 0 1 = cc in omega arith;
      }
