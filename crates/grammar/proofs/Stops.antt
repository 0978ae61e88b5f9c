-- Where there is no move: in each state, the bytes that lead nowhere; behind the text's end no state has a move.
use Prim.Native.Nat.{ℕ, ◌≤◌, ◌<◌}
use mathlib.Core.Path.{◌≡◌, refl, ap, ◌∙◌}
use mathlib.Core.Logic.{◌⊎◌, inl, inr}
use mathlib.Core.Bool.{Bool, true, false, cond, ◌&&◌}
use mathlib.Core.List.{List, [], ◌∷◌}
use lib.Dec.{eqb, ltb}
use lib.ListN.{length, get_or-eq_default}
use native.Mathlib.Omega.{arith}
use borrow.Author.Tests.{le-ltb, ne_eqb}
use Rattle.grammar.specs.paper.Text.{
  byte_at,
  bang,
  star,
  plus,
  opening,
  closing,
  equals,
  semicolon,
  is_blank,
  is_letter,
  is_digit,
  is_word_byte,
  word_out,
  same_word,
  most_brackets,
}
use Rattle.grammar.specs.Machine.{
  Which,
  State,
  Move,
  is_keyword,
  in_word,
  behind_listed,
  behind_left,
  behind_operand,
  unless_keyword,
  move,
  Runs,
  Halts,
}
use Rattle.grammar.proofs.Runs.{run_then}

pub before_stuck : (b : ℕ) → is_blank b ≡ false → eqb b 105 ≡ false → move State.before b ≡ Move.stuck
unfolding move
before_stuck b no_blank no_i = rw (no_blank, no_i)

pub letter_i_stuck : (b : ℕ) → eqb b 110 ≡ false → move State.letter_i b ≡ Move.stuck
unfolding move
letter_i_stuck b no_n = rw no_n

pub first_stuck : (x : Which) (b : ℕ) → is_blank b ≡ false → is_letter b ≡ false → move (State.first x) b ≡ Move.stuck
unfolding move
first_stuck x b no_blank no_letter = rw (no_blank, no_letter)

pub listed_stuck : (x : Which) (b : ℕ) → is_blank b ≡ false → eqb b semicolon ≡ false → behind_listed x b ≡ Move.stuck
unfolding behind_listed
listed_stuck x b no_blank no_end = rw (no_blank, no_end)

pub next_stuck : (x : Which) (b : ℕ) → is_blank b ≡ false → is_letter b ≡ false → eqb b semicolon ≡ false → move (State.next x) b ≡ Move.stuck
unfolding move
next_stuck x b no_blank no_letter no_end = rw no_letter (listed_stuck x b no_blank no_end)

pub between_lines_stuck : (b : ℕ) → is_blank b ≡ false → is_letter b ≡ false → move State.between_lines b ≡ Move.stuck
unfolding move
between_lines_stuck b no_blank no_letter = rw (no_blank, no_letter)

pub left_stuck : (b : ℕ) → is_blank b ≡ false → eqb b equals ≡ false → behind_left b ≡ Move.stuck
unfolding behind_left
left_stuck b no_blank no_equals = rw (no_blank, no_equals)

pub wants_stuck : (d b : ℕ) → is_blank b ≡ false → eqb b bang ≡ false → (eqb b opening ≡ false) ⊎ (most_brackets ≤ d) → is_letter b ≡ false →
    move (State.wants d) b ≡ Move.stuck
unfolding move
wants_stuck d b no_blank no_bang (inl no-opening) no_letter = rw (no_blank, no_bang, no-opening, no_letter)
wants_stuck d b no_blank no_bang (inr deep) no_letter = rw (no_blank, no_bang, le-ltb d most_brackets deep) (no_bracket (eqb b opening))
  where
    no_bracket : (t : Bool) → cond (t && false) (Move.to (State.wants (Prim.Native.Nat.suc d))) (cond (is_letter b) (Move.to (State.used d (b ∷ []))) Move.stuck)
        ≡ Move.stuck
    no_bracket true = rw no_letter
    no_bracket false = rw no_letter

pub operand_stuck : (d b : ℕ) → is_blank b ≡ false → eqb b star ≡ false → eqb b plus ≡ false → (eqb b closing ≡ false) ⊎ (d ≡ 0) →
    (eqb b semicolon ≡ false) ⊎ (0 < d) → behind_operand d b ≡ Move.stuck
unfolding behind_operand
operand_stuck d b no_blank no_star no_plus no_closing no_end = rw (no_blank, no_star, no_plus, no_bracket no_closing, no_semicolon no_end)
  where
    with_false : (t : Bool) → (t && false) ≡ false
    with_false true = refl
    with_false false = refl

    no_bracket : (eqb b closing ≡ false) ⊎ (d ≡ 0) → (eqb b closing && ltb 0 d) ≡ false
    no_bracket (inl e) = rw e
    no_bracket (inr e) = rw (le-ltb 0 d (omega arith)) (with_false (eqb b closing))

    no_semicolon : (eqb b semicolon ≡ false) ⊎ (0 < d) → (eqb b semicolon && eqb d 0) ≡ false
    no_semicolon (inl e) = rw e
    no_semicolon (inr e) = rw (ne_eqb d 0 (omega arith)) (with_false (eqb b semicolon))

pub done_stuck : (b : ℕ) → is_blank b ≡ false → move State.done b ≡ Move.stuck
unfolding move
done_stuck b no_blank = rw no_blank

-- the text's end
same_both : {m : Move} (t : Bool) → m ≡ Move.stuck → cond t Move.stuck m ≡ Move.stuck
same_both true e = refl
same_both false e = e

pub end_stuck : (q : State) → move q 0 ≡ Move.stuck
unfolding move in_word behind_listed behind_left behind_operand unless_keyword is_blank is_letter is_digit is_word_byte
end_stuck State.before = refl
end_stuck State.letter_i = refl
end_stuck State.read_in = refl
end_stuck (State.first x) = refl
end_stuck (State.listed x w) = same_both (is_keyword w) refl
end_stuck (State.next x) = refl
end_stuck State.between_lines = refl
end_stuck (State.left w) = same_both (same_word w word_out) (same_both (is_keyword w) refl)
end_stuck State.named = refl
end_stuck (State.wants d) = refl
end_stuck (State.used d w) = same_both (is_keyword w) refl
end_stuck (State.has d) = refl
end_stuck State.done = refl

module _ {s : List ℕ} where
  -- a run to the end that is not done
  pub halts_at_end : {q q₁ : State} {i : ℕ} → Runs s q i q₁ (length s) → (q₁ ≡ State.done → ⊥) → Halts s q i (length s)
  halts_at_end {q} {q₁} run unfinished =
      record {
        state = q₁;
        run = run;
        no_move = ap (move q₁) (get_or-eq_default s 0 (omega arith)) ∙ end_stuck q₁;
        early = λ e. absurd (unfinished e);
      }

  -- a run to a byte that has no move
  pub halts_at : {q q₁ : State} {i p : ℕ} → p < length s → Runs s q i q₁ p → move q₁ (byte_at s p) ≡ Move.stuck → Halts s q i p
  halts_at {q₁ = q₁} inside run stuck = record { state = q₁; run = run; no_move = stuck; early = λ e. inside }

  -- what halts behind a run halts from its beginning
  pub halts_then : {q q₁ : State} {i j p : ℕ} → Runs s q i q₁ j → Halts s q₁ j p → Halts s q i p
  halts_then run halts = record { state = halts.state; run = run_then run halts.run; no_move = halts.no_move; early = halts.early }
