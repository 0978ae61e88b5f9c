-- Behind an operand: where a name, a bracket or a sign leads the machine, and where it stops.
use Prim.Native.Nat.{ℕ, suc, ◌+◌, ◌-◌, ◌≤◌, ◌<◌}
use native.Mathlib.Decide.{dec_lt}
use native.Mathlib.Numerals.{add-one}
use native.Mathlib.Omega.{arith}
use mathlib.Core.Path.{◌≡◌, refl, sym, ap, subst, ◌∙◌}
use mathlib.Core.Bool.{Bool, true, false, true≢false}
use mathlib.Core.Logic.{◌⊎◌, inl, inr, ⊎_elim}
use mathlib.Core.List.{List}
use lib.Dec.{eqb}
use lib.ListN.{length}
use borrow.Author.Tests.{eqb-true, ne_eqb, lt-ltb}
use Rattle.grammar.specs.paper.Text.{
  byte_at,
  bang,
  star,
  plus,
  opening,
  closing,
  semicolon,
  is_blank,
  is_letter,
  is_digit,
  is_word_byte,
  most_letters,
  most_brackets,
}
use Rattle.grammar.specs.paper.Grammar.{between, Blanks, Sign}
use Rattle.grammar.specs.Machine.{State, Move, move, behind_operand, Runs, Halts}
use Rattle.grammar.proofs.Bytes.{or_cases, test_fails, letter_high, digit_between, word_byte_high, word_byte_no_blank}
use Rattle.grammar.proofs.Words.{length_between}
use Rattle.grammar.proofs.Runs.{run_then}
use Rattle.grammar.proofs.Moves.{Place, Due, Ended, Waits, run_word, run_gap_ended, run_opening, run_sign, word_full, word_move, keyword_stuck, name_word}
use Rattle.grammar.proofs.Stops.{wants_stuck, operand_stuck}
use Rattle.spelling.specs.Spelling.{Skipped, Named, Unnamed}
use Rattle.scanning.specs.Reading.{Behind}

-- a sign and the blanks that were skipped behind it
pub sign_of : {s : List ℕ} {sign i j : ℕ} → byte_at s i ≡ sign → Skipped s (i + 1) j → Sign s sign i j
sign_of {s} {i = i} {j = j} here skipped =
    record { here = here; blanks = subst (λ (k : ℕ). Blanks s k j) (add-one i) skipped.blanks }

-- no letter or digit is `;`
word_byte_no_end : (b : ℕ) → is_word_byte b ≡ true → eqb b semicolon ≡ false
unfolding is_word_byte
word_byte_no_end b e =
    test_fails (eqb b semicolon)
    (λ h.
    ⊎_elim (λ (l : is_letter b ≡ true). omega (arith, letter_high b l, eqb-true b semicolon h))
    (λ (d : is_digit b ≡ true). omega (arith, (digit_between b d).1, eqb-true b semicolon h)) (or_cases (is_letter b) (is_digit b) e))

word_byte_stuck : (d b : ℕ) → is_word_byte b ≡ true → behind_operand d b ≡ Move.stuck
word_byte_stuck d b e =
    let high : 48 ≤ b = word_byte_high b e in
    operand_stuck d b (word_byte_no_blank b e) (ne_eqb b star (λ h. omega arith)) (ne_eqb b plus (λ h. omega arith))
    (inl (ne_eqb b closing (λ h. omega arith))) (inl (word_byte_no_end b e))

-- states of an expression are not done
wants_undone : {d : ℕ} → State.wants d ≡ State.done → ⊥
wants_undone e = let z : ◌≡◌ {A = ℕ} 0 1 = cc in omega arith

used_undone : {d : ℕ} {w : List ℕ} → State.used d w ≡ State.done → ⊥
used_undone e = let z : ◌≡◌ {A = ℕ} 0 1 = cc in omega arith

has_undone : {d : ℕ} → State.has d ≡ State.done → ⊥
has_undone e = let z : ◌≡◌ {A = ℕ} 0 1 = cc in omega arith

module _ {s : List ℕ} {d : ℕ} where
  -- behind a name that goes on no further
  pub behind_name_lem : {i a j : ℕ} → Named s i a → Skipped s a j → Behind s d i j
  unfolding move
  behind_name_lem {i} {a} {j} named skipped = by_order (dec_lt a j)
    where
      run : Runs s (State.wants d) i (State.used d (between s i a)) a
      run = run_word {c = Place.operand d} Due.wants (name_word named.name)

      full : a ≡ i + most_letters → most_letters ≤ length (between s i a)
      full e = omega (arith, length_between s i a named.within)

      by_byte : (b : ℕ) (t : Bool) → is_word_byte b ≡ t → (is_word_byte b ≡ false) ⊎ (a ≡ i + most_letters) →
          move (State.used d (between s i a)) b ≡ behind_operand d b
      by_byte b false e ends = word_move (Place.operand d) (between s i a) b named.plain e
      by_byte b true e (inl h) = absurd (true≢false (sym e ∙ h))
      by_byte b true e (inr h) = word_full (Place.operand d) (between s i a) b e (full h) ∙ sym (word_byte_stuck d b e)

      by_order : Dec (a < j) → Behind s d i j
      by_order (yes some) =
          record {
            state = State.has d;
            run = run_then run
                (run_gap_ended {c = Place.operand d} (Ended.in_word_lem (between s i a) named.plain refl)
                (record { some = some; blanks = skipped.blanks }));
            next_move = refl;
            undone = has_undone;
          }
      by_order (no none) =
          let same : a ≡ j = omega (arith, skipped.blanks.ordered) in
          subst (λ (k : ℕ). Behind s d i k) same
          (record {
            state = State.used d (between s i a);
            run = run;
            next_move = by_byte (byte_at s a) (is_word_byte (byte_at s a)) refl named.ends;
            undone = used_undone;
          })

  -- behind what leads to where an operand is due
  pub behind_run : {i k j : ℕ} → Runs s (State.wants d) i (State.wants d) k → Behind s d k j → Behind s d i j
  behind_run run b = record { state = b.state; run = run_then run b.run; next_move = b.next_move; undone = b.undone }

  -- a sign between two operands
  pub sign_leads : (sign : ℕ) {i j k : ℕ} → 0 < sign → behind_operand d sign ≡ Move.to (State.wants d) → Behind s d i j → Sign s sign j k →
      Runs s (State.wants d) i (State.wants d) k
  sign_leads sign {i} {j} {k} some leads b here =
      let moves : move b.state sign ≡ Move.to (State.wants d) =
      ap (move b.state) (sym here.here) ∙ b.next_move ∙ ap (behind_operand d) here.here ∙ leads in
      run_then b.run (run_sign some moves Waits.wants here)

  -- behind a bracket
  pub behind_bracket : {i a b j : ℕ} → d < most_brackets → Sign s opening i a → Behind s (suc d) a b → Sign s closing b j → Behind s d i j
  unfolding move behind_operand is_blank
  behind_bracket {i} {a} {b} {j} low opens inner close =
      let down : suc d - 1 ≡ d = omega arith in
      let closes : behind_operand (suc d) closing ≡ Move.to (State.has d) = rw (lt-ltb 0 (suc d) (omega arith), down) in
      let moves : move inner.state closing ≡ Move.to (State.has d) =
      ap (move inner.state) (sym close.here) ∙ inner.next_move ∙ ap (behind_operand (suc d)) close.here ∙ closes in
      record {
        state = State.has d;
        run = run_then (run_opening low opens) (run_then inner.run (run_sign (omega arith) moves Waits.has close));
        next_move = refl;
        undone = has_undone;
      }

  -- no name where an operand is due
  pub halts_unnamed : {i p : ℕ} → Unnamed s i p → is_blank (byte_at s i) ≡ false → (byte_at s i ≡ bang → ⊥) → (byte_at s i ≡ opening → ⊥) →
      Halts s (State.wants d) i p
  halts_unnamed {i} {p} (Unnamed.no_letter same no_letter) no_blank no_bang no-opening =
      subst (λ (k : ℕ). Halts s (State.wants d) i k) (sym same)
      (record {
        state = State.wants d;
        run = Runs.stay;
        no_move = wants_stuck d (byte_at s i) no_blank (ne_eqb (byte_at s i) bang no_bang) (inl (ne_eqb (byte_at s i) opening no-opening)) no_letter;
        early = λ e. absurd (wants_undone e);
      })
  halts_unnamed {i} {p} (Unnamed.keyword k) no_blank no_bang no-opening =
      record {
        state = State.used d (between s i p);
        run = run_word {c = Place.operand d} Due.wants (record { some = k.some; few = k.few; letter = k.letter; each = k.each });
        no_move = keyword_stuck (Place.operand d) (between s i p) (byte_at s p) k.keyword k.ends
            (λ e f. let z : ◌≡◌ {A = ℕ} 0 1 = cc in omega arith);
        early = λ e. absurd (used_undone e);
      }

  -- one bracket too many
  pub halts_deep : {i : ℕ} → byte_at s i ≡ opening → most_brackets ≤ d → Halts s (State.wants d) i i
  unfolding is_blank is_letter
  halts_deep {i} here deep =
      record {
        state = State.wants d;
        run = Runs.stay;
        no_move = ap (move (State.wants d)) here ∙ wants_stuck d opening refl refl (inr deep) refl;
        early = λ e. absurd (wants_undone e);
      }

-- a bracket that does not close
pub halts_unclosed : {s : List ℕ} {d i j : ℕ} → Behind s (suc d) i j → is_blank (byte_at s j) ≡ false → (byte_at s j ≡ star → ⊥) → (byte_at s j ≡ plus → ⊥) →
    (byte_at s j ≡ closing → ⊥) → Halts s (State.wants (suc d)) i j
halts_unclosed {s} {d} {i} {j} b no_blank no_star no_plus no_closing =
    let byte = byte_at s j in
    record {
      state = b.state;
      run = b.run;
      no_move = b.next_move
          ∙ operand_stuck (suc d) byte no_blank (ne_eqb byte star no_star) (ne_eqb byte plus no_plus) (inl (ne_eqb byte closing no_closing)) (inr (omega arith));
      early = λ e. absurd (b.undone e);
    }
