-- What stands behind a word of a line of names, and that the machine halts where neither a name nor `;` does.
use Prim.Native.Nat.{ℕ, ◌+◌, ◌≤◌}
use native.Mathlib.Omega.{arith}
use mathlib.Core.Path.{◌≡◌, refl, sym, ap, ◌∙◌, subst}
use mathlib.Core.Logic.{◌⊎◌, inl, inr}
use native.Mathlib.Decide.{ℕ_discrete}
use mathlib.Core.Bool.{Bool, true, false, ◌&&◌}
use mathlib.Core.List.{List}
use lib.ListN.{length}
use lib.Dec.{eqb}
use borrow.Author.Tests.{eqb-true}
use Rattle.storage.proofs.Entries.{false_not_true}
use Rattle.grammar.specs.paper.Text.{byte_at, star, plus, closing, semicolon, equals, is_blank, is_letter, is_digit, is_word_byte, most_letters}
use Rattle.grammar.specs.paper.Grammar.{between, Gap}
use Rattle.grammar.specs.Machine.{Which, State, Move, Runs, Halts, move, end_of, behind_listed}
use Rattle.grammar.proofs.Bytes.{test_fails, word_byte_no_blank, sign_within, blank_within}
use Rattle.grammar.proofs.Words.{length_between}
use Rattle.grammar.proofs.Moves.{Place, in_name, onward, Due, word_move, word_full, keyword_stuck, run_word, run_blanks, Waits, name_word}
use Rattle.grammar.proofs.Runs.{run_then}
use Rattle.grammar.proofs.Stops.{operand_stuck, listed_stuck, left_stuck, first_stuck, next_stuck}
use Rattle.spelling.specs.Spelling.{Skipped, Named, Unnamed}
use Rattle.scanning.specs.Lines.{behind_word, NextName, LineEnd, NoEntry}

-- a letter or digit is no sign
word_byte_no_sign : (b sign : ℕ) → is_word_byte sign ≡ false → is_word_byte b ≡ true → eqb b sign ≡ false
word_byte_no_sign b sign no_word e = test_fails (eqb b sign) (λ h. false_not_true (ap is_word_byte (eqb-true b sign h) ∙ no_word) e)

onward_word_byte : (c : Place) (b : ℕ) → is_word_byte b ≡ true → onward c b ≡ Move.stuck
unfolding is_word_byte is_letter is_digit
onward_word_byte (Place.operand d) b e =
    operand_stuck d b (word_byte_no_blank b e) (word_byte_no_sign b star refl e) (word_byte_no_sign b plus refl e)
    (inl (word_byte_no_sign b closing refl e)) (inl (word_byte_no_sign b semicolon refl e))
onward_word_byte (Place.line x) b e = listed_stuck x b (word_byte_no_blank b e) (word_byte_no_sign b semicolon refl e)
onward_word_byte Place.equation b e = left_stuck b (word_byte_no_blank b e) (word_byte_no_sign b equals refl e)

-- behind a name that goes on no further a byte does what it does behind any name
pub named_onward : {s : List ℕ} {i j : ℕ} (c : Place) → Named s i j → move (in_name c (between s i j)) (byte_at s j) ≡ onward c (byte_at s j)
named_onward {s} {i} {j} c named = by_byte (is_word_byte (byte_at s j)) refl
  where
    full : is_word_byte (byte_at s j) ≡ true → (is_word_byte (byte_at s j) ≡ false) ⊎ (j ≡ i + most_letters) → most_letters ≤ length (between s i j)
    full e (inl no_word) = absurd (false_not_true no_word e)
    full e (inr is) = omega (arith, length_between s i j named.within)

    by_byte : (t : Bool) → is_word_byte (byte_at s j) ≡ t → move (in_name c (between s i j)) (byte_at s j) ≡ onward c (byte_at s j)
    by_byte true e = word_full c (between s i j) (byte_at s j) e (full e named.ends) ∙ sym (onward_word_byte c (byte_at s j) e)
    by_byte false e = word_move c (between s i j) (byte_at s j) named.plain e

-- what the code's test of a byte says
pub told : (some : Bool) {b c : ℕ} {t v : Bool} → b ≡ c → t ≡ (some && eqb b semicolon) → t ≡ v → (some && eqb c semicolon) ≡ v
told some is test value = ap (λ (n : ℕ). some && eqb n semicolon) (sym is) ∙ sym test ∙ value

module _ {s : List ℕ} {at : ℕ} (some : Bool) where
  pub entry_unnamed : {a p : ℕ} → Skipped s at a → (some && eqb (byte_at s a) semicolon) ≡ false → (a ≡ at → ⊥) → Unnamed s a p → NoEntry s at some p
  entry_unnamed {a} skipped no_end apart unnamed =
      NoEntry.unnamed a (record { some = omega (arith, skipped.blanks.ordered, apart); blanks = skipped.blanks }) skipped.ends no_end unnamed

-- the state in which blanks behind a word of the line leave the machine: a name is due there
abbrev after_gap : Which → (some : Bool) → State
after_gap x true = State.next x
after_gap x false = State.first x

gap_due : (x : Which) (some : Bool) → Due (Place.line x) (after_gap x some)
gap_due x true = Due.next
gap_due x false = Due.first

gap_waits : (x : Which) (some : Bool) → Waits (after_gap x some)
gap_waits x true = Waits.next
gap_waits x false = Waits.first

end_waits : (x : Which) → Waits (end_of x)
unfolding end_of
end_waits Which.ins = Waits.between_lines
end_waits Which.outs = Waits.done

gap_alive : (x : Which) (some : Bool) → after_gap x some ≡ State.done → ⊥
gap_alive x true e = let z : ◌≡◌ {A = ℕ} 0 1 = cc in omega arith
gap_alive x false e = let z : ◌≡◌ {A = ℕ} 0 1 = cc in omega arith

gap_move : (x : Which) (some : Bool) (b : ℕ) → is_blank b ≡ true → behind_word x some b ≡ Move.to (after_gap x some)
unfolding behind_word behind_listed
gap_move x true b e = rw e
gap_move x false b e = rw e

gap_stuck : (x : Which) (some : Bool) (b : ℕ) → is_blank b ≡ false → is_letter b ≡ false → (some && eqb b semicolon) ≡ false →
    move (after_gap x some) b ≡ Move.stuck
gap_stuck x true b no_blank no_letter no_end = next_stuck x b no_blank no_letter no_end
gap_stuck x false b no_blank no_letter no_end = first_stuck x b no_blank no_letter

word_stuck : (x : Which) (some : Bool) (b : ℕ) → is_blank b ≡ false → (some && eqb b semicolon) ≡ false → behind_word x some b ≡ Move.stuck
unfolding behind_word
word_stuck x true b no_blank no_end = listed_stuck x b no_blank no_end
word_stuck x false b no_blank no_end = rw no_blank

-- The machine in a state that takes the byte at hand as a word of the line does.
module _ {s : List ℕ} (x : Which) (some : Bool) {q : State} {at : ℕ} (takes : move q (byte_at s at) ≡ behind_word x some (byte_at s at)) where
  gap_run : {a : ℕ} → Gap s at a → Runs s q at (after_gap x some) a
  gap_run gap =
      let blank = gap.blanks.each at (omega arith) gap.some in
      Runs.go (blank_within s at blank) (takes ∙ gap_move x some (byte_at s at) blank)
      (run_blanks (gap_waits x some) (record { ordered = gap.some; each = λ m low high. gap.blanks.each m (omega arith) high }))

  pub entry_run : {from end : ℕ} → NextName s at from end → Runs s q at (State.listed x (between s from end)) end
  entry_run next = run_then (gap_run next.gap) (run_word (gap_due x some) (name_word next.named.name))

  -- where nothing can stand the machine halts
  pub entry_halts : {p : ℕ} → (q ≡ State.done → ⊥) → NoEntry s at some p → Halts s q at p
  entry_halts alive (NoEntry.bare is no_blank no_end) =
      subst (Halts s q at) (sym is)
      (record {
        state = q;
        run = Runs.stay;
        no_move = takes ∙ word_stuck x some (byte_at s at) no_blank no_end;
        early = λ e. absurd (alive e);
      })
  entry_halts alive (NoEntry.unnamed a gap no_blank no_end (Unnamed.no_letter is no_letter)) =
      subst (Halts s q at) (sym is)
      (record {
        state = after_gap x some;
        run = gap_run gap;
        no_move = gap_stuck x some (byte_at s a) no_blank no_letter no_end;
        early = λ e. absurd (gap_alive x some e);
      })
  entry_halts {p} alive (NoEntry.unnamed a gap no_blank no_end (Unnamed.keyword k)) =
      record {
        state = State.listed x (between s a p);
        run =
            run_then (gap_run gap)
            (run_word (gap_due x some) (record { some = k.some; few = k.few; letter = k.letter; each = k.each }));
        no_move =
            keyword_stuck (Place.line x) (between s a p) (byte_at s p) k.keyword k.ends
            (λ e. let z : ◌≡◌ {A = ℕ} 0 1 = cc in omega arith);
        early = λ e. let z : ◌≡◌ {A = ℕ} 0 1 = cc in omega arith;
      }

-- behind a name, `;` ends the line
pub end_run : {s : List ℕ} (x : Which) {q : State} {at next : ℕ} → move q (byte_at s at) ≡ behind_word x true (byte_at s at) → LineEnd s at true next →
    Runs s q at (end_of x) next
unfolding behind_word behind_listed move is_blank is_letter
end_run {s} x {q} {at} {next} takes end = by_place (ℕ_discrete at end.stop)
  where
    behind : {q₁ : State} → Runs s q at q₁ end.stop → move q₁ (byte_at s end.stop) ≡ behind_listed x (byte_at s end.stop) → Runs s q at (end_of x) next
    behind run same =
        run_then run
        (Runs.go (sign_within s end.stop semicolon (omega arith) end.end.here)
        (same ∙ ap (behind_listed x) end.end.here) (run_blanks (end_waits x) end.end.blanks))

    by_place : Dec (at ≡ end.stop) → Runs s q at (end_of x) next
    by_place (yes is) = behind (subst (λ (j : ℕ). Runs s q at q j) is Runs.stay) (subst (λ (j : ℕ). move q (byte_at s j) ≡ behind_listed x (byte_at s j)) is takes)
    by_place (no apart) =
        behind (gap_run x true takes (record { some = omega (arith, end.blanks.ordered); blanks = end.blanks }))
        (ap (move (State.next x)) end.end.here ∙ ap (behind_listed x) (sym end.end.here))
