-- What a run to the end passes first: blanks, and the rest of a word that it is in. From both on it goes on as a run.
use Prim.Native.Nat.{ℕ, suc, ◌≤◌, ◌<◌}
use native.Mathlib.Omega.{arith}
use mathlib.Core.Path.{◌≡◌, refl, sym, ap, ◌∙◌, subst}
use mathlib.Core.Logic.{◌⊎◌, inl, inr}
use mathlib.Core.Bool.{Bool, true, false}
use mathlib.Core.List.{List, [], ◌∷◌}
use lib.ListN.{length}
use native.Mathlib.Decide.{ℕ_discrete}
use Rattle.grammar.specs.paper.Text.{byte_at, is_blank, is_letter, is_word_byte, word_out, most_letters}
use Rattle.grammar.specs.paper.Grammar.{between, Blanks, Name}
use Rattle.grammar.specs.Machine.{Which, State, Move, is_keyword, move, Runs}
use Rattle.grammar.proofs.Bytes.{letter_in_word, not_in, not_out, same_word_is}
use Rattle.grammar.proofs.Words.{between_grows, between_one, length_between}
use Rattle.grammar.proofs.Runs.{one_move, is_done, not_done}
use Rattle.grammar.proofs.Moves.{Place, in_name, behind_name, onward, Waits, Word, waits_move, behind_move, not_letter}
use Rattle.grammar.proofs.Inversions.{behind_word, WordMove, LeftMove, word_cases, unless_is, left_cases, done_is}

-- Blanks.
pub blanks_none : {s : List ℕ} (i : ℕ) → Blanks s i i
blanks_none i = record { ordered = omega arith; each = λ m low high. absurd (omega arith) }

pub blanks_more : {s : List ℕ} {i j : ℕ} → is_blank (byte_at s i) ≡ true → Blanks s (suc i) j → Blanks s i j
blanks_more {s} {i} {j} here rest = record { ordered = omega (arith, rest.ordered); each = each }
  where
    each : (m : ℕ) → i ≤ m → m < j → is_blank (byte_at s m) ≡ true
    each m low high = by_place (ℕ_discrete m i)
      where
        by_place : Dec (m ≡ i) → is_blank (byte_at s m) ≡ true
        by_place (yes e) = rw e here
        by_place (no later) = rest.each m (omega arith) high

-- at the first byte that is no blank
pub record Skipped (s : List ℕ) (end : ℕ) (q : State) (i : ℕ) : Type 0 where
  pub stop : ℕ
  pub blanks : Blanks s i stop
  pub no_blank : is_blank (byte_at s stop) ≡ false
  pub inside : stop < length s
  pub next : State
  pub moves : move q (byte_at s stop) ≡ Move.to next
  pub rest : Runs s next (suc stop) State.done end

pub skip : {s : List ℕ} {end i : ℕ} {q : State} → Runs s q i State.done end → Waits q → (q ≡ State.done → ⊥) → Skipped s end q i
skip Runs.stay waits unfinished = absurd (unfinished refl)
skip {s} {end} (Runs.go {q = q} {q₁ = q₁} {i = i} inside moves rest) waits unfinished =
    by_test (is_blank (byte_at s i)) refl (λ still unfinished'. skip rest still unfinished')
  where
    by_test : (t : Bool) → is_blank (byte_at s i) ≡ t → (Waits q₁ → (q₁ ≡ State.done → ⊥) → Skipped s end q₁ (suc i)) → Skipped s end q i
    by_test true here further =
        let same : q₁ ≡ q = one_move moves (waits_move (byte_at s i) waits here) in
        let later = subst (λ x. Skipped s end x (suc i)) same (further (rw same waits) (λ e. unfinished (sym same ∙ e))) in
        record {
          stop = later.stop;
          blanks = blanks_more here later.blanks;
          no_blank = later.no_blank;
          inside = later.inside;
          next = later.next;
          moves = later.moves;
          rest = later.rest;
        }
    by_test false none further =
        record { stop = i; blanks = blanks_none i; no_blank = none; inside = inside; next = q₁; moves = moves; rest = rest }

-- behind the last `;` there are only blanks
pub done_blanks : {s : List ℕ} {end i : ℕ} {q : State} → Runs s q i State.done end → q ≡ State.done → Blanks s i end
done_blanks {i = i} Runs.stay is = blanks_none i
done_blanks {s} (Runs.go {q₁ = q₁} {i = i} inside moves rest) is =
    let (here, still) = done_is (byte_at s i) q₁ (rw is at moves) in
    blanks_more here (done_blanks rest still)

-- Words: where the word ends, and what is behind it.
pub record WordEnd (s : List ℕ) (end : ℕ) (c : Place) (a : ℕ) : Type 0 where
  pub stop : ℕ
  pub word : Word s a stop
  pub no_word : is_word_byte (byte_at s stop) ≡ false
  pub inside : stop < length s
  pub next : State
  pub moves : behind_word c (between s a stop) (byte_at s stop) ≡ Move.to next
  pub rest : Runs s next (suc stop) State.done end

name_not_done : (c : Place) (w : List ℕ) → is_done (in_name c w) ≡ false
name_not_done (Place.operand d) w = refl
name_not_done (Place.line x) w = refl
name_not_done Place.equation w = refl

word_longer : {s : List ℕ} {a i : ℕ} → Word s a i → i < length s → length (between s a i) < most_letters → is_word_byte (byte_at s i) ≡ true → Word s a (suc i)
word_longer {s} {a} {i} word inside few here =
    record { some = omega (arith, word.some); few = omega (arith, length_between s a i (omega arith), word.some); letter = word.letter; each = each }
  where
    each : (m : ℕ) → a ≤ m → m < suc i → is_word_byte (byte_at s m) ≡ true
    each m low high = by_place (ℕ_discrete m i)
      where
        by_place : Dec (m ≡ i) → is_word_byte (byte_at s m) ≡ true
        by_place (yes e) = rw e here
        by_place (no earlier) = word.each m low (omega arith)

pub word_ends : {s : List ℕ} {end a i : ℕ} {q : State} (c : Place) → Runs s q i State.done end → q ≡ in_name c (between s a i) → Word s a i → WordEnd s end c a
word_ends {s} {a = a} {i = i} c Runs.stay is word = absurd (not_done (in_name c (between s a i)) (name_not_done c (between s a i)) (sym is))
word_ends {s} {end} {a} c (Runs.go {q₁ = q₁} {i = i} inside moves rest) is word =
    by_move (word_cases c (between s a i) (byte_at s i) q₁ (rw is at moves)) (λ same longer. word_ends c rest same longer)
  where
    by_move : WordMove c (between s a i) (byte_at s i) q₁ → (q₁ ≡ in_name c (between s a (suc i)) → Word s a (suc i) → WordEnd s end c a) → WordEnd s end c a
    by_move (WordMove.grows here few same) further =
        further (same ∙ ap (in_name c) (sym (between_grows s a i (omega (arith, word.some)) inside))) (word_longer word inside few here)
    by_move (WordMove.behind no_word goes) further =
        record { stop = i; word = word; no_word = no_word; inside = inside; next = q₁; moves = goes; rest = rest }

-- a word that has just begun
pub word_begun : {s : List ℕ} {end a : ℕ} {q : State} (c : Place) → a < length s → is_letter (byte_at s a) ≡ true → q ≡ in_name c (byte_at s a ∷ []) →
    Runs s q (suc a) State.done end → WordEnd s end c a
word_begun {s} {end} {a} c inside letter is run =
    word_ends c run (is ∙ ap (in_name c) (sym (between_one s a inside)))
    (record {
      some = omega arith;
      few = omega arith;
      letter = letter;
      each = λ m low high. let same : m ≡ a = omega arith in rw same (letter_in_word (byte_at s a) letter);
    })

-- a name, and the run that goes on behind it
pub record NameRead (s : List ℕ) (end : ℕ) (c : Place) (a : ℕ) : Type 0 where
  pub stop : ℕ
  pub name : Name s a stop
  pub no_word : is_word_byte (byte_at s stop) ≡ false
  pub rest : Runs s (behind_name c) stop State.done end

pub plain_name : {s : List ℕ} {a j : ℕ} → Word s a j → is_keyword (between s a j) ≡ false → Name s a j
plain_name {s} {a} {j} word plain =
    record {
      some = word.some;
      few = word.few;
      letter = word.letter;
      each = word.each;
      not_in = not_in (between s a j) plain;
      not_out = not_out (between s a j) plain;
    }

name_then : {s : List ℕ} {end a : ℕ} (c : Place) (word : WordEnd s end c a) → is_keyword (between s a word.stop) ≡ false →
    onward c (byte_at s word.stop) ≡ Move.to word.next → NameRead s end c a
name_then {s} c word plain goes =
    let stop = word.stop in
    record {
      stop = stop;
      name = plain_name word.word plain;
      no_word = word.no_word;
      rest = Runs.go word.inside (behind_move c (byte_at s stop) (not_letter (byte_at s stop) word.no_word) ∙ goes) word.rest;
    }

pub operand_name : {s : List ℕ} {end d a : ℕ} → WordEnd s end (Place.operand d) a → NameRead s end (Place.operand d) a
operand_name {s} {d = d} {a = a} word =
    let (plain, goes) = unless_is (between s a word.stop) (onward (Place.operand d) (byte_at s word.stop)) word.next word.moves in
    name_then (Place.operand d) word plain goes

pub line_name : {s : List ℕ} {end a : ℕ} {x : Which} → WordEnd s end (Place.line x) a → NameRead s end (Place.line x) a
line_name {s} {a = a} {x = x} word =
    let (plain, goes) = unless_is (between s a word.stop) (onward (Place.line x) (byte_at s word.stop)) word.next word.moves in
    name_then (Place.line x) word plain goes

-- on an equation's left a name, or `out`
pub record OutRead (s : List ℕ) (end a : ℕ) : Type 0 where
  pub stop : ℕ
  pub inside : stop < length s
  pub keyword : between s a stop ≡ word_out
  pub some : a < stop
  pub blank : is_blank (byte_at s stop) ≡ true
  pub rest : Runs s (State.first Which.outs) (suc stop) State.done end

pub left_word : {s : List ℕ} {end a : ℕ} → WordEnd s end Place.equation a → NameRead s end Place.equation a ⊎ OutRead s end a
left_word {s} {end} {a} word = by_move (left_cases (between s a word.stop) (byte_at s word.stop) word.next word.moves)
  where
    by_move : LeftMove (between s a word.stop) (byte_at s word.stop) word.next → NameRead s end Place.equation a ⊎ OutRead s end a
    by_move (LeftMove.names plain goes) = inl (name_then Place.equation word plain goes)
    by_move (LeftMove.outputs same blank is) =
        inr
        (record {
          stop = word.stop;
          inside = word.inside;
          keyword = same_word_is (between s a word.stop) word_out same;
          some = word.word.some;
          blank = blank;
          rest = subst (λ q. Runs s q (suc word.stop) State.done end) is word.rest;
        })
