-- Backward, for whole texts: a run over the whole text is one of a well_formed text. Lines of names and equations are read from the left, each in runs of
-- at most f bytes.
use Prim.Native.Nat.{ℕ, zero, suc, ◌+◌, ◌≤◌, ◌<◌}
use native.Mathlib.Omega.{arith}
use mathlib.Core.Path.{◌≡◌, refl, ap, ◌∙◌, subst}
use mathlib.Core.Logic.{◌⊎◌, inl, inr}
use mathlib.Core.Bool.{true, false}
use mathlib.Core.List.{List, [], ◌∷◌}
use lib.ListN.{length}
use native.Mathlib.Decide.{dec_lt}
use Rattle.storage.proofs.Entries.{false_not_true}
use Rattle.grammar.specs.paper.Text.{byte_at, equals, semicolon, is_blank, is_letter, word_in, word_out, most_brackets}
use Rattle.grammar.specs.paper.Grammar.{
  between,
  Expression,
  Tree,
  Equation,
  System,
  Blanks,
  Gap,
  Name,
  Names,
  Equates,
  Equations,
  Line,
  WellFormed,
}
use Rattle.grammar.specs.Machine.{Which, State, Move, end_of, move, Runs}
use Rattle.grammar.proofs.Words.{between_grows, between_one, length_between}
use Rattle.grammar.proofs.Runs.{run_forward, not_done}
use Rattle.grammar.proofs.Moves.{Place, Waits, not_letter}
use Rattle.grammar.proofs.Inversions.{
  NextMove,
  next_cases,
  first_is,
  between_lines_is,
  named_is,
  before_is,
  letter_i_is,
  word_in_is,
}
use Rattle.grammar.proofs.Passing.{
  Skipped,
  skip,
  blanks_more,
  done_blanks,
  NameRead,
  OutRead,
  word_begun,
  line_name,
  left_word,
}
use Rattle.grammar.proofs.Backward.{Read, ExpressionEnd, expression_read}

-- the first move of a run to the end
record FirstMove (s : List ℕ) (end : ℕ) (q : State) (i : ℕ) : Type 0 where
  inside : i < length s
  next : State
  moves : move q (byte_at s i) ≡ Move.to next
  rest : Runs s next (suc i) State.done end

first_move : {s : List ℕ} {end i : ℕ} {q : State} → Runs s q i State.done end → (q ≡ State.done → ⊥) → FirstMove s end q i
first_move Runs.stay unfinished = absurd (unfinished refl)
first_move (Runs.go {q₁ = q₁} inside moves rest) unfinished = record { inside = inside; next = q₁; moves = moves; rest = rest }

-- how a line of names ends
record LineEnd (s : List ℕ) (end : ℕ) (x : Which) (i : ℕ) : Type 0 where
  stop : ℕ
  blanks : Blanks s i stop
  here : byte_at s stop ≡ semicolon
  rest : Runs s (end_of x) (suc stop) State.done end

data LineRest (s : List ℕ) (end : ℕ) (x : Which) (i : ℕ) : Type 0 where
  finish : LineEnd s end x i → LineRest s end x i
  more : (b : ℕ) (places : List ℕ) → Names s i b places → LineEnd s end x b → LineRest s end x i

record NamesRead (s : List ℕ) (end : ℕ) (x : Which) (i : ℕ) : Type 0 where
  names_end : ℕ
  places : List ℕ
  names : Names s i names_end places
  follows : LineEnd s end x names_end

module _ (s : List ℕ) (end : ℕ) where
  -- a name and the rest of its line
  name_and_rest : {x : Which} {i a b : ℕ} → Gap s i a → Name s a b → LineRest s end x b → NamesRead s end x i
  name_and_rest {a = a} {b = b} gap name (LineRest.finish follows) =
      record { names_end = b; places = a ∷ []; names = Names.one gap name; follows = follows }
  name_and_rest {a = a} gap name (LineRest.more c places names follows) =
      record { names_end = c; places = a ∷ places; names = Names.more gap name names; follows = follows }

  -- what stands between two names is a gap, since they don't touch
  gap_before : {i a : ℕ} → is_letter (byte_at s i) ≡ false → is_letter (byte_at s a) ≡ true → Blanks s i a → Gap s i a
  gap_before {i} {a} none letter blanks = by_order (dec_lt i a)
    where
      by_order : Dec (i < a) → Gap s i a
      by_order (yes some) = record { some = some; blanks = blanks }
      by_order (no same) =
          let e : a ≡ i = omega (arith, blanks.ordered) in
          absurd (false_not_true none (subst (λ k. is_letter (byte_at s k) ≡ true) e letter))

  rest_read : (f : ℕ) (x : Which) (i : ℕ) → end ≤ i + f → is_letter (byte_at s i) ≡ false → Runs s (State.next x) i State.done end → LineRest s end x i
  rest_read zero x i short none run =
      let skipped = skip run Waits.next (not_done (State.next x) refl) in
      absurd (omega (arith, skipped.blanks.ordered, run_forward skipped.rest))
  rest_read (suc f) x i short none run =
      let skipped = skip run Waits.next (not_done (State.next x) refl) in
      by_move skipped (λ j short' none' run'. rest_read f x j short' none' run')
      (next_cases x (byte_at s skipped.stop) skipped.next skipped.no_blank skipped.moves)
    where
      by_move : (skipped : Skipped s end (State.next x) i) →
          ((j : ℕ) → end ≤ j + f → is_letter (byte_at s j) ≡ false → Runs s (State.next x) j State.done end → LineRest s end x j) →
          NextMove x (byte_at s skipped.stop) skipped.next → LineRest s end x i
      by_move skipped further (NextMove.ends here is) =
          LineRest.finish (record { stop = skipped.stop; blanks = skipped.blanks; here = here; rest = rw is at skipped.rest })
      by_move skipped further (NextMove.begins letter is) =
          let read = line_name (word_begun (Place.line x) skipped.inside letter is skipped.rest) in
          let low : i ≤ skipped.stop = skipped.blanks.ordered in
          let ahead : skipped.stop < read.stop = read.name.some in
          let all =
          name_and_rest (gap_before none letter skipped.blanks) read.name
          (further read.stop (omega arith) (not_letter (byte_at s read.stop) read.no_word) read.rest) in
          LineRest.more all.names_end all.places all.names all.follows

  -- the names behind a keyword
  names_read : (x : Which) (i : ℕ) → is_blank (byte_at s i) ≡ true → Runs s (State.first x) (suc i) State.done end → NamesRead s end x i
  names_read x i blank run =
      let skipped = skip run Waits.first (not_done (State.first x) refl) in
      let (letter, is) = first_is x (byte_at s skipped.stop) skipped.next skipped.no_blank skipped.moves in
      let read = line_name (word_begun (Place.line x) skipped.inside letter is skipped.rest) in
      name_and_rest (record { some = skipped.blanks.ordered; blanks = blanks_more blank skipped.blanks }) read.name
      (rest_read end x read.stop (omega arith) (not_letter (byte_at s read.stop) read.no_word) read.rest)

  -- the line of outputs
  record OutputsRead (i : ℕ) : Type 0 where
    places : List ℕ
    line : Line s word_out i end places

  outputs_read : (i : ℕ) → OutRead s end i → OutputsRead i
  unfolding end_of
  outputs_read i read =
      let names = names_read Which.outs read.stop read.blank read.rest in
      let place : read.stop ≡ i + 3 =
      omega (arith, ap length read.keyword, length_between s i read.stop (omega (arith, read.inside)), read.some) in
      record {
        places = names.places;
        line =
            record {
              names_end = names.names_end;
              stop = names.follows.stop;
              keyword_here = rw place at read.keyword;
              names = subst (λ k. Names s k names.names_end names.places) place names.names;
              blanks = names.follows.blanks;
              end = record { here = names.follows.here; blanks = done_blanks names.follows.rest refl };
            };
      }

  -- equations and the line of outputs, from a byte that is no blank
  record EquationsRead (i : ℕ) : Type 0 where
    last : ℕ
    list : List Equation
    equations : Equations s i last list
    outputs : OutputsRead last

  -- one equation, and the run that goes on behind it and its blanks
  record EquationRead (i : ℕ) : Type 0 where
    tree : Tree
    semicolon_at : ℕ
    behind : Skipped s end State.between_lines (suc semicolon_at)
    equates : Equates s i behind.stop tree
    ahead : i < behind.stop

  equation_read : (i : ℕ) → NameRead s end Place.equation i → EquationRead i
  unfolding move
  equation_read i name =
      let skipped = skip name.rest Waits.named (not_done State.named refl) in
      let (sign, is) = named_is (byte_at s skipped.stop) skipped.next skipped.no_blank skipped.moves in
      let read = expression_read s end 0 most_brackets (suc skipped.stop) (omega arith) (rw is at skipped.rest) in
      by_end skipped sign read read.follows
    where
      by_end : (skipped : Skipped s end State.named name.stop) → byte_at s skipped.stop ≡ equals →
          (read : Read s (Expression s most_brackets) (ExpressionEnd s end 0) (suc skipped.stop)) →
          ExpressionEnd s end 0 read.stop → EquationRead i
      by_end skipped sign read (ExpressionEnd.closes m e here run) = absurd (omega arith)
      by_end skipped sign read (ExpressionEnd.ends e here run) =
          let behind = skip run Waits.between_lines (not_done State.between_lines refl) in
          record {
            tree = read.tree;
            semicolon_at = read.stop;
            behind = behind;
            equates =
                record {
                  name_end = name.stop;
                  sign = skipped.stop;
                  start = read.start;
                  stop = read.stop;
                  named = name.name;
                  blanks = skipped.blanks;
                  equals_sign = record { here = sign; blanks = read.blanks };
                  expression = read.is;
                  end = record { here = here; blanks = behind.blanks };
                };
            ahead = omega (arith, name.name.some, skipped.blanks.ordered, read.ahead, behind.blanks.ordered);
          }

  equations_read : (f k : ℕ) (skipped : Skipped s end State.between_lines k) → end ≤ skipped.stop + f → EquationsRead skipped.stop
  equations_read zero k skipped short = absurd (omega (arith, run_forward skipped.rest))
  equations_read (suc f) k skipped short =
      let i = skipped.stop in
      let (letter, is) = between_lines_is (byte_at s i) skipped.next skipped.no_blank skipped.moves in
      by_word (left_word (word_begun Place.equation skipped.inside letter is skipped.rest)) (λ k' skipped' short'. equations_read f k' skipped' short')
    where
      by_word : NameRead s end Place.equation skipped.stop ⊎ OutRead s end skipped.stop →
          ((k' : ℕ) (skipped' : Skipped s end State.between_lines k') → end ≤ skipped'.stop + f → EquationsRead skipped'.stop) →
          EquationsRead skipped.stop
      by_word (inl name) further =
          let read = equation_read skipped.stop name in
          let ahead : skipped.stop < read.behind.stop = read.ahead in
          let rest = further (suc read.semicolon_at) read.behind (omega arith) in
          record {
            last = rest.last;
            list = record { place = skipped.stop; tree = read.tree } ∷ rest.list;
            equations = Equations.more read.equates rest.equations;
            outputs = rest.outputs;
          }
      by_word (inr out) further =
          record { last = skipped.stop; list = []; equations = Equations.none; outputs = outputs_read skipped.stop out }

  -- the line of inputs
  record InputsRead (i : ℕ) : Type 0 where
    places : List ℕ
    semicolon_at : ℕ
    behind : Skipped s end State.between_lines (suc semicolon_at)
    line : Line s word_in i behind.stop places

  inputs_read : (i : ℕ) → i < length s → byte_at s i ≡ 105 → Runs s State.letter_i (suc i) State.done end → InputsRead i
  unfolding end_of
  inputs_read i inside here run =
      let second = first_move run (not_done State.letter_i refl) in
      let (n-here, is) = letter_i_is (byte_at s (suc i)) second.next second.moves in
      let word-run : Runs s State.read_in (suc (suc i)) State.done end = rw is at second.rest in
      let third = first_move word-run (not_done State.read_in refl) in
      let (blank, is-first) = word_in_is (byte_at s (suc (suc i))) third.next third.moves in
      let names = names_read Which.ins (suc (suc i)) blank (rw is-first at third.rest) in
      let behind = skip {i = suc names.follows.stop} names.follows.rest Waits.between_lines (not_done State.between_lines refl) in
      let place : suc (suc i) ≡ i + 2 = omega arith in
      let word : between s i (suc (suc i)) ≡ word_in =
      between_grows s i (suc i) (omega arith) second.inside ∙ rw (between_one s i inside, here, n-here) in
      record {
        places = names.places;
        semicolon_at = names.follows.stop;
        behind = behind;
        line =
            record {
              names_end = names.names_end;
              stop = names.follows.stop;
              keyword_here = rw place at word;
              names = subst (λ k. Names s k names.names_end names.places) place names.names;
              blanks = names.follows.blanks;
              end = record { here = names.follows.here; blanks = behind.blanks };
            };
      }

-- The whole text.
pub record TextRead (s : List ℕ) : Type 0 where
  pub says : System
  pub well_formed : WellFormed s says

pub run_text : {s : List ℕ} → Runs s State.before 0 State.done (length s) → TextRead s
run_text {s} run =
    let skipped = skip run Waits.before (not_done State.before refl) in
    let (here, is) = before_is (byte_at s skipped.stop) skipped.next skipped.no_blank skipped.moves in
    let inputs = inputs_read s (length s) skipped.stop skipped.inside here (rw is at skipped.rest) in
    let rest = equations_read s (length s) (length s) (suc inputs.semicolon_at) inputs.behind (omega arith) in
    record {
      says = record { inputs = inputs.places; equations = rest.list; outputs = rest.outputs.places };
      well_formed =
          record {
            start = skipped.stop;
            first = inputs.behind.stop;
            last = rest.last;
            blanks = skipped.blanks;
            inputs = inputs.line;
            equations = rest.equations;
            outputs = rest.outputs.line;
          };
    }
