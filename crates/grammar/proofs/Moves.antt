-- What single moves and short runs do: over blanks, signs, words and names. Names stand in three places, in an expression, in a line of names and on
-- an equation's left, and the laws are told once for all three: `in_name` is the state within the word, `behind_name` the state behind it and a blank,
-- and a place is ended in either of them if the word is no keyword; what comes next then does the same in both.
use Prim.Native.Nat.{ℕ, suc, ◌+◌, ◌-◌, ◌≤◌, ◌<◌}
use native.Mathlib.Omega.{arith}
use mathlib.Core.Path.{◌≡◌, refl, sym, ap, ◌∙◌}
use mathlib.Core.Bool.{Bool, true, false, ◌||◌}
use mathlib.Core.List.{List, [], ◌∷◌, ◌++◌}
use lib.ListN.{length}
use native.Mathlib.Decide.{dec_lt}
use borrow.Author.Tests.{lt-ltb, le-ltb}
use Rattle.grammar.specs.paper.Text.{
  byte_at,
  bang,
  star,
  plus,
  opening,
  closing,
  equals,
  semicolon,
  is_blank,
  is_letter,
  is_digit,
  is_word_byte,
  word_in,
  word_out,
  same_word,
  most_letters,
  most_brackets,
}
use Rattle.grammar.specs.paper.Grammar.{between, Blanks, Gap, Name, Sign}
use Rattle.grammar.specs.Machine.{
  Which,
  State,
  Move,
  is_keyword,
  end_of,
  in_word,
  behind_listed,
  behind_left,
  behind_operand,
  unless_keyword,
  move,
  Runs,
}
use Rattle.grammar.proofs.Bytes.{
  letter_no_blank,
  letter_no_sign,
  blank_no_letter,
  blank_no_word_byte,
  blank_within,
  word_byte_within,
  letter_within,
  sign_within,
  same_word_not,
  no_keyword,
  not_out,
}
use Rattle.grammar.proofs.Words.{between_grows, between_one, between_at, length_between}
use Rattle.grammar.proofs.Runs.{run_then, run_one, run_steps}

-- the places where names stand
pub data Place : Type 0 where
  operand : ℕ → Place
  line : Which → Place
  equation : Place

-- in the word, behind it and a blank
abbrev pub in_name : Place → List ℕ → State
in_name (Place.operand d) w = State.used d w
in_name (Place.line x) w = State.listed x w
in_name Place.equation w = State.left w

abbrev pub behind_name : Place → State
behind_name (Place.operand d) = State.has d
behind_name (Place.line x) = State.next x
behind_name Place.equation = State.named

-- what a byte does behind a name
abbrev pub onward : Place → ℕ → Move
onward (Place.operand d) b = behind_operand d b
onward (Place.line x) b = behind_listed x b
onward Place.equation b = behind_left b

-- where a name is due
pub data Due : Place → State → Type 0 where
  wants : {d : ℕ} → Due (Place.operand d) (State.wants d)
  first : {x : Which} → Due (Place.line x) (State.first x)
  next : {x : Which} → Due (Place.line x) (State.next x)
  between_lines : Due Place.equation State.between_lines

-- behind a name, with or without blanks
pub data Ended (c : Place) (q : State) : Type 0 where
  in_word_lem : (w : List ℕ) → is_keyword w ≡ false → q ≡ in_name c w → Ended c q
  behind : q ≡ behind_name c → Ended c q

-- the states in which blanks do nothing
pub data Waits : State → Type 0 where
  before : Waits State.before
  first : {x : Which} → Waits (State.first x)
  next : {x : Which} → Waits (State.next x)
  between_lines : Waits State.between_lines
  named : Waits State.named
  wants : {d : ℕ} → Waits (State.wants d)
  has : {d : ℕ} → Waits (State.has d)
  done : Waits State.done

pub waits_behind : (c : Place) → Waits (behind_name c)
waits_behind (Place.operand d) = Waits.has
waits_behind (Place.line x) = Waits.next
waits_behind Place.equation = Waits.named

-- Moves.
pub waits_move : {q : State} (b : ℕ) → Waits q → is_blank b ≡ true → move q b ≡ Move.to q
unfolding move behind_listed behind_left behind_operand
waits_move b Waits.before e = rw e
waits_move b Waits.first e = rw e
waits_move b Waits.next e = rw (blank_no_letter b e, e)
waits_move b Waits.between_lines e = rw e
waits_move b Waits.named e = rw e
waits_move b Waits.wants e = rw e
waits_move b Waits.has e = rw e
waits_move b Waits.done e = rw e

pub due_move : {c : Place} {q : State} (b : ℕ) → Due c q → is_letter b ≡ true → move q b ≡ Move.to (in_name c (b ∷ []))
unfolding move
due_move b Due.wants e = rw (letter_no_blank b e, letter_no_sign b bang (omega arith) e, letter_no_sign b opening (omega arith) e, e)
due_move b Due.first e = rw (letter_no_blank b e, e)
due_move b Due.next e = rw e
due_move b Due.between_lines e = rw (letter_no_blank b e, e)

-- a word grows up to 16 bytes
pub word_grows : (c : Place) (w : List ℕ) (b : ℕ) → is_word_byte b ≡ true → length w < most_letters →
    move (in_name c w) b ≡ Move.to (in_name c (w ++ (b ∷ [])))
unfolding move in_word
word_grows (Place.operand d) w b e few = rw (e, lt-ltb (length w) most_letters few)
word_grows (Place.line x) w b e few = rw (e, lt-ltb (length w) most_letters few)
word_grows Place.equation w b e few = rw (e, lt-ltb (length w) most_letters few)

pub word_full : (c : Place) (w : List ℕ) (b : ℕ) → is_word_byte b ≡ true → most_letters ≤ length w → move (in_name c w) b ≡ Move.stuck
unfolding move in_word
word_full (Place.operand d) w b e full = rw (e, le-ltb (length w) most_letters full)
word_full (Place.line x) w b e full = rw (e, le-ltb (length w) most_letters full)
word_full Place.equation w b e full = rw (e, le-ltb (length w) most_letters full)

-- behind a word that is no keyword, and behind it and a blank, a byte does the same
pub word_move : (c : Place) (w : List ℕ) (b : ℕ) → is_keyword w ≡ false → is_word_byte b ≡ false → move (in_name c w) b ≡ onward c b
unfolding move in_word unless_keyword
word_move (Place.operand d) w b plain e = rw (e, plain)
word_move (Place.line x) w b plain e = rw (e, plain)
word_move Place.equation w b plain e = rw (e, same_word_not w word_out (not_out w plain), plain)

pub behind_move : (c : Place) (b : ℕ) → is_letter b ≡ false → move (behind_name c) b ≡ onward c b
unfolding move
behind_move (Place.operand d) b e = refl
behind_move (Place.line x) b e = rw e
behind_move Place.equation b e = refl

-- a keyword is stuck where a name is due, but for `out` where an equation may stand
pub keyword_stuck : (c : Place) (w : List ℕ) (b : ℕ) → is_keyword w ≡ true → is_word_byte b ≡ false → (c ≡ Place.equation → w ≡ word_out → ⊥) →
    move (in_name c w) b ≡ Move.stuck
unfolding move in_word unless_keyword
keyword_stuck (Place.operand d) w b e no_word not_there = rw (no_word, e)
keyword_stuck (Place.line x) w b e no_word not_there = rw (no_word, e)
keyword_stuck Place.equation w b e no_word not_there = rw (no_word, same_word_not w word_out (not_there refl), e)

pub not_letter : (b : ℕ) → is_word_byte b ≡ false → is_letter b ≡ false
unfolding is_word_byte
not_letter b e = by_test (is_letter b) e
  where
    by_test : (t : Bool) → (t || is_digit b) ≡ false → t ≡ false
    by_test true no-pass = no-pass
    by_test false no-pass = refl

pub ended_move : {c : Place} {q : State} (b : ℕ) → Ended c q → is_word_byte b ≡ false → move q b ≡ onward c b
ended_move {c} b (Ended.in_word_lem w plain is) e = rw is (word_move c w b plain e)
ended_move {c} b (Ended.behind is) e = rw is (behind_move c b (not_letter b e))

pub onward_blank : (c : Place) (b : ℕ) → is_blank b ≡ true → onward c b ≡ Move.to (behind_name c)
unfolding behind_listed behind_left behind_operand
onward_blank (Place.operand d) b e = rw e
onward_blank (Place.line x) b e = rw e
onward_blank Place.equation b e = rw e

pub ended_blank : {c : Place} {q : State} (b : ℕ) → Ended c q → is_blank b ≡ true → move q b ≡ Move.to (behind_name c)
ended_blank {c} b ended e = ended_move b ended (blank_no_word_byte b e) ∙ onward_blank c b e

pub in_blank : (b : ℕ) → is_blank b ≡ true → move State.read_in b ≡ Move.to (State.first Which.ins)
unfolding move
in_blank b e = rw e

pub out_blank : (b : ℕ) → is_blank b ≡ true → move (State.left word_out) b ≡ Move.to (State.first Which.outs)
unfolding move in_word same_word
out_blank b e = rw (blank_no_word_byte b e, e)

-- A word: all that a name is, but it may be a keyword.
pub record Word (s : List ℕ) (i j : ℕ) : Type 0 where
  pub some : i < j
  pub few : j ≤ i + most_letters
  pub letter : is_letter (byte_at s i) ≡ true
  pub each : (m : ℕ) → i ≤ m → m < j → is_word_byte (byte_at s m) ≡ true

pub name_word : {s : List ℕ} {i j : ℕ} → Name s i j → Word s i j
name_word name = record { some = name.some; few = name.few; letter = name.letter; each = name.each }

pub name_plain : {s : List ℕ} {i j : ℕ} → Name s i j → is_keyword (between s i j) ≡ false
name_plain {s} {i} {j} name = no_keyword (between s i j) name.not_in name.not_out

-- behind what is read up to place j a name is ended
pub record Reached (s : List ℕ) (c : Place) (q : State) (i j : ℕ) : Type 0 where
  pub state : State
  pub ended : Ended c state
  pub run : Runs s q i state j

module _ {s : List ℕ} where
  -- Blanks.
  pub run_blanks : {q : State} {i j : ℕ} → Waits q → Blanks s i j → Runs s q i q j
  run_blanks {q} {i} {j} waits blanks =
      run_steps s (λ m. q) i j blanks.ordered (λ m low high. blank_within s m (blanks.each m low high))
      (λ m low high. waits_move (byte_at s m) waits (blanks.each m low high))

  -- over at least one, from a state that the first leads out of
  pub run_gap : {q q₁ : State} {i j : ℕ} → ((b : ℕ) → is_blank b ≡ true → move q b ≡ Move.to q₁) → Waits q₁ → Gap s i j → Runs s q i q₁ j
  run_gap {q} {q₁} {i} {j} leaves waits gap =
      let here : is_blank (byte_at s i) ≡ true = gap.blanks.each i (omega arith) gap.some in
      let rest : Blanks s (suc i) j = record { ordered = gap.some; each = λ m low high. gap.blanks.each m (omega arith) high } in
      Runs.go (blank_within s i here) (leaves (byte_at s i) here) (run_blanks waits rest)

  pub run_gap_ended : {c : Place} {q : State} {i j : ℕ} → Ended c q → Gap s i j → Runs s q i (behind_name c) j
  run_gap_ended {c} ended gap = run_gap (λ b e. ended_blank b ended e) (waits_behind c) gap

  pub run_gap_in : {i j : ℕ} → Gap s i j → Runs s State.read_in i (State.first Which.ins) j
  run_gap_in gap = run_gap in_blank Waits.first gap

  pub run_gap_out : {i j : ℕ} → Gap s i j → Runs s (State.left word_out) i (State.first Which.outs) j
  run_gap_out gap = run_gap out_blank Waits.first gap

  -- over blanks a name stays ended
  pub run_blanks_ended : {c : Place} {q : State} {i j : ℕ} → Ended c q → Blanks s i j → Reached s c q i j
  run_blanks_ended {c} {q} {i} {j} ended blanks = by_order (dec_lt i j)
    where
      by_order : Dec (i < j) → Reached s c q i j
      by_order (yes some) =
          record { state = behind_name c; ended = Ended.behind refl; run = run_gap_ended ended (record { some = some; blanks = blanks }) }
      by_order (no none) =
          let same : j ≡ i = omega (arith, blanks.ordered) in
          record { state = q; ended = ended; run = rw same Runs.stay }

  -- Words and names.
  pub run_word : {c : Place} {q : State} {i j : ℕ} → Due c q → Word s i j → Runs s q i (in_name c (between s i j)) j
  run_word {c} {q} {i} {j} due word =
      let inside : i < length s = letter_within s i word.letter in
      let within : (m : ℕ) → suc i ≤ m → m < j → m < length s =
      λ m low high. word_byte_within s m (word.each m (omega arith) high) in
      let grows : (m : ℕ) → suc i ≤ m → m < j →
      move (in_name c (between s i m)) (byte_at s m) ≡ Move.to (in_name c (between s i (suc m))) =
      λ m low high.
      word_grows c (between s i m) (byte_at s m) (word.each m (omega arith) high)
      (omega (arith, length_between s i m (omega (arith, within m low high)), word.few)) ∙
      ap (λ w. Move.to (in_name c w)) (sym (between_grows s i m (omega arith) (within m low high))) in
      let starts : move q (byte_at s i) ≡ Move.to (in_name c (between s i (suc i))) =
      due_move (byte_at s i) due word.letter ∙ ap (λ w. Move.to (in_name c w)) (sym (between_one s i inside)) in
      Runs.go inside starts (run_steps s (λ m. in_name c (between s i m)) (suc i) j word.some within grows)

  pub run_name : {c : Place} {q : State} {i j : ℕ} → Due c q → Name s i j → Reached s c q i j
  run_name {c} {q} {i} {j} due name =
      record {
        state = in_name c (between s i j);
        ended = Ended.in_word_lem (between s i j) (name_plain name) refl;
        run = run_word due (name_word name);
      }

  -- a name and the blanks behind it
  pub run_name_blanks : {c : Place} {q : State} {i a j : ℕ} → Due c q → Name s i a → Blanks s a j → Reached s c q i j
  run_name_blanks due name blanks =
      let first = run_name due name in
      let then = run_blanks_ended first.ended blanks in
      record { state = then.state; ended = then.ended; run = run_then first.run then.run }

  -- keywords where they are due
  pub run_in : {i : ℕ} → between s i (i + 2) ≡ word_in → Runs s State.before i State.read_in (i + 2)
  unfolding move is_blank
  run_in {i} e =
      let at_i : byte_at s i ≡ 105 = ap (byte_at s) (omega arith) ∙ between_at s i (i + 2) 0 word_in e (omega arith) in
      let at_n : byte_at s (suc i) ≡ 110 = ap (byte_at s) (omega arith) ∙ between_at s i (i + 2) 1 word_in e (omega arith) in
      let end : i + 2 ≡ suc (suc i) = omega arith in
      rw end (Runs.go (sign_within s i 105 (omega arith) at_i) (ap (move State.before) at_i)
      (run_one (sign_within s (suc i) 110 (omega arith) at_n) (ap (move State.letter_i) at_n)))

  pub run_out : {i : ℕ} → between s i (i + 3) ≡ word_out → Runs s State.between_lines i (State.left word_out) (i + 3)
  unfolding move in_word is_blank is_letter is_digit is_word_byte
  run_out {i} e =
      let at-o : byte_at s i ≡ 111 = ap (byte_at s) (omega arith) ∙ between_at s i (i + 3) 0 word_out e (omega arith) in
      let at-u : byte_at s (suc i) ≡ 117 = ap (byte_at s) (omega arith) ∙ between_at s i (i + 3) 1 word_out e (omega arith) in
      let at-t : byte_at s (suc (suc i)) ≡ 116 = ap (byte_at s) (omega arith) ∙ between_at s i (i + 3) 2 word_out e (omega arith) in
      let end : i + 3 ≡ suc (suc (suc i)) = omega arith in
      rw end (Runs.go (sign_within s i 111 (omega arith) at-o) (ap (move State.between_lines) at-o)
      (Runs.go (sign_within s (suc i) 117 (omega arith) at-u) (ap (move (State.left (111 ∷ []))) at-u)
      (run_one (sign_within s (suc (suc i)) 116 (omega arith) at-t) (ap (move (State.left (111 ∷ 117 ∷ []))) at-t))))

  -- Signs.
  pub run_sign : {q q₁ : State} {sign i j : ℕ} → 0 < sign → move q sign ≡ Move.to q₁ → Waits q₁ → Sign s sign i j → Runs s q i q₁ j
  run_sign {q} {q₁} {sign} {i} {j} some moves waits here =
      Runs.go (sign_within s i sign some here.here) (ap (move q) here.here ∙ moves) (run_blanks waits here.blanks)

  pub run_bang : {d i j : ℕ} → Sign s bang i j → Runs s (State.wants d) i (State.wants d) j
  unfolding move is_blank
  run_bang here = run_sign (omega arith) refl Waits.wants here

  pub run_opening : {d i j : ℕ} → d < most_brackets → Sign s opening i j → Runs s (State.wants d) i (State.wants (suc d)) j
  unfolding move is_blank
  run_opening {d} low here = run_sign (omega arith) (rw (lt-ltb d most_brackets low)) Waits.wants here

  pub run_star : {d i j : ℕ} {q : State} → Ended (Place.operand d) q → Sign s star i j → Runs s q i (State.wants d) j
  unfolding behind_operand is_blank is_word_byte is_letter is_digit
  run_star ended here = run_sign (omega arith) (ended_move star ended refl) Waits.wants here

  pub run_plus : {d i j : ℕ} {q : State} → Ended (Place.operand d) q → Sign s plus i j → Runs s q i (State.wants d) j
  unfolding behind_operand is_blank is_word_byte is_letter is_digit
  run_plus ended here = run_sign (omega arith) (ended_move plus ended refl) Waits.wants here

  pub run_closing : {d i j : ℕ} {q : State} → Ended (Place.operand (suc d)) q → Sign s closing i j → Runs s q i (State.has d) j
  unfolding behind_operand is_blank is_word_byte is_letter is_digit
  run_closing {d} ended here =
      let down : suc d - 1 ≡ d = omega arith in
      run_sign (omega arith) (ended_move closing ended refl ∙ rw (lt-ltb 0 (suc d) (omega arith), down)) Waits.has here

  pub run_semicolon : {i j : ℕ} {q : State} → Ended (Place.operand 0) q → Sign s semicolon i j → Runs s q i State.between_lines j
  unfolding behind_operand is_blank is_word_byte is_letter is_digit
  run_semicolon ended here = run_sign (omega arith) (ended_move semicolon ended refl) Waits.between_lines here

  pub run_equals : {i j : ℕ} {q : State} → Ended Place.equation q → Sign s equals i j → Runs s q i (State.wants 0) j
  unfolding behind_left is_blank is_word_byte is_letter is_digit
  run_equals ended here = run_sign (omega arith) (ended_move equals ended refl) Waits.wants here

  pub run_end_ins : {i j : ℕ} {q : State} → Ended (Place.line Which.ins) q → Sign s semicolon i j → Runs s q i State.between_lines j
  unfolding behind_listed end_of is_blank is_word_byte is_letter is_digit
  run_end_ins ended here = run_sign (omega arith) (ended_move semicolon ended refl) Waits.between_lines here

  pub run_end_outs : {i j : ℕ} {q : State} → Ended (Place.line Which.outs) q → Sign s semicolon i j → Runs s q i State.done j
  unfolding behind_listed end_of is_blank is_word_byte is_letter is_digit
  run_end_outs ended here = run_sign (omega arith) (ended_move semicolon ended refl) Waits.done here
