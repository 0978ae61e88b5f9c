-- A machine that takes a text a byte at a time and can always be completed. No promise of an entry point speaks of it: it shows where a text's
-- longest beginning ends, and what the readers promise where they stop.
use Rattle.std.specs.Prelude.{ℕ, suc, ◌-◌, ◌<◌, ◌≡◌, Bool, cond, ◌||◌, ◌&&◌, List, [], ◌∷◌, ◌++◌, length, ltb, eqb}
use Rattle.grammar.specs.paper.Text.{
  byte_at,
  bang,
  star,
  plus,
  opening,
  closing,
  equals,
  semicolon,
  is_blank,
  is_letter,
  is_word_byte,
  word_in,
  word_out,
  same_word,
  most_letters,
  most_brackets,
}

-- which line of names is read
pub data Which : Type 0 where
  ins : Which
  outs : Which

-- What was read last, with the word begun and the number of open brackets where they matter.
pub data State : Type 0 where
  -- before `in`, and within it
  before : State
  letter_i : State
  read_in : State
  -- in a line of names: no name yet, in a name, behind a name and a blank
  first : Which → State
  listed : Which → List ℕ → State
  next : Which → State
  -- between equations, in the word on an equation's left or `out`, behind that name and a blank
  between_lines : State
  left : List ℕ → State
  named : State
  -- in an expression with so many brackets open: an operand is due, in a name, behind an operand
  wants : ℕ → State
  used : ℕ → List ℕ → State
  has : ℕ → State
  -- behind the last `;`
  done : State

pub data Move : Type 0 where
  stuck : Move
  to : State → Move

unfoldable pub is_keyword : List ℕ → Bool
is_keyword w = same_word w word_in || same_word w word_out

-- where a line of names ends
unfoldable pub end_of : Which → State
end_of Which.ins = State.between_lines
end_of Which.outs = State.done

-- A word goes on where it may, to the state `grown`; a byte that is no letter or digit does what it does behind a whole word.
unfoldable pub in_word : (w : List ℕ) (b : ℕ) (grown : List ℕ → State) (behind : Move) → Move
in_word w b grown behind =
    cond (is_word_byte b) (cond (ltb (length w) most_letters) (Move.to (grown (w ++ (b ∷ [])))) Move.stuck) behind

-- behind a name, in a line of names
unfoldable pub behind_listed : Which → ℕ → Move
behind_listed x b = cond (is_blank b) (Move.to (State.next x)) (cond (eqb b semicolon) (Move.to (end_of x)) Move.stuck)

-- behind the name on an equation's left
unfoldable pub behind_left : ℕ → Move
behind_left b = cond (is_blank b) (Move.to State.named) (cond (eqb b equals) (Move.to (State.wants 0)) Move.stuck)

-- behind an operand with d brackets open
unfoldable pub behind_operand : (d b : ℕ) → Move
behind_operand d b =
    cond (is_blank b) (Move.to (State.has d))
    (cond (eqb b star || eqb b plus) (Move.to (State.wants d))
    (cond (eqb b closing && ltb 0 d) (Move.to (State.has (d - 1)))
    (cond (eqb b semicolon && eqb d 0) (Move.to State.between_lines) Move.stuck)))

-- behind a word that is a keyword nothing can stand where a name is due
unfoldable pub unless_keyword : List ℕ → Move → Move
unless_keyword w m = cond (is_keyword w) Move.stuck m

-- what byte b does
unfoldable pub move : State → ℕ → Move
move State.before b = cond (is_blank b) (Move.to State.before) (cond (eqb b 105) (Move.to State.letter_i) Move.stuck)
move State.letter_i b = cond (eqb b 110) (Move.to State.read_in) Move.stuck
move State.read_in b = cond (is_blank b) (Move.to (State.first Which.ins)) Move.stuck
move (State.first x) b =
    cond (is_blank b) (Move.to (State.first x)) (cond (is_letter b) (Move.to (State.listed x (b ∷ []))) Move.stuck)
move (State.listed x w) b = in_word w b (State.listed x) (unless_keyword w (behind_listed x b))
move (State.next x) b = cond (is_letter b) (Move.to (State.listed x (b ∷ []))) (behind_listed x b)
move State.between_lines b =
    cond (is_blank b) (Move.to State.between_lines) (cond (is_letter b) (Move.to (State.left (b ∷ []))) Move.stuck)
move (State.left w) b =
    in_word w b State.left
    (cond (same_word w word_out) (cond (is_blank b) (Move.to (State.first Which.outs)) Move.stuck) (unless_keyword w (behind_left b)))
move State.named b = behind_left b
move (State.wants d) b =
    cond (is_blank b || eqb b bang) (Move.to (State.wants d))
    (cond (eqb b opening && ltb d most_brackets) (Move.to (State.wants (suc d)))
    (cond (is_letter b) (Move.to (State.used d (b ∷ []))) Move.stuck))
move (State.used d w) b = in_word w b (State.used d) (unless_keyword w (behind_operand d b))
move (State.has d) b = behind_operand d b
move State.done b = cond (is_blank b) (Move.to State.done) Move.stuck

module _ (s : List ℕ) where
  -- from one state at a place the bytes lead to another at a later place
  pub data Runs : State → ℕ → State → ℕ → Type 0 where
    stay : {q : State} {i : ℕ} → Runs q i q i
    go : {q q₁ q₂ : State} {i j : ℕ} → i < length s → move q (byte_at s i) ≡ Move.to q₁ → Runs q₁ (suc i) q₂ j → Runs q i q₂ j

  -- The bytes lead to place p and no further: the byte there has no move, or the text ends there too early.
  pub record Halts (q : State) (i p : ℕ) : Type 0 where
    pub state : State
    pub run : Runs q i state p
    pub no_move : move state (byte_at s p) ≡ Move.stuck
    pub early : state ≡ State.done → p < length s
