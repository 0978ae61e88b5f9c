-- What a move tells: from the state and where it leads, which byte was read. Behind blanks, so the byte is none.
use Prim.Native.Nat.{ℕ, suc, ◌-◌, ◌<◌}
use native.Mathlib.Omega.{arith}
use mathlib.Core.Path.{◌≡◌, refl, sym, ◌∙◌}
use mathlib.Core.Logic.{⊎_elim}
use mathlib.Core.Bool.{Bool, true, false, cond, ◌||◌, ◌&&◌}
use mathlib.Core.List.{List, [], ◌∷◌, ◌++◌}
use lib.Dec.{eqb, ltb}
use lib.ListN.{length}
use borrow.Author.Tests.{ltb-true, eqb-true}
use Rattle.grammar.specs.paper.Text.{
  bang,
  star,
  plus,
  opening,
  closing,
  equals,
  semicolon,
  is_blank,
  is_letter,
  is_word_byte,
  word_out,
  same_word,
  most_letters,
  most_brackets,
}
use Rattle.grammar.specs.Machine.{
  Which,
  State,
  Move,
  is_keyword,
  end_of,
  in_word,
  behind_listed,
  behind_left,
  behind_operand,
  unless_keyword,
  move,
}
use Rattle.grammar.proofs.Bytes.{or_cases, and_both}
use Rattle.grammar.proofs.Runs.{one_move, no_moves}
use Rattle.grammar.proofs.Moves.{Place, in_name}

-- the branch that was taken
pick : {P : Type 0} {q : State} (t : Bool) (x y : Move) → cond t x y ≡ Move.to q → (t ≡ true → x ≡ Move.to q → P) → (t ≡ false → y ≡ Move.to q → P) → P
pick true x y e passed failed = passed refl e
pick false x y e passed failed = failed refl e

-- the last branch is none
last : {P : Type 0} {q q₁ : State} (t : Bool) → cond t (Move.to q₁) Move.stuck ≡ Move.to q → (t ≡ true → q ≡ q₁ → P) → P
last true e passed = passed refl (one_move refl (sym e))
last false e passed = absurd (no_moves e refl)

-- where an operand is due
pub data WantsMove (d b : ℕ) (q : State) : Type 0 where
  negates : b ≡ bang → q ≡ State.wants d → WantsMove d b q
  opens : b ≡ opening → d < most_brackets → q ≡ State.wants (suc d) → WantsMove d b q
  begins : is_letter b ≡ true → q ≡ State.used d (b ∷ []) → WantsMove d b q

pub wants_cases : (d b : ℕ) (q : State) → is_blank b ≡ false → move (State.wants d) b ≡ Move.to q → WantsMove d b q
unfolding move
wants_cases d b q no_blank moves =
    let seen : cond (eqb b bang) (Move.to (State.wants d)) (cond (eqb b opening && ltb d most_brackets) (Move.to (State.wants (suc d)))
    (cond (is_letter b) (Move.to (State.used d (b ∷ []))) Move.stuck)) ≡ Move.to q =
    rw no_blank at moves in
    pick (eqb b bang) _ _ seen (λ e m. WantsMove.negates (eqb-true b bang e) (one_move m refl))
    (λ _ rest. pick (eqb b opening && ltb d most_brackets) _ _ rest
    (λ e m. let (here, low) = and_both (eqb b opening) (ltb d most_brackets) e in
    WantsMove.opens (eqb-true b opening here) (ltb-true d most_brackets low) (one_move m refl))
    (λ _ m. last (is_letter b) m (λ e is. WantsMove.begins e is)))

-- behind an operand
pub data OperandMove (d b : ℕ) (q : State) : Type 0 where
  times : b ≡ star → q ≡ State.wants d → OperandMove d b q
  adds : b ≡ plus → q ≡ State.wants d → OperandMove d b q
  closes : b ≡ closing → (m : ℕ) → d ≡ suc m → q ≡ State.has m → OperandMove d b q
  ends : b ≡ semicolon → d ≡ 0 → q ≡ State.between_lines → OperandMove d b q

pub operand_cases : (d b : ℕ) (q : State) → is_blank b ≡ false → behind_operand d b ≡ Move.to q → OperandMove d b q
unfolding behind_operand
operand_cases d b q no_blank moves =
    let seen : cond (eqb b star || eqb b plus) (Move.to (State.wants d)) (cond (eqb b closing && ltb 0 d) (Move.to (State.has (d - 1)))
    (cond (eqb b semicolon && eqb d 0) (Move.to State.between_lines) Move.stuck)) ≡ Move.to q =
    rw no_blank at moves in
    pick (eqb b star || eqb b plus) _ _ seen
    (λ e m. ⊎_elim (λ (here : eqb b star ≡ true). OperandMove.times (eqb-true b star here) (one_move m refl))
    (λ (here : eqb b plus ≡ true). OperandMove.adds (eqb-true b plus here) (one_move m refl)) (or_cases (eqb b star) (eqb b plus) e))
    (λ _ rest. pick (eqb b closing && ltb 0 d) _ _ rest
    (λ e m. let (here, some) = and_both (eqb b closing) (ltb 0 d) e in
    OperandMove.closes (eqb-true b closing here) (d - 1) (omega (arith, ltb-true 0 d some)) (one_move m refl))
    (λ _ m. last (eqb b semicolon && eqb d 0) m
    (λ e is. let (here, none) = and_both (eqb b semicolon) (eqb d 0) e in OperandMove.ends (eqb-true b semicolon here) (eqb-true d 0 none) is)))

-- behind a name of a line, and behind the name on an equation's left
pub listed_is : (x : Which) (b : ℕ) (q : State) → is_blank b ≡ false → behind_listed x b ≡ Move.to q → (b ≡ semicolon) × (q ≡ end_of x)
unfolding behind_listed
listed_is x b q no_blank moves =
    let seen : cond (eqb b semicolon) (Move.to (end_of x)) Move.stuck ≡ Move.to q = rw no_blank at moves in
    last (eqb b semicolon) seen (λ e is. (eqb-true b semicolon e, is))

pub named_is : (b : ℕ) (q : State) → is_blank b ≡ false → behind_left b ≡ Move.to q → (b ≡ equals) × (q ≡ State.wants 0)
unfolding behind_left
named_is b q no_blank moves =
    let seen : cond (eqb b equals) (Move.to (State.wants 0)) Move.stuck ≡ Move.to q = rw no_blank at moves in
    last (eqb b equals) seen (λ e is. (eqb-true b equals e, is))

-- where a name of a line is due
pub first_is : (x : Which) (b : ℕ) (q : State) → is_blank b ≡ false → move (State.first x) b ≡ Move.to q →
    (is_letter b ≡ true) × (q ≡ State.listed x (b ∷ []))
unfolding move
first_is x b q no_blank moves =
    let seen : cond (is_letter b) (Move.to (State.listed x (b ∷ []))) Move.stuck ≡ Move.to q = rw no_blank at moves in
    last (is_letter b) seen (λ e is. (e, is))

pub data NextMove (x : Which) (b : ℕ) (q : State) : Type 0 where
  begins : is_letter b ≡ true → q ≡ State.listed x (b ∷ []) → NextMove x b q
  ends : b ≡ semicolon → q ≡ end_of x → NextMove x b q

pub next_cases : (x : Which) (b : ℕ) (q : State) → is_blank b ≡ false → move (State.next x) b ≡ Move.to q → NextMove x b q
unfolding move
next_cases x b q no_blank moves =
    pick (is_letter b) _ _ moves (λ e m. NextMove.begins e (one_move m refl))
    (λ _ m. let (here, is) = listed_is x b q no_blank m in NextMove.ends here is)

-- between lines
pub between_lines_is : (b : ℕ) (q : State) → is_blank b ≡ false → move State.between_lines b ≡ Move.to q →
    (is_letter b ≡ true) × (q ≡ State.left (b ∷ []))
unfolding move
between_lines_is b q no_blank moves =
    let seen : cond (is_letter b) (Move.to (State.left (b ∷ []))) Move.stuck ≡ Move.to q = rw no_blank at moves in
    last (is_letter b) seen (λ e is. (e, is))

-- before and within `in`, and behind it
pub before_is : (b : ℕ) (q : State) → is_blank b ≡ false → move State.before b ≡ Move.to q → (b ≡ 105) × (q ≡ State.letter_i)
unfolding move
before_is b q no_blank moves =
    let seen : cond (eqb b 105) (Move.to State.letter_i) Move.stuck ≡ Move.to q = rw no_blank at moves in
    last (eqb b 105) seen (λ e is. (eqb-true b 105 e, is))

pub letter_i_is : (b : ℕ) (q : State) → move State.letter_i b ≡ Move.to q → (b ≡ 110) × (q ≡ State.read_in)
unfolding move
letter_i_is b q moves = last (eqb b 110) moves (λ e is. (eqb-true b 110 e, is))

pub word_in_is : (b : ℕ) (q : State) → move State.read_in b ≡ Move.to q → (is_blank b ≡ true) × (q ≡ State.first Which.ins)
unfolding move
word_in_is b q moves = last (is_blank b) moves (λ e is. (e, is))

pub done_is : (b : ℕ) (q : State) → move State.done b ≡ Move.to q → (is_blank b ≡ true) × (q ≡ State.done)
unfolding move
done_is b q moves = last (is_blank b) moves (λ e is. (e, is))

-- What a byte does behind a word, which may be a keyword.
abbrev pub behind_word : Place → List ℕ → ℕ → Move
behind_word (Place.operand d) w b = unless_keyword w (behind_operand d b)
behind_word (Place.line x) w b = unless_keyword w (behind_listed x b)
behind_word Place.equation w b =
    cond (same_word w word_out) (cond (is_blank b) (Move.to (State.first Which.outs)) Move.stuck) (unless_keyword w (behind_left b))

word_state : (c : Place) (w : List ℕ) (b : ℕ) → move (in_name c w) b ≡ in_word w b (in_name c) (behind_word c w b)
unfolding move
word_state (Place.operand d) w b = refl
word_state (Place.line x) w b = refl
word_state Place.equation w b = refl

pub data WordMove (c : Place) (w : List ℕ) (b : ℕ) (q : State) : Type 0 where
  grows : is_word_byte b ≡ true → length w < most_letters → q ≡ in_name c (w ++ (b ∷ [])) → WordMove c w b q
  behind : is_word_byte b ≡ false → behind_word c w b ≡ Move.to q → WordMove c w b q

pub word_cases : (c : Place) (w : List ℕ) (b : ℕ) (q : State) → move (in_name c w) b ≡ Move.to q → WordMove c w b q
unfolding in_word
word_cases c w b q moves =
    let seen : in_word w b (in_name c) (behind_word c w b) ≡ Move.to q = sym (word_state c w b) ∙ moves in
    pick (is_word_byte b) _ _ seen (λ e m. last (ltb (length w) most_letters) m (λ few is. WordMove.grows e (ltb-true (length w) most_letters few) is))
    (λ e m. WordMove.behind e m)

pub unless_is : (w : List ℕ) (m : Move) (q : State) → unless_keyword w m ≡ Move.to q → (is_keyword w ≡ false) × (m ≡ Move.to q)
unfolding unless_keyword
unless_is w m q moves = pick (is_keyword w) _ _ moves (λ _ e. absurd (no_moves e refl)) (λ e rest. (e, rest))

-- behind a word on an equation's left: it is `out`, or a name
pub data LeftMove (w : List ℕ) (b : ℕ) (q : State) : Type 0 where
  outputs : same_word w word_out ≡ true → is_blank b ≡ true → q ≡ State.first Which.outs → LeftMove w b q
  names : is_keyword w ≡ false → behind_left b ≡ Move.to q → LeftMove w b q

pub left_cases : (w : List ℕ) (b : ℕ) (q : State) → behind_word Place.equation w b ≡ Move.to q → LeftMove w b q
left_cases w b q moves =
    pick (same_word w word_out) _ _ moves (λ e m. last (is_blank b) m (λ blank is. LeftMove.outputs e blank is))
    (λ _ m. let (plain, rest) = unless_is w (behind_left b) q m in LeftMove.names plain rest)
