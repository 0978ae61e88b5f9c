-- Completion: every state can be completed. For each there are bytes that lead to `done`, by computing, with one induction on the open brackets; a
-- keyword plus `a` is a name.
use Prim.Native.Nat.{ℕ, zero, suc, ◌-◌, ◌≤◌}
use native.Mathlib.Omega.{arith}
use mathlib.Core.Path.{◌≡◌, refl, ap, ◌∙◌, subst}
use mathlib.Core.Logic.{⊎_elim}
use mathlib.Core.Bool.{Bool, true, false}
use mathlib.Core.List.{List, [], ◌∷◌, ◌++◌, append-nil}
use lib.ListN.{length, take, length-append}
use lib.Seq.{get_or-append_seam, length-take-le, append_snoc, get_or-take}
use borrow.Author.Tests.{lt-ltb}
use Rattle.grammar.specs.paper.Text.{
  is_blank,
  is_letter,
  is_digit,
  is_word_byte,
  word_in,
  word_out,
  same_word,
}
use Rattle.grammar.specs.Machine.{
  Which,
  State,
  Move,
  is_keyword,
  end_of,
  in_word,
  behind_listed,
  behind_left,
  behind_operand,
  unless_keyword,
  move,
  Runs,
}
use Rattle.grammar.proofs.Bytes.{keyword_is, keyword_short, same_word_not, not_out}
use Rattle.grammar.proofs.Runs.{run_then, run_elsewhere}

-- bytes that lead from a state to done
pub data Completes : State → List ℕ → Type 0 where
  finished : Completes State.done []
  byte : {q q₁ : State} {bs : List ℕ} (b : ℕ) → move q b ≡ Move.to q₁ → Completes q₁ bs → Completes q (b ∷ bs)

abbrev Completed : State → Type 0
Completed q = (bs : List ℕ) × Completes q bs

then : {q q₁ : State} (b : ℕ) → move q b ≡ Move.to q₁ → Completed q₁ → Completed q
then b moves rest = (b ∷ rest.0, Completes.byte b moves rest.1)

-- `;` behind `out`'s names, `a;`, ` a;`
outs_next : Completed (State.next Which.outs)
unfolding move behind_listed end_of is_blank is_letter
outs_next = then 59 refl ([], Completes.finished)

outs_listed : (w : List ℕ) → is_keyword w ≡ false → Completed (State.listed Which.outs w)
unfolding move in_word unless_keyword behind_listed end_of is_blank is_letter is_digit is_word_byte
outs_listed w plain = then 59 (rw plain) ([], Completes.finished)

outs_first : Completed (State.first Which.outs)
unfolding move is_blank is_letter is_keyword same_word
outs_first = then 97 refl (outs_listed (97 ∷ []) refl)

out_word : Completed (State.left word_out)
unfolding move in_word same_word is_blank is_letter is_digit is_word_byte
out_word = then 32 refl outs_first

-- `out a;`
between_completed : Completed State.between_lines
unfolding move in_word is_blank is_letter is_digit is_word_byte
between_completed = then 111 refl (then {q₁ = State.left (111 ∷ 117 ∷ [])} 117 refl (then 116 refl out_word))

-- `;out a;` and so on
ins_next : Completed (State.next Which.ins)
unfolding move behind_listed end_of is_blank is_letter
ins_next = then 59 refl between_completed

ins_listed : (w : List ℕ) → is_keyword w ≡ false → Completed (State.listed Which.ins w)
unfolding move in_word unless_keyword behind_listed end_of is_blank is_letter is_digit is_word_byte
ins_listed w plain = then 59 (rw plain) between_completed

ins_first : Completed (State.first Which.ins)
unfolding move is_blank is_letter is_keyword same_word
ins_first = then 97 refl (ins_listed (97 ∷ []) refl)

plain_listed : (x : Which) (w : List ℕ) → is_keyword w ≡ false → Completed (State.listed x w)
plain_listed Which.ins w plain = ins_listed w plain
plain_listed Which.outs w plain = outs_listed w plain

-- A word that is a keyword becomes a name by `a`.
abbrev grown : List ℕ → List ℕ
grown w = w ++ (97 ∷ [])

plain_grown : (w : List ℕ) → is_keyword w ≡ true → is_keyword (grown w) ≡ false
unfolding is_keyword same_word
plain_grown w keyword =
    ⊎_elim (λ (e : w ≡ word_in). ap (λ v. is_keyword (grown v)) e) (λ (e : w ≡ word_out). ap (λ v. is_keyword (grown v)) e) (keyword_is w keyword)

listed_completed : (x : Which) (w : List ℕ) (t : Bool) → is_keyword w ≡ t → Completed (State.listed x w)
unfolding move in_word is_letter is_digit is_word_byte
listed_completed x w true keyword =
    then 97 (rw (lt-ltb (length w) 16 (omega (arith, keyword_short w keyword)))) (plain_listed x (grown w) (plain_grown w keyword))
listed_completed x w false plain = plain_listed x w plain

-- an expression: closing brackets, then `;out a;`
has_completed : (d : ℕ) → Completed (State.has d)
unfolding move behind_operand is_blank
has_completed zero = then 59 refl between_completed
has_completed (suc d) =
    let down : suc d - 1 ≡ d = omega arith in
    then 41 (rw (lt-ltb 0 (suc d) (omega arith), down)) (has_completed d)

plain_used : (d : ℕ) (w : List ℕ) → is_keyword w ≡ false → Completed (State.used d w)
unfolding move in_word unless_keyword behind_operand is_blank is_letter is_digit is_word_byte
plain_used d w plain = then 32 (rw plain) (has_completed d)

used_completed : (d : ℕ) (w : List ℕ) (t : Bool) → is_keyword w ≡ t → Completed (State.used d w)
unfolding move in_word is_letter is_digit is_word_byte
used_completed d w true keyword = then 97 (rw (lt-ltb (length w) 16 (omega (arith, keyword_short w keyword)))) (plain_used d (grown w) (plain_grown w keyword))
used_completed d w false plain = plain_used d w plain

wants_completed : (d : ℕ) → Completed (State.wants d)
unfolding move is_blank is_letter is_keyword same_word
wants_completed d = then 97 refl (plain_used d (97 ∷ []) refl)

-- an equation's left side
named_completed : Completed State.named
unfolding move behind_left is_blank
named_completed = then 61 refl (wants_completed 0)

plain_left : (w : List ℕ) → is_keyword w ≡ false → Completed (State.left w)
unfolding move in_word unless_keyword behind_left is_blank is_letter is_digit is_word_byte
plain_left w plain = then 61 (rw (same_word_not w word_out (not_out w plain), plain)) (wants_completed 0)

left_completed : (w : List ℕ) (t : Bool) → is_keyword w ≡ t → Completed (State.left w)
unfolding move in_word is_letter is_digit is_word_byte
left_completed w true keyword = then 97 (rw (lt-ltb (length w) 16 (omega (arith, keyword_short w keyword)))) (plain_left (grown w) (plain_grown w keyword))
left_completed w false plain = plain_left w plain

-- `in a;out a;`
word_in_completed : Completed State.read_in
unfolding move is_blank
word_in_completed = then 32 refl ins_first

letter_i_completed : Completed State.letter_i
unfolding move
letter_i_completed = then 110 refl word_in_completed

pub completed : (q : State) → (bs : List ℕ) × Completes q bs
unfolding move is_blank
completed State.before = then 105 refl letter_i_completed
completed State.letter_i = letter_i_completed
completed State.read_in = word_in_completed
completed (State.first Which.ins) = ins_first
completed (State.first Which.outs) = outs_first
completed (State.listed x w) = listed_completed x w (is_keyword w) refl
completed (State.next Which.ins) = ins_next
completed (State.next Which.outs) = outs_next
completed State.between_lines = between_completed
completed (State.left w) = left_completed w (is_keyword w) refl
completed State.named = named_completed
completed (State.wants d) = wants_completed d
completed (State.used d w) = used_completed d w (is_keyword w) refl
completed (State.has d) = has_completed d
completed State.done = ([], Completes.finished)

-- such bytes behind any beginning are a run
pub completion_runs : {q : State} {bs : List ℕ} (u : List ℕ) → Completes q bs → Runs (u ++ bs) q (length u) State.done (length (u ++ bs))
completion_runs u Completes.finished = rw append-nil Runs.stay
completion_runs u (Completes.byte {q = q} {q₁ = q₁} {bs = bs} b moves rest) =
    let longer : length (u ++ (b ∷ [])) ≡ suc (length u) = length-append u (b ∷ []) ∙ omega arith in
    let whole : u ++ (b ∷ []) ++ bs ≡ u ++ (b ∷ bs) = append_snoc u b bs in
    let further : Runs (u ++ (b ∷ []) ++ bs) q₁ (length (u ++ (b ∷ []))) State.done (length (u ++ (b ∷ []) ++ bs)) =
    completion_runs (u ++ (b ∷ [])) rest in
    Runs.go {i = length u} (omega (arith, length-append u (b ∷ bs))) (ap (move q) (get_or-append_seam u b bs 0) ∙ moves)
    (rw (longer, whole) at further)

-- What a run has read and the bytes that complete its state run to the end.
pub record Completion (s : List ℕ) (p : ℕ) : Type 0 where
  pub rest : List ℕ
  pub run : Runs (take p s ++ rest) State.before 0 State.done (length (take p s ++ rest))

pub completion : {s : List ℕ} {q : State} {p : ℕ} → p ≤ length s → Runs s State.before 0 q p → Completion s p
completion {s} {q} {p} inside run =
    let (rest, completes) = completed q in
    let text : List ℕ = take p s ++ rest in
    let start : length (take p s) ≡ p = length-take-le p s inside in
    let begun : Runs text State.before 0 q p =
    run_elsewhere text (omega (arith, length-append (take p s) rest))
    (λ m low high. lib.ListN.get_or-append (take p s) rest 0 m (omega arith) ∙ get_or-take p s m 0 high) run in
    record { rest = rest; run = run_then begun (subst (λ n. Runs text q n State.done (length text)) start (completion_runs (take p s) completes)) }
