-- What reading a line of names promises. Where a reader stops, the machine halts.
use Rattle.std.specs.Prelude.{ℕ, suc, ◌+◌, ◌*◌, ◌≤◌, ◌≡◌, Bool, true, false, cond, ◌&&◌, List, [], ◌∷◌, length, ltb, eqb, Result, Ok, Err}
use Rattle.std.proofs.lemmas.List.Edits.{sets}
use Rattle.grammar.specs.paper.Text.{byte_at, semicolon, is_blank, word_out, most_text}
use Rattle.grammar.specs.paper.Grammar.{Blanks, Gap, Name, Names, Sign}
use Rattle.grammar.specs.Machine.{Which, State, Move, Runs, Halts, move, end_of, behind_listed}
use Rattle.spelling.specs.declared.Stopped.{Stopped}
use Rattle.spelling.specs.Spelling.{Named, Unnamed}
use Rattle.scanning.specs.declared.names.Entry.{Entry}
use Rattle.scanning.specs.declared.names.Entry.TheVariants as entry
use Rattle.scanning.specs.declared.names.Reached.{Reached}

-- which line of names it is
unfoldable pub which_of : (outs : Bool) → Which
which_of true = Which.outs
which_of false = Which.ins

-- the state behind its keyword
unfoldable pub start_of : Which → State
start_of Which.ins = State.read_in
start_of Which.outs = State.left word_out

-- what a byte does there, or behind a name of the line
unfoldable pub behind_word : Which → (some : Bool) → ℕ → Move
behind_word x true b = behind_listed x b
behind_word x false b = cond (is_blank b) (Move.to (State.first x)) Move.stuck

module _ (s : List ℕ) where
  -- a name behind blanks
  pub record NextName (at from end : ℕ) : Type 0 where
    pub gap : Gap s at from
    pub named : Named s from end

  -- `;`, behind a name of the line
  pub record LineEnd (at : ℕ) (some : Bool) (next : ℕ) : Type 0 where
    pub behind_name : some ≡ true
    pub stop : ℕ
    pub blanks : Blanks s at stop
    pub end : Sign s semicolon stop next
    pub within : next ≤ length s
    pub solid : is_blank (byte_at s next) ≡ false

  -- Neither: no blank stands there, or no name begins behind the blanks.
  pub data NoEntry (at : ℕ) (some : Bool) (p : ℕ) : Type 0 where
    bare : p ≡ at → is_blank (byte_at s at) ≡ false → (some && eqb (byte_at s at) semicolon) ≡ false → NoEntry at some p
    unnamed : (a : ℕ) → Gap s at a → is_blank (byte_at s a) ≡ false → (some && eqb (byte_at s a) semicolon) ≡ false → Unnamed s a p →
        NoEntry at some p

  abbrev pub EntryRead : (at : ℕ) (some : Bool) → Result Entry Stopped → Type 0
  EntryRead at some (Ok (entry.Name span)) = NextName at span.from span.end
  EntryRead at some (Ok (entry.End next)) = LineEnd at some next
  EntryRead at some (Err stopped) = NoEntry at some stopped.place

  -- names so far, each behind blanks; maybe none
  pub data Listed : (i j : ℕ) → List ℕ → Type 0 where
    none : {i : ℕ} → Listed i i []
    more : {i a b j : ℕ} {places : List ℕ} → Gap s i a → Name s a b → Listed b j places → Listed i j (a ∷ places)

-- what is kept of a line's names, from number n on
unfoldable pub pairs_from : (outs : Bool) (n : ℕ) → List ℕ → List ℕ
pairs_from outs n [] = []
pairs_from outs n (p ∷ ps) = p ∷ cond outs 0 n ∷ pairs_from outs (suc n) ps

pub record LineAsked (s : List ℕ) (outs : Bool) (at listed : ℕ) (names : List ℕ) : Type 0 where
  pub within : at ≤ length s
  pub short : length s ≤ most_text
  pub room : most_text ≤ length names
  pub few : 2 * listed ≤ at
  pub takes : move (start_of (which_of outs)) (byte_at s at) ≡ behind_word (which_of outs) false (byte_at s at)

-- The names up to place `end`, behind the last of them.
pub record Reading (s : List ℕ) (outs : Bool) (at listed : ℕ) (names₀ names : List ℕ) (end count : ℕ) : Type 0 where
  pub places : List ℕ
  pub listing : Listed s at end places
  pub counted : count ≡ listed + length places
  pub stored : names ≡ sets names₀ (2 * listed) (pairs_from outs listed places)
  pub within : end ≤ length s
  pub few : 2 * count ≤ end
  pub state : State
  pub run : Runs s (start_of (which_of outs)) at state end
  pub alive : state ≡ State.done → ⊥
  pub takes : move state (byte_at s end) ≡ behind_word (which_of outs) (ltb listed count) (byte_at s end)

pub record LineRead (s : List ℕ) (outs : Bool) (at listed : ℕ) (names₀ names : List ℕ) (next count : ℕ) : Type 0 where
  pub places : List ℕ
  pub names_end : ℕ
  pub stop : ℕ
  pub names_here : Names s at names_end places
  pub blanks : Blanks s names_end stop
  pub end : Sign s semicolon stop next
  pub counted : count ≡ listed + length places
  pub stored : names ≡ sets names₀ (2 * listed) (pairs_from outs listed places)
  pub within : next ≤ length s
  pub solid : is_blank (byte_at s next) ≡ false
  pub few : 2 * count ≤ next
  pub run : Runs s (start_of (which_of outs)) at (end_of (which_of outs)) next

-- Where the line stops, so does the machine; what is kept of it is nobody's concern.
pub record LineStopped (s : List ℕ) (outs : Bool) (at : ℕ) (names₀ names : List ℕ) (p : ℕ) : Type 0 where
  pub halts : Halts s (start_of (which_of outs)) at p
  pub size : length names ≡ length names₀

abbrev pub LineOf : (s : List ℕ) (outs : Bool) (at listed : ℕ) (names₀ names : List ℕ) → Result Reached Stopped → Type 0
LineOf s outs at listed names₀ names (Ok reached) = LineRead s outs at listed names₀ names reached.next reached.listed
LineOf s outs at listed names₀ names (Err stopped) = LineStopped s outs at names₀ names stopped.place
