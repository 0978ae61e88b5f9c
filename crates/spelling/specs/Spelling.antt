-- What the readers of blanks and names promise.
use Rattle.std.specs.Prelude.{ℕ, ◌+◌, ◌≤◌, ◌<◌, ◌≡◌, true, false, ◌⊎◌, List, length, Result, Ok, Err}
use Rattle.grammar.specs.paper.Text.{byte_at, is_blank, is_letter, is_word_byte, most_letters}
use Rattle.grammar.specs.paper.Grammar.{between, Blanks, Name}
use Rattle.grammar.specs.Machine.{is_keyword}
use Rattle.spelling.specs.declared.Stopped.{Stopped}

module _ (s : List ℕ) where
  -- all blanks from i on
  pub record Skipped (i j : ℕ) : Type 0 where
    pub blanks : Blanks s i j
    pub ends : is_blank (byte_at s j) ≡ false
    pub within : i ≤ length s → j ≤ length s

  -- A word goes on no further: no letter or digit stands there, or it has 16 already.
  abbrev pub Ends : (i j : ℕ) → Type 0
  Ends i j = (is_word_byte (byte_at s j) ≡ false) ⊎ (j ≡ i + most_letters)

  -- all letters and digits from i on, or 16 of them
  pub record WordEnd (i j : ℕ) : Type 0 where
    pub ordered : i ≤ j
    pub few : j ≤ i + most_letters
    pub each : (m : ℕ) → i ≤ m → m < j → is_word_byte (byte_at s m) ≡ true
    pub ends : Ends i j
    pub within : j ≤ length s

  -- a name that goes on no further
  pub record Named (i j : ℕ) : Type 0 where
    pub name : Name s i j
    pub plain : is_keyword (between s i j) ≡ false
    pub ends : Ends i j
    pub within : j ≤ length s

  -- `in` or `out`, as a whole word
  pub record Keyword (i j : ℕ) : Type 0 where
    pub some : i < j
    pub few : j ≤ i + most_letters
    pub letter : is_letter (byte_at s i) ≡ true
    pub each : (m : ℕ) → i ≤ m → m < j → is_word_byte (byte_at s m) ≡ true
    pub keyword : is_keyword (between s i j) ≡ true
    pub ends : is_word_byte (byte_at s j) ≡ false
    pub within : j ≤ length s

  -- no name begins at i: no letter stands there, or a keyword does, behind which none goes on
  pub data Unnamed (i p : ℕ) : Type 0 where
    no_letter : p ≡ i → is_letter (byte_at s i) ≡ false → Unnamed i p
    keyword : Keyword i p → Unnamed i p

  abbrev pub Spelled : (i : ℕ) → Result ℕ Stopped → Type 0
  Spelled i (Ok j) = Named i j
  Spelled i (Err stopped) = Unnamed i stopped.place
