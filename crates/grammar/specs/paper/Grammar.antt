-- The grammar of equations. Each notion is told between two places of one text: from place i up to place j, which is not counted, stands a name, a
-- term, and so on. A name is known by the place of its first byte.
use Rattle.std.specs.Prelude.{ℕ, suc, ◌+◌, ◌-◌, ◌≤◌, ◌<◌, ◌≡◌, true, List, [], ◌∷◌, length, take, drop}
use Rattle.grammar.specs.paper.Text.{
  byte_at,
  bang,
  star,
  plus,
  opening,
  closing,
  equals,
  semicolon,
  is_blank,
  is_letter,
  is_word_byte,
  word_in,
  word_out,
  most_letters,
  most_brackets,
}

-- the bytes from place i up to j
abbrev pub between : List ℕ → (i j : ℕ) → List ℕ
between s i j = take (j - i) (drop i s)

-- What an expression says: a name, by its place, or an operator with its operands.
pub data Tree : Type 0 where
  name : (place : ℕ) → Tree
  not : Tree → Tree
  and : Tree → Tree → Tree
  or : Tree → Tree → Tree

-- "name = expression;"
pub record Equation : Type 0 where
  pub place : ℕ
  pub tree : Tree

-- What a text says: the names behind `in`, the equations, the names behind `out`.
pub record System : Type 0 where
  pub inputs : List ℕ
  pub equations : List Equation
  pub outputs : List ℕ

module _ (s : List ℕ) where
  -- any number of blanks
  pub record Blanks (i j : ℕ) : Type 0 where
    pub ordered : i ≤ j
    pub each : (m : ℕ) → i ≤ m → m < j → is_blank (byte_at s m) ≡ true

  -- at least one
  pub record Gap (i j : ℕ) : Type 0 where
    pub some : i < j
    pub blanks : Blanks i j

  -- "names of 1 to 16 letters and digits starting with a letter"; "`in` and `out` are no names"
  pub record Name (i j : ℕ) : Type 0 where
    pub some : i < j
    pub few : j ≤ i + most_letters
    pub letter : is_letter (byte_at s i) ≡ true
    pub each : (m : ℕ) → i ≤ m → m < j → is_word_byte (byte_at s m) ≡ true
    pub not_in : between s i j ≡ word_in → ⊥
    pub not_out : between s i j ≡ word_out → ⊥

  -- "`in a b c`": names, each behind blanks, and at least one
  pub data Names : (i j : ℕ) → List ℕ → Type 0 where
    one : {i a j : ℕ} → Gap i a → Name a j → Names i j (a ∷ [])
    more : {i a b j : ℕ} {places : List ℕ} → Gap i a → Name a b → Names b j places → Names i j (a ∷ places)

  -- A sign, and the blanks behind it: "Spaces and line ends may stand around any sign".
  pub record Sign (sign i j : ℕ) : Type 0 where
    pub here : byte_at s i ≡ sign
    pub blanks : Blanks (suc i) j

  -- "`!` binding tightest and `+` loosest": `Expression n i j e` is an expression in which at most n brackets are open at once, and e is what it says.
  -- Terms and factors are grouped to the left: `MoreTerms` goes on behind what was read so far.
  mutual
    pub data Factor : (n i j : ℕ) → Tree → Type 0 where
      negated : {n i a j : ℕ} {e : Tree} → Sign bang i a → Factor n a j e → Factor n i j (Tree.not e)
      bracketed : {n m i a b j : ℕ} {e : Tree} → n ≡ suc m → Sign opening i a → Expression m a b e → Sign closing b j → Factor n i j e
      named : {n i a j : ℕ} → Name i a → Blanks a j → Factor n i j (Tree.name i)

    pub data MoreFactors : (n : ℕ) (read : Tree) (i j : ℕ) → Tree → Type 0 where
      no_factor : {n i : ℕ} {e : Tree} → MoreFactors n e i i e
      factor : {n i a b j : ℕ} {e f g : Tree} → Sign star i a → Factor n a b f → MoreFactors n (Tree.and e f) b j g → MoreFactors n e i j g

    pub data Term : (n i j : ℕ) → Tree → Type 0 where
      factors : {n i a j : ℕ} {e f : Tree} → Factor n i a e → MoreFactors n e a j f → Term n i j f

    pub data MoreTerms : (n : ℕ) (read : Tree) (i j : ℕ) → Tree → Type 0 where
      no_term : {n i : ℕ} {e : Tree} → MoreTerms n e i i e
      term : {n i a b j : ℕ} {e f g : Tree} → Sign plus i a → Term n a b f → MoreTerms n (Tree.or e f) b j g → MoreTerms n e i j g

    pub data Expression : (n i j : ℕ) → Tree → Type 0 where
      terms : {n i a j : ℕ} {e f : Tree} → Term n i a e → MoreTerms n e a j f → Expression n i j f

  -- "text of the form `name = expression;`", and the blanks behind it; "to a nesting of 32"
  pub record Equates (i j : ℕ) (e : Tree) : Type 0 where
    pub name_end : ℕ
    pub sign : ℕ
    pub start : ℕ
    pub stop : ℕ
    pub named : Name i name_end
    pub blanks : Blanks name_end sign
    pub equals_sign : Sign equals sign start
    pub expression : Expression most_brackets start stop e
    pub end : Sign semicolon stop j

  -- "0 or more equations stand between"
  pub data Equations : (i j : ℕ) → List Equation → Type 0 where
    none : {i : ℕ} → Equations i i []
    more : {i a j : ℕ} {e : Tree} {rest : List Equation} → Equates i a e → Equations a j rest →
        Equations i j (record { place = i; tree = e } ∷ rest)

  -- "A first line `in a b c;` gives the inputs, a last line `out f g;` the outputs": the keyword, names and `;`
  pub record Line (keyword : List ℕ) (i j : ℕ) (places : List ℕ) : Type 0 where
    pub names_end : ℕ
    pub stop : ℕ
    pub keyword_here : between s i (i + length keyword) ≡ keyword
    pub names : Names (i + length keyword) names_end places
    pub blanks : Blanks names_end stop
    pub end : Sign semicolon stop j

  -- The text is in the grammar, and says this.
  pub record WellFormed (sys : System) : Type 0 where
    pub start : ℕ
    pub first : ℕ
    pub last : ℕ
    pub blanks : Blanks 0 start
    pub inputs : Line word_in start first sys.inputs
    pub equations : Equations first last sys.equations
    pub outputs : Line word_out last (length s) sys.outputs
