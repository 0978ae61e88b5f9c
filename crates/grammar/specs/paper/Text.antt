-- The bytes that equations are typed in: blanks, letters, digits, signs and words.
use Rattle.std.specs.Prelude.{ℕ, Bool, true, false, cond, ◌||◌, ◌&&◌, List, [], ◌∷◌, get_or, drop, leb, eqb}

-- The byte at a place. Behind the text's end it is 0, which nothing of the grammar is.
abbrev pub byte_at : List ℕ → ℕ → ℕ
byte_at s i = get_or s i 0

-- `!`, `*`, `+`, brackets, `=` and `;`
abbrev pub bang : ℕ
bang = 33

abbrev pub star : ℕ
star = 42

abbrev pub plus : ℕ
plus = 43

abbrev pub opening : ℕ
opening = 40

abbrev pub closing : ℕ
closing = 41

abbrev pub equals : ℕ
equals = 61

abbrev pub semicolon : ℕ
semicolon = 59

-- "Spaces and line ends": a space, a line feed or a carriage return; a tab is none of them
unfoldable pub is_blank : ℕ → Bool
is_blank b = eqb b 32 || (eqb b 10 || eqb b 13)

-- a letter, A to Z or a to z; a digit, 0 to 9
unfoldable pub is_letter : ℕ → Bool
is_letter b = (leb 65 b && leb b 90) || (leb 97 b && leb b 122)

unfoldable pub is_digit : ℕ → Bool
is_digit b = leb 48 b && leb b 57

unfoldable pub is_word_byte : ℕ → Bool
is_word_byte b = is_letter b || is_digit b

-- "`in` and `out` are no names"
abbrev pub word_in : List ℕ
word_in = 105 ∷ 110 ∷ []

abbrev pub word_out : List ℕ
word_out = 111 ∷ 117 ∷ 116 ∷ []

-- "names of 1 to 16 letters and digits"
abbrev pub most_letters : ℕ
most_letters = 16

-- "to a nesting of 32"
abbrev pub most_brackets : ℕ
most_brackets = 32

-- "a text has at most 8,192 bytes"
abbrev pub most_text : ℕ
most_text = 8192

-- the letters and digits that bytes begin with
unfoldable pub word_of : List ℕ → List ℕ
word_of [] = []
word_of (b ∷ bs) = cond (is_word_byte b) (b ∷ word_of bs) []

-- The word that stands at a place: two words never touch, so of a name's place it is the name.
abbrev pub word_at : List ℕ → ℕ → List ℕ
word_at s p = word_of (drop p s)

-- two words are one, byte for byte
unfoldable pub same_word : List ℕ → List ℕ → Bool
same_word [] [] = true
same_word [] (c ∷ cs) = false
same_word (b ∷ bs) [] = false
same_word (b ∷ bs) (c ∷ cs) = eqb b c && same_word bs cs
