-- The text that the lister and the inspector's program print, as a list of bytes.
use Rattle.std.specs.Prelude.{ℕ, zero, suc, ◌+◌, ◌/◌, ◌%◌, Bool, true, false, cond, List, [], ◌∷◌, ◌++◌, length, ltb}
use Prim.Native.Char.{code}
use Prim.Native.String.{String}
use Prim.Native.String as text

abbrev pub bytes : String → List ℕ
bytes text.[] = []
bytes (text.◌∷◌ c cs) = code c ∷ bytes cs

abbrev pub newline : List ℕ
newline = bytes "\n"

-- the digit of a number below 16, upper case
unfoldable pub digit : ℕ → ℕ
digit d = cond (ltb d 10) (48 + d) (55 + d)

-- the last `count` digits of n in a base, the most significant first
unfoldable pub digits : (base count : ℕ) → ℕ → List ℕ
digits base zero n = []
digits base (suc count) n = digits base count (n / base) ++ (digit (n % base) ∷ [])

-- how many decimal digits n has, told whether it is below ten: one, or one more than n / 10 has; `most` bounds the divisions
unfoldable pub places_within : (most : ℕ) (below : Bool) → ℕ → ℕ
places_within zero below n = 1
places_within (suc most) true n = 1
places_within (suc most) false n = 1 + places_within most (ltb (n / 10) 10) (n / 10)

unfoldable pub places : ℕ → ℕ
places n = places_within n (ltb n 10) n

-- a number in plain decimal: no zeros in front, and "0" for 0
unfoldable pub decimal : ℕ → List ℕ
decimal n = digits 10 (places n) n

-- "a table is 16 hex digits"
unfoldable pub hex16 : ℕ → List ℕ
hex16 n = digits 16 16 n

-- a word with a number behind it
unfoldable pub numbered : List ℕ → ℕ → List ℕ
numbered word n = word ++ decimal n

abbrev pub named : String → ℕ → List ℕ
named word n = numbered (bytes word) n

-- what is printed of each, one after the other
unfoldable pub each : {A : Type 0} → (A → List ℕ) → List A → List ℕ
each print [] = []
each print (a ∷ more) = print a ++ each print more

pub record Lut : Type 0 where
  pub root : ℕ
  pub depth : ℕ
  pub leaves : List ℕ
  pub table : ℕ

pub record Output : Type 0 where
  pub node : ℕ
  pub depth : ℕ

pub record Mapping : Type 0 where
  pub k : ℕ
  pub inputs : ℕ
  pub gates : ℕ
  pub luts : List Lut
  pub depth : ℕ
  pub outputs : List Output

-- `K 3 inputs 4 gates 3 luts 3 depth 2`
unfoldable pub head_line : (k inputs gates luts depth : ℕ) → List ℕ
head_line k inputs gates luts depth =
    named "K " k ++ named " inputs " inputs ++ named " gates " gates ++ named " luts " luts ++ named " depth " depth ++ newline

-- a leaf in a LUT's line, with the space before it
unfoldable pub leaf_text : ℕ → List ℕ
leaf_text v = named " " v

-- `lut 4 depth 1 leaves 0 1 table 0000000000000008`
unfoldable pub lut_line : Lut → List ℕ
lut_line l =
    named "lut " l.root ++ named " depth " l.depth
    ++ bytes " leaves" ++ each leaf_text l.leaves
    ++ bytes " table " ++ hex16 l.table ++ newline

-- `output 6 depth 2`
unfoldable pub output_line : Output → List ℕ
output_line o = named "output " o.node ++ named " depth " o.depth ++ newline

-- "LUT lines run by root, output lines in file order; depths are LUT depths"
unfoldable pub listing_of : Mapping → List ℕ
listing_of m =
    head_line m.k m.inputs m.gates (length m.luts) m.depth
    ++ each lut_line m.luts
    ++ each output_line m.outputs

-- "A refusal prints one line, as `refused 7 at 2`."
unfoldable pub refused_line : (number place : ℕ) → List ℕ
refused_line number place = named "refused " number ++ named " at " place ++ newline

-- "and prints `accepted depth 2`"
unfoldable pub accepted_line : ℕ → List ℕ
accepted_line depth = named "accepted depth " depth ++ newline
