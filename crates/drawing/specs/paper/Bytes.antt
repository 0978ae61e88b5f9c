-- Numbers in a table's bytes.
use Rattle.std.specs.Prelude.{ℕ, zero, suc, ◌+◌, ◌*◌, Bool, false, ◌||◌, List, [], ◌∷◌, get_or, take, drop, leb}
use Rattle.drawing.specs.paper.Limits.{length_size, frame_size}

-- "high byte first": the bytes as digits behind the number read so far
unfoldable pub high_first : ℕ → List ℕ → ℕ
high_first n [] = n
high_first n (b ∷ bs) = high_first (256 * n + b) bs

-- the number that `size` bytes from `at` on make
unfoldable pub number_at : List ℕ → ℕ → ℕ → ℕ
number_at s at size = high_first 0 (take size (drop at s))

-- "Each field is a one-byte tag, a two-byte length (high byte first) and the value."
abbrev pub tag_at : List ℕ → ℕ → ℕ
tag_at s at = get_or s at 0

abbrev pub length_at : List ℕ → ℕ → ℕ
length_at s at = number_at s (at + 1) length_size

-- where the value of the field at `at` starts
abbrev pub value_at : ℕ → ℕ
value_at at = at + frame_size

-- numbers of `width` bytes, one after the other
abbrev pub ids_at : List ℕ → (at width count : ℕ) → List ℕ
ids_at s at width zero = []
ids_at s at width (suc count) = number_at s at width ∷ ids_at s (at + width) width count

-- "an id of n or more" among the ids
unfoldable pub some_from : ℕ → List ℕ → Bool
some_from n [] = false
some_from n (v ∷ vs) = leb n v || some_from n vs
