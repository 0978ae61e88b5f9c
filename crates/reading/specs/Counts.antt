-- What a count of bytes that were read says of the buffer.
use Rattle.std.specs.Prelude.{ℕ, ◌≤◌, ◌≡◌, List, length, take}

-- The first n of these bytes are there, and are n. The second part follows from the first, and is what a caller that takes them needs.
abbrev pub IsPrefixLen : ℕ → List ℕ → Type 0
IsPrefixLen n bytes = (n ≤ length bytes) × (n ≡ length (take n bytes))
