-- A text at the front of a lent buffer.
use Rattle.std.specs.Prelude.{ℕ, ◌≡◌, List, ◌++◌, length, drop}

-- The text begins with these bytes, the rest of it is as before, and the answer is their number.
pub record Wrote (before : List ℕ) (bytes : List ℕ) (answer : ℕ) (after : List ℕ) : Type 0 where
  pub size : answer ≡ length bytes
  pub text : after ≡ bytes ++ drop (length bytes) before
