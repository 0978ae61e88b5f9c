-- A text buffer that a program's text is put into.
use Rattle.std.specs.Prelude.{ℕ, ◌≤◌, ◌<◌, ◌≡◌, List, length, take}
use Rattle.wording.specs.paper.Puts.{Wrote}

-- A buffer shorter than the longest text is left as it was, and the answer is 0. Else a text of this kind stands at its front, the rest of it is as
-- before, and the answer is the text's length.
pub data Filled (most : ℕ) (Text : List ℕ → Type 0) (before : List ℕ) (r : ℕ) (after : List ℕ) : Type 0 where
  short : length before < most → r ≡ 0 → after ≡ before → Filled most Text before r after
  written : (text : List ℕ) → most ≤ length before → Text text → Wrote before text r after → Filled most Text before r after

-- The answer counts bytes at the text's front. The second part follows from the first, and is what a caller that takes the front needs.
abbrev pub Front : ℕ → List ℕ → Type 0
Front r text = (r ≤ length text) × (r ≡ length (take r text))
