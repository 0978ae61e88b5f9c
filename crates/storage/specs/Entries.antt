-- What a lent slice holds after a function has used it: one word for "0 there", one for "all else as before".
use Rattle.std.specs.Prelude.{ℕ, ◌≡◌, List, ◌++◌, length, get_or, drop, replicate}

-- the first n entries are 0, and those beyond are as before
abbrev pub cleared : ℕ → List ℕ → List ℕ
cleared n l = replicate n 0 ++ drop n l

-- the entries beyond the first n are as before
pub record Beyond (n : ℕ) (before after : List ℕ) : Type 0 where
  pub size : length after ≡ length before
  pub beyond : drop n after ≡ drop n before

-- a list as a function of its places
abbrev pub at : List ℕ → ℕ → ℕ
at l v = get_or l v 0

-- g is f after x was stored at i
pub record Upd (f : ℕ → ℕ) (i x : ℕ) (g : ℕ → ℕ) : Type 0 where
  pub here : g i ≡ x
  pub there : (j : ℕ) → (j ≡ i → ⊥) → g j ≡ f j
