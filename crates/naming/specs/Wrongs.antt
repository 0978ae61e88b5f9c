-- Wrong names in the arrays, and the least place of a wrong one.
use Rattle.std.specs.Prelude.{ℕ, ◌+◌, ◌≤◌, ◌<◌, ◌≡◌, cond, ◌⊎◌, List, Option, Some, None, ltb}
use Rattle.grammar.specs.paper.Text.{most_text, word_at}
use Rattle.grammar.specs.paper.Grammar.{System}
use Rattle.grammar.specs.paper.Names.{WellNamed, FirstMisnamed}
use Rattle.naming.specs.Stored.{place_in}
use Rattle.naming.specs.Lines.{three_in}

-- what the answer says of a system
abbrev pub Named : (s : List ℕ) → System → Option ℕ → Type 0
Named s sys None = WellNamed s sys
Named s sys (Some p) = FirstMisnamed s sys p

-- the least place with a property, or that there is none
pub data LeastOf (P : ℕ → Type 0) : Option ℕ → Type 0 where
  at : {p : ℕ} → P p → ((q : ℕ) → P q → p ≤ q) → LeastOf P (Some p)
  nowhere : ((q : ℕ) → P q → ⊥) → LeastOf P None

-- the lesser of two answers
unfoldable pub earlier_of : Option ℕ → Option ℕ → Option ℕ
earlier_of None b = b
earlier_of (Some p) None = Some p
earlier_of (Some p) (Some q) = cond (ltb q p) (Some q) (Some p)

-- a property of one of the numbers below n
pub record OneBelow (n : ℕ) (W : ℕ → ℕ → Type 0) (p : ℕ) : Type 0 where
  pub index : ℕ
  pub low : index < n
  pub holds : W index p

module _ (s names : List ℕ) where
  -- one of the first n names has this word
  pub record Among (n : ℕ) (word : List ℕ) : Type 0 where
    pub index : ℕ
    pub low : index < n
    pub same : word_at s (place_in names index) ≡ word

  -- p is the place of the i-th name, and one before it has its word
  pub record AgainAt (i p : ℕ) : Type 0 where
    pub here : p ≡ place_in names i
    pub before : Among i (word_at s p)

  module _ (defined : ℕ) where
    -- p is this place, and no definition has its word
    pub record UndefinedAt (place p : ℕ) : Type 0 where
      pub here : p ≡ place
      pub nowhere : Among defined (word_at s p) → ⊥

    -- an operand that is such a place
    pub record UndefinedOperand (operand p : ℕ) : Type 0 where
      pub name : p < most_text
      pub undefined : UndefinedAt operand p

    abbrev pub UndefinedInGate : (gates : List ℕ) (j p : ℕ) → Type 0
    UndefinedInGate gates j p = UndefinedOperand (three_in gates j).left p ⊎ UndefinedOperand (three_in gates j).right p

    -- the j-th output's name
    abbrev pub UndefinedOutput : (j p : ℕ) → Type 0
    UndefinedOutput j p = UndefinedAt (place_in names (defined + j)) p
