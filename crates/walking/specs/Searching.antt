-- What the search for a loop leaves.
use Rattle.std.specs.Prelude.{ℕ, Bool, List, Option, MatchOption}
use Rattle.storage.specs.declared.Node.{Node}
use Rattle.storage.specs.Drawings.{net_in}
use Rattle.storage.specs.Marks.{Tells}
use Rattle.theory.specs.paper.Walk.{Loop, LowestLoop, NoLoop}
use Rattle.walking.specs.Gathering.{Kept}

pub record Searched (inputs nodes : ℕ) (fanins list marks : List ℕ) (g : ℕ) (r : Bool) (list' marks' : List ℕ) : Type 0 where
  pub reply : Tells (Loop (net_in inputs nodes fanins) g) r
  pub kept : Kept inputs nodes list marks list' marks'

pub record LowestFound (inputs nodes : ℕ) (fanins list marks : List ℕ) (r : Option Node) (list' marks' : List ℕ) : Type 0 where
  pub reply : MatchOption r (NoLoop (net_in inputs nodes fanins)) (λ g. LowestLoop (net_in inputs nodes fanins) g.id)
  pub kept : Kept inputs nodes list marks list' marks'
