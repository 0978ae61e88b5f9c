-- What the rounds ask and leave, and how leaves are written.
use Rattle.std.specs.Prelude.{ℕ, suc, ◌*◌, ◌≤◌, ◌<◌, ◌≡◌, Bool, true, false, Option, None, Some, List, length, set}
use Rattle.storage.specs.declared.CutSize.{CutSize}
use Rattle.storage.specs.Entries.{at}
use Rattle.flow.specs.Numbers.{those}
use Rattle.flow.specs.Links.{ins_in, outs_in}
use Rattle.flow.specs.Flow.{is_leaf}
use Rattle.flow.specs.Turns.{Searched}
use Rattle.flow.specs.Sweeps.{Field, AllSettled}
use Rattle.flow.specs.Augments.{FlowIn}

pub record RunAsked (inputs nodes k : ℕ) (fanins order roles links : List ℕ) : Type 0 where
  pub field : Field inputs nodes fanins order roles
  pub k_small : k ≤ 6
  pub long : 5 * nodes ≤ length links

-- K + 1 paths were found, or the flow is full with fewer, and all is settled.
pub data Ran (inputs nodes k : ℕ) (fanins roles : List ℕ) (r : Option CutSize) (links : List ℕ) : Type 0 where
  many : r ≡ None → FlowIn inputs nodes fanins roles links (suc k) → Ran inputs nodes k fanins roles r links
  full : (size : CutSize) (last : ℕ) → r ≡ Some size → size.leaves ≤ k → FlowIn inputs nodes fanins roles links size.leaves →
      Searched inputs nodes fanins roles links last → AllSettled inputs nodes fanins roles links → Ran inputs nodes k fanins roles r links

-- whether v is one of the leaves that a search without an end leaves, and all of them
abbrev pub leaf_in : (nodes : ℕ) (links : List ℕ) (v : ℕ) → Bool
leaf_in nodes links v = is_leaf (at (ins_in nodes links) v) (at (outs_in nodes links) v)

abbrev pub leaves_in : (nodes : ℕ) (links : List ℕ) → List ℕ
leaves_in nodes links = those (leaf_in nodes links) nodes

-- v was written as the j-th leaf, if it is one
pub data LeafPut (nodes : ℕ) (links : List ℕ) (v j : ℕ) (cut : List ℕ) (r : ℕ) (cut' : List ℕ) : Type 0 where
  put : leaf_in nodes links v ≡ true → r ≡ suc j → cut' ≡ set cut j v → LeafPut nodes links v j cut r cut'
  none : leaf_in nodes links v ≡ false → r ≡ j → cut' ≡ cut → LeafPut nodes links v j cut r cut'

pub record LeafAsked (nodes : ℕ) (links : List ℕ) (v j : ℕ) (cut : List ℕ) : Type 0 where
  pub small : nodes ≤ 32767
  pub long : 5 * nodes ≤ length links
  pub node : v < nodes
  pub room : leaf_in nodes links v ≡ true → j < length cut

pub record LeavesAsked (nodes : ℕ) (links cut : List ℕ) : Type 0 where
  pub small : nodes ≤ 32767
  pub long : 5 * nodes ≤ length links
  pub room : length (leaves_in nodes links) ≤ length cut
