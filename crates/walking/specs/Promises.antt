-- What the public functions of this crate promise.
use Rattle.std.specs.Prelude.{ℕ, ◌+◌, ◌-◌, ◌≤◌, ◌<◌, ◌≡◌, Bool, List, ◌++◌, length, get_or, drop, replicate, ⊤, Result, Ok, Err}
use Rattle.storage.specs.declared.Node.{Node}
use Rattle.storage.specs.Drawings.{Drawn, Arranged}
use Rattle.storage.specs.Entries.{cleared, Beyond}
use Rattle.storage.specs.Marks.{Marks, Tells}
use Rattle.storage.specs.Roles.{walked_in, met_in}
use Rattle.theory.specs.paper.Net.{Net}
use Rattle.theory.specs.paper.Walk.{Walked, Met, LowestLoop, NoLoop, Cut}
use Rattle.walking.specs.Sweeps.{order_of}

-- "7 Loop: some gate reaches itself along fanins; lowest such gate"
pub data LoopRuling (net : Net) : Result ⊤ Node → Type 0 where
  none : NoLoop net → LoopRuling net (Ok tt)
  lowest : {g : Node} → LowestLoop net g.id → LoopRuling net (Err g)

-- The arrays hold a drawing (whatever its K), its ids fit 16 bits, and there is room for the order and for the marks.
pub record OrderRoom (inputs nodes : ℕ) (fanins order marks : List ℕ) : Type 0 where
  pub drawn : Drawn inputs nodes 6 fanins
  pub small : nodes ≤ 32767
  pub order_long : nodes ≤ inputs + length order
  pub marks_long : nodes ≤ length marks

-- the order, or nothing but zeros where there is a loop
abbrev pub entries_of : Net → Result ⊤ Node → List ℕ
entries_of net (Ok _) = order_of net
entries_of net (Err g) = replicate (net.nodes - net.inputs) 0

pub record OrderMade (net : Net) (order₀ marks₀ : List ℕ) (r : Result ⊤ Node) (order marks : List ℕ) : Type 0 where
  pub reply : LoopRuling net r
  pub entries : order ≡ entries_of net r ++ drop (net.nodes - net.inputs) order₀
  pub cleared : marks ≡ cleared net.nodes marks₀

-- A drawing with its order, a node to walk back from, and room for the roles.
pub record WalkRoom (inputs nodes k : ℕ) (fanins order : List ℕ) (t : ℕ) (roles : List ℕ) : Type 0 where
  pub drawing : Arranged inputs nodes k fanins order
  pub node : t < nodes
  pub roles_long : nodes ≤ length roles

-- The nodes walked, the nodes met, and no other role.
pub record WalkMade (net : Net) (leaves : List ℕ) (t : ℕ) (roles₀ roles : List ℕ) : Type 0 where
  pub walked_marks : Marks net.nodes (Walked net leaves t) (walked_in roles)
  pub met_marks : Marks net.nodes (Met net leaves t) (met_in roles)
  pub most : (v : ℕ) → v < net.nodes → get_or roles v 0 ≤ 3
  pub rest : Beyond net.nodes roles₀ roles

pub record CutRuled (net : Net) (k : ℕ) (leaves : List ℕ) (t : ℕ) (roles₀ : List ℕ) (r : Bool) (roles : List ℕ) : Type 0 where
  pub reply : Tells (Cut net k t leaves) r
  pub walk : WalkMade net leaves t roles₀ roles
