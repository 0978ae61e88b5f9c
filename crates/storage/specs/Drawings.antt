-- A drawing in arrays: the net that lists of fanins are, an order of its gates, and both together with the numbers that they fit.
use Rattle.std.specs.Prelude.{ℕ, ◌+◌, ◌*◌, ◌-◌, ◌≤◌, ◌<◌, ◌≡◌, cond, ltb, length, get_or, take}
use mathlib.Core.List.{List, [], Memᴰ}
use Rattle.theory.specs.paper.Net.{Net, Gate}
use Rattle.theory.specs.paper.Lists.{NoRepeats}
use Rattle.theory.specs.paper.Sound.{Bounded}
use Rattle.storage.specs.Lists.{size_at, list_at, ListsIn}

-- The net that lists of fanins are. Stale entries behind the drawing are no part of it.
unfoldable pub net_in : (inputs nodes : ℕ) (fanins : List ℕ) → Net
net_in inputs nodes fanins = record { inputs = inputs; nodes = nodes; fanins = λ v. cond (ltb v nodes) (list_at fanins v) [] }

-- the function tables that an array holds
abbrev pub tables_in : List ℕ → ℕ → ℕ
tables_in rows v = get_or rows v 0

-- The lists of fanins have room for the drawing's nodes, and the net that they are is K-bounded.
pub record Drawn (inputs nodes k : ℕ) (fanins : List ℕ) : Type 0 where
  pub lists : ListsIn nodes fanins
  pub bounded : Bounded (net_in inputs nodes fanins) k

-- A node's fanins lie within the array, and each has an entry in an array of `size` entries.
pub record Fed (fanins : List ℕ) (node size : ℕ) : Type 0 where
  pub long : 7 * node + 7 ≤ length fanins
  pub six : size_at fanins node ≤ 6
  pub known : (v : ℕ) → Memᴰ v (list_at fanins node) → v < size

-- Every gate stands in the order once, and each fanin that is a gate comes before its reader.
pub record Ordered (net : Net) (order : List ℕ) : Type 0 where
  pub size : net.inputs + length order ≡ net.nodes
  pub gates : (v : ℕ) → Memᴰ v order → Gate net v
  pub all : (v : ℕ) → Gate net v → Memᴰ v order
  pub once : NoRepeats order
  pub before : (i u : ℕ) → i < length order → Memᴰ u (net.fanins (get_or order i 0)) → Gate net u →
      (j : ℕ) × (j < i) × (get_or order j 0 ≡ u)

-- A drawing with its order: K is at most six, and ids, ids plus two and the numbers of states fit 16 bits.
pub record Arranged (inputs nodes k : ℕ) (fanins order : List ℕ) : Type 0 where
  pub drawn : Drawn inputs nodes k fanins
  pub order_long : nodes ≤ inputs + length order
  pub ordered : Ordered (net_in inputs nodes fanins) (take (nodes - inputs) order)
  pub small : nodes ≤ 32767
  pub k_small : k ≤ 6
