-- What is asked of a net besides its form, where theorems need it.
use Rattle.std.specs.Prelude.{ℕ, ◌≤◌, ◌<◌, ◌≡◌, length}
use mathlib.Core.List.{[], Memᴰ}
use Rattle.theory.specs.paper.Net.{Net, Gate, Input}

-- What a table that reads whole gives: inputs have no fanins, and a gate has 1 to K of them ("m is 1 to K", "K-bounded is enough"), all nodes.
pub record Bounded (net : Net) (k : ℕ) : Type 0 where
  pub span : net.inputs ≤ net.nodes
  pub inputs_feed : (v : ℕ) → Input net v → net.fanins v ≡ []
  pub fed : (g : ℕ) → Gate net g → 1 ≤ length (net.fanins g)
  pub few : (g : ℕ) → Gate net g → length (net.fanins g) ≤ k
  pub nodes : (g : ℕ) → Gate net g → (v : ℕ) → Memᴰ v (net.fanins g) → v < net.nodes

-- A rank: fanins come before. A net that has one has no loop ("some gate reaches itself along fanins").
-- `rises` speaks of every g: what is no node of the net has to have no fanins, or only such as come before.
pub record Ranked (net : Net) : Type 0 where
  pub rank : ℕ → ℕ
  pub rises : (u g : ℕ) → Memᴰ u (net.fanins g) → rank u < rank g
