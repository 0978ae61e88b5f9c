-- Walks back from a gate, cuts and cones.
use Rattle.std.specs.Prelude.{ℕ, ◌≤◌, ◌<◌, length}
use mathlib.Core.List.{List, [], Memᴰ}
use Rattle.theory.specs.paper.Net.{Net, Gate, Input}
use Rattle.theory.specs.paper.Lists.{Rising}

-- "Walk back from a gate t through fanins, stopping at a set of leaves."
pub data Walked (net : Net) (leaves : List ℕ) (t : ℕ) : ℕ → Type 0 where
  start : Walked net leaves t t
  step : {v u : ℕ} → Walked net leaves t v → Memᴰ u (net.fanins v) → (Memᴰ u leaves → ⊥) → Walked net leaves t u

-- What the walk meets: "The walk starts at t's fanins, so t is never its own leaf."
pub record Met (net : Net) (leaves : List ℕ) (t u : ℕ) : Type 0 where
  pub reader : ℕ
  pub walked : Walked net leaves t reader
  pub feeds : Memᴰ u (net.fanins reader)

-- v lies behind t: the walk from t with no leaves meets it.
abbrev pub Behind : Net → ℕ → ℕ → Type 0
Behind net t v = Met net [] t v

-- "some gate reaches itself along fanins"
abbrev pub Loop : Net → ℕ → Type 0
Loop net g = Behind net g g

-- "the lowest such gate"
pub record LowestLoop (net : Net) (g : ℕ) : Type 0 where
  pub gate : Gate net g
  pub loop : Loop net g
  pub lowest : (h : ℕ) → h < g → Gate net h → Loop net h → ⊥

abbrev pub NoLoop : Net → Type 0
NoLoop net = (g : ℕ) → Gate net g → Loop net g → ⊥

-- "The leaves are a cut of t if the walk meets no input that is not a leaf, meets every leaf, and there are 1 to K leaves."
-- A set of leaves is written as its rising list. Only on nets without loops is this the paper's cut: on a loop a gate could be its own leaf.
pub record Cut (net : Net) (k t : ℕ) (leaves : List ℕ) : Type 0 where
  pub stops : (v : ℕ) → Met net leaves t v → Input net v → Memᴰ v leaves
  pub met : (v : ℕ) → Memᴰ v leaves → Met net leaves t v
  pub rising : Rising leaves
  pub some : 1 ≤ length leaves
  pub few : length leaves ≤ k

-- "The gates walked, t included, are the cone."
pub record Cone (net : Net) (leaves : List ℕ) (t v : ℕ) : Type 0 where
  pub walked : Walked net leaves t v
  pub gate : Gate net v
