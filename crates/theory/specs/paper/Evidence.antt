-- p and D, evidence that a label is p + 1, and the mapper's cut. All go by numbers `lab` given to the nodes: the mapper's labels, or those
-- that a sheet claims.
use Rattle.std.specs.Prelude.{ℕ, suc, ◌≤◌, ◌≡◌, ◌⊎◌, length}
use mathlib.Core.List.{List, [], ◌∷◌, ◌++◌, map, Memᴰ}
use Rattle.theory.specs.paper.Net.{Net, Gate, Input}
use Rattle.theory.specs.paper.Lists.{Rising, NoRepeats, greatest}
use Rattle.theory.specs.paper.Walk.{Behind, Cut, Cone}

-- "p the greatest label among t's fanins"
unfoldable pub peak : Net → (ℕ → ℕ) → ℕ → ℕ
peak net lab t = greatest (map lab (net.fanins t))

-- "let D be t and the gates behind t with label p" (inputs are never in it)
pub data InD (net : Net) (lab : ℕ → ℕ) (t : ℕ) : ℕ → Type 0 where
  self : InD net lab t t
  behind : {v : ℕ} → Gate net v → Behind net t v → lab v ≡ peak net lab t → InD net lab t v

-- "all leaves outside D"
abbrev pub Outside : Net → (ℕ → ℕ) → ℕ → List ℕ → Type 0
Outside net lab t leaves = (v : ℕ) → Memᴰ v leaves → InD net lab t v → ⊥

-- A path that goes from fanin to gate, and "its last node is a fanin of a member of D".
pub data Run (net : Net) (lab : ℕ → ℕ) (t : ℕ) : List ℕ → Type 0 where
  last : {v d : ℕ} → InD net lab t d → Memᴰ v (net.fanins d) → Run net lab t (v ∷ [])
  more : {u v : ℕ} {vs : List ℕ} → Memᴰ u (net.fanins v) → Run net lab t (v ∷ vs) → Run net lab t (u ∷ v ∷ vs)

-- "Each starts at an input, goes from fanin to gate, stays behind t and outside D, and its last node is a fanin of a member of D."
pub record TruePath (net : Net) (lab : ℕ → ℕ) (t : ℕ) (path : List ℕ) : Type 0 where
  pub first : ℕ
  pub rest : List ℕ
  pub whole : path ≡ first ∷ rest
  pub starts : Input net first
  pub runs : Run net lab t path
  pub behind : (v : ℕ) → Memᴰ v path → Behind net t v
  pub outside : Outside net lab t path

-- the nodes of all the paths, one path after the other
unfoldable pub joined : List (List ℕ) → List ℕ
joined [] = []
joined (path ∷ paths) = path ++ joined paths

-- "K + 1 paths. .. No node is on two paths or twice on one." That p is at least 1 is no part of it: who asks for evidence says when it is due.
pub record Evidence (net : Net) (k : ℕ) (lab : ℕ → ℕ) (t : ℕ) (paths : List (List ℕ)) : Type 0 where
  pub count : length paths ≡ suc k
  pub each : (path : List ℕ) → Memᴰ path paths → TruePath net lab t path
  pub apart : NoRepeats (joined paths)

-- "Evidence that a label is p + 1, for p at least 1": the gate owes evidence.
pub record Owes (net : Net) (lab : ℕ → ℕ) (t : ℕ) : Type 0 where
  pub above : lab t ≡ suc (peak net lab t)
  pub some : 1 ≤ peak net lab t

-- "of the cuts outside D with fewest leaves, the one whose cone contains the cones of all the others"
pub record LeastCut (net : Net) (k : ℕ) (lab : ℕ → ℕ) (t : ℕ) (leaves : List ℕ) : Type 0 where
  pub cut : Cut net k t leaves
  pub outside : Outside net lab t leaves
  pub fewest : (other : List ℕ) → Cut net k t other → Outside net lab t other → length leaves ≤ length other
  pub largest : (other : List ℕ) → Cut net k t other → Outside net lab t other → length other ≡ length leaves →
      (v : ℕ) → Cone net other t v → Cone net leaves t v

-- "the distinct fanins of t"
pub record DistinctFanins (net : Net) (t : ℕ) (leaves : List ℕ) : Type 0 where
  pub rising : Rising leaves
  pub fanin : (v : ℕ) → Memᴰ v leaves → Memᴰ v (net.fanins t)
  pub leaf : (v : ℕ) → Memᴰ v (net.fanins t) → Memᴰ v leaves

-- "The mapper's cut: if the label is p, of the cuts outside D with fewest leaves, the one whose cone contains the cones of all the others
-- (there is always one). If it is p + 1, the distinct fanins of t."
pub data MappersCut (net : Net) (k : ℕ) (lab : ℕ → ℕ) (t : ℕ) (leaves : List ℕ) : Type 0 where
  at_peak : lab t ≡ peak net lab t → LeastCut net k lab t leaves → MappersCut net k lab t leaves
  above_peak : lab t ≡ suc (peak net lab t) → DistinctFanins net t leaves → MappersCut net k lab t leaves

-- "the label is p or p + 1"
abbrev pub Peaked : Net → (ℕ → ℕ) → ℕ → ℕ → Type 0
Peaked net lab t m = (m ≡ peak net lab t) ⊎ (m ≡ suc (peak net lab t))
