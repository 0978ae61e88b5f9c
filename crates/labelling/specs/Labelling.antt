-- Labelling along the order: what is found at a gate, and what stands after the first gates.
use Rattle.std.specs.Prelude.{ℕ, suc, ◌≤◌, ◌<◌, ◌≡◌, List, get_or}
use Rattle.theory.specs.paper.Net.{Net, Input}
use Rattle.theory.specs.paper.Evidence.{peak, Evidence, LeastCut, DistinctFanins, MappersCut}
use Rattle.labelling.specs.Evidence.{TrueLabel}

-- What is found at gate t, where `lab` has the labels behind t: "If p is 0 it is 1. Otherwise .. the label is p exactly when a cut of t exists
-- with all leaves outside D", and evidence says that there is none.
pub data Told (net : Net) (k : ℕ) (lab : ℕ → ℕ) (t label : ℕ) (leaves : List ℕ) : Type 0 where
  over_inputs : peak net lab t ≡ 0 → label ≡ 1 → DistinctFanins net t leaves → Told net k lab t label leaves
  cut : 1 ≤ peak net lab t → label ≡ peak net lab t → LeastCut net k lab t leaves → Told net k lab t label leaves
  paths : 1 ≤ peak net lab t → label ≡ suc (peak net lab t) → (paths : List (List ℕ)) × Evidence net k lab t paths →
      DistinctFanins net t leaves → Told net k lab t label leaves

-- After the first i gates of the order, these have their labels and the mapper's cuts; inputs have label 0.
pub record LabelledTo (net : Net) (k : ℕ) (order : List ℕ) (i : ℕ) (lab : ℕ → ℕ) (choice : ℕ → List ℕ) : Type 0 where
  pub inputs : (v : ℕ) → Input net v → lab v ≡ 0
  pub label : (j : ℕ) → j < i → TrueLabel net k (get_or order j 0) (lab (get_or order j 0))
  pub cut : (j : ℕ) → j < i → MappersCut net k lab (get_or order j 0) (choice (get_or order j 0))
