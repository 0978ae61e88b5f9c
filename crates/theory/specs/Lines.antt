-- Lines of a sheet, as far as labels rest on them.
use Rattle.std.specs.Prelude.{ℕ, suc, ◌≤◌, ◌≡◌, true}
use mathlib.Core.List.{List, map, Memᴰ}
use Rattle.theory.specs.paper.Net.{Net, Gate, Input}
use Rattle.theory.specs.paper.Lists.{greatest}
use Rattle.theory.specs.paper.Walk.{Behind, Cut}
use Rattle.theory.specs.paper.Evidence.{peak, Evidence, Peaked}
use Rattle.theory.specs.paper.Cover.{Luts}
use Rattle.theory.specs.paper.Lookup.{ConeTable}

-- Behind t the numbers never fall along fanins.
abbrev pub NeverFalls : Net → (ℕ → ℕ) → ℕ → Type 0
NeverFalls net lab t = (g u : ℕ) → Behind net t g → Memᴰ u (net.fanins g) → lab u ≤ lab g

-- The line of gate t in a sheet, its label, leaves and paths, passes rules 25, 26 and 27; but that paths are not "given when not due" is no
-- part of it, since no label rests on that.
pub record Line (net : Net) (k : ℕ) (lab : ℕ → ℕ) (t : ℕ) (leaves : List ℕ) (paths : List (List ℕ)) : Type 0 where
  pub cut : Cut net k t leaves
  pub depth : lab t ≡ suc (greatest (map lab leaves))
  pub near : Peaked net lab t (lab t)
  pub shown : lab t ≡ suc (peak net lab t) → 1 ≤ peak net lab t → Evidence net k lab t paths

-- "Inputs have label 0."
abbrev pub ZeroAtInputs : Net → (ℕ → ℕ) → Type 0
ZeroAtInputs net lab = (v : ℕ) → Input net v → lab v ≡ 0

pub record Lines (net : Net) (k : ℕ) (lab : ℕ → ℕ) (leaves : ℕ → List ℕ) (paths : ℕ → List (List ℕ)) : Type 0 where
  pub inputs : ZeroAtInputs net lab
  pub gates : (t : ℕ) → Gate net t → Line net k lab t (leaves t) (paths t)

-- each root's table is its cone's function
abbrev pub TablesFit : Net → (tables : ℕ → ℕ) → Luts → (lut-tables : ℕ → ℕ) → Type 0
TablesFit net tables luts lut-tables = (r : ℕ) → luts.root r ≡ true → ConeTable net tables (luts.leaves r) r (lut-tables r)
