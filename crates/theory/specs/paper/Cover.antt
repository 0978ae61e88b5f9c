-- Covers, their depth, and labels.
use Rattle.std.specs.Prelude.{ℕ, suc, max, ◌≤◌, ◌≡◌, Bool, true}
use mathlib.Core.List.{List, [], ◌∷◌, Memᴰ}
use Rattle.theory.specs.paper.Net.{Net, Gate, Input}
use Rattle.theory.specs.paper.Walk.{Cut}

-- A set of LUTs, no two of one root: which nodes are roots, and the leaves of each.
pub record Luts : Type 0 where
  pub root : ℕ → Bool
  pub leaves : ℕ → List ℕ

-- "an output or a leaf of one of them"
pub data Wanted (outputs : List ℕ) (luts : Luts) (v : ℕ) : Type 0 where
  output : Memᴰ v outputs → Wanted outputs luts v
  leaf : (r : ℕ) → luts.root r ≡ true → Memᴰ v (luts.leaves r) → Wanted outputs luts v

-- "A cover is a set of LUTs, each a root gate with a cut, no two of one root, such that every gate that is an output or a leaf of one of
-- them is a root, and every root is one of these."
pub record Cover (net : Net) (k : ℕ) (outputs : List ℕ) (luts : Luts) : Type 0 where
  pub gates : (r : ℕ) → luts.root r ≡ true → Gate net r
  pub cuts : (r : ℕ) → luts.root r ≡ true → Cut net k r (luts.leaves r)
  pub closed : (v : ℕ) → Gate net v → Wanted outputs luts v → luts.root v ≡ true
  pub needed : (r : ℕ) → luts.root r ≡ true → Wanted outputs luts r

-- "Depth: 0 at an input, 1 + the greatest leaf depth at a root; the cover's depth is the greatest over outputs": `Depth` is at a node,
-- `Depths` the greatest over a list of nodes.
mutual
  pub data Depth (net : Net) (luts : Luts) : ℕ → ℕ → Type 0 where
    input : {v : ℕ} → Input net v → Depth net luts v 0
    root : {v d : ℕ} → luts.root v ≡ true → Depths net luts (luts.leaves v) d → Depth net luts v (suc d)

  pub data Depths (net : Net) (luts : Luts) : List ℕ → ℕ → Type 0 where
    none : Depths net luts [] 0
    more : {v d : ℕ} {vs : List ℕ} {e : ℕ} → Depth net luts v d → Depths net luts vs e → Depths net luts (v ∷ vs) (max d e)

-- a cover, of the same table with t added as an output, in which t has depth d
pub record Reaches (net : Net) (k : ℕ) (outputs : List ℕ) (t d : ℕ) : Type 0 where
  pub luts : Luts
  pub cover : Cover net k (t ∷ outputs) luts
  pub depth : Depth net luts t d

-- "The label of a gate is its least depth over all covers in which it is a root, of the same table with that gate added as an output.
-- Inputs have label 0."
pub data Label (net : Net) (k : ℕ) (outputs : List ℕ) : ℕ → ℕ → Type 0 where
  input : {v : ℕ} → Input net v → Label net k outputs v 0
  gate : {t e : ℕ} → Gate net t → Reaches net k outputs t e → ((d : ℕ) → Reaches net k outputs t d → e ≤ d) → Label net k outputs t e
