-- A cover's LUTs, with their cones' tables, compute what the gates compute. A valuation that obeys the gates obeys the LUTs, since it obeys
-- each cone; and the LUTs have one valuation for each setting of the inputs, since a leaf is an input or a root of lower rank. `tables` are
-- the gates', `lut-tables` the LUTs'.
use Prim.Native.Nat.{ℕ, ◌<◌}
use mathlib.Core.Path.{◌≡◌}
use mathlib.Core.Logic.{◌⊎◌, inl, inr, ⊎_elim}
use mathlib.Core.Bool.{Bool, true}
use mathlib.Mathlib.Data.Bool.Basic.{eq-false_of_not-eq-true}
use mathlib.Core.List.{List, Memᴰ}
use Rattle.theory.specs.paper.Net.{Net, Input}
use Rattle.theory.specs.paper.Values.{Obeys}
use Rattle.theory.specs.paper.Cover.{Luts, Wanted, Cover}
use Rattle.theory.specs.paper.Lookup.{ObeysLuts}
use Rattle.theory.specs.Lines.{TablesFit}
use Rattle.theory.specs.paper.Sound.{Ranked}
use Rattle.theory.proofs.Walks.{NodesFeed, met_rank, gate_no_input}
use Rattle.theory.proofs.Depths.{wanted_placed, leaf_placed}
use Rattle.theory.proofs.Valuations.{follows_agree, settle, settle_sets, settle_follows}

pub gates_obey_luts : (net : Net) (tables : ℕ → ℕ) (luts : Luts) (lut-tables : ℕ → ℕ) → TablesFit net tables luts lut-tables →
    (x : ℕ → Bool) → Obeys net tables x → ObeysLuts luts lut-tables x
gates_obey_luts net tables luts lut-tables fit x obeys r root = (fit r root).value x (λ g cone. obeys g cone.gate)

-- The LUTs have one valuation

-- the value of each node in the network of LUTs, for a setting of the inputs
pub lut_value : {net : Net} → Ranked net → Luts → (ℕ → ℕ) → (ℕ → Bool) → ℕ → Bool
lut_value ranked luts lut-tables = settle luts.leaves lut-tables ranked.rank luts.root

module _ (net : Net) (ranked : Ranked net) (k : ℕ) (outputs : List ℕ) (luts : Luts) (cover : Cover net k outputs luts) (lut-tables : ℕ → ℕ) where
  leaves_rank : (r : ℕ) → luts.root r ≡ true → (u : ℕ) → Memᴰ u (luts.leaves r) → ranked.rank u < ranked.rank r
  leaves_rank r root u m = met_rank ranked ((cover.cuts r root).met u m)

  pub lut_value_obeys : (setting : ℕ → Bool) → ObeysLuts luts lut-tables (lut_value ranked luts lut-tables setting)
  unfolding lut_value
  lut_value_obeys setting = settle_follows _ _ _ _ _ leaves_rank

  pub lut_value_inputs : (setting : ℕ → Bool) (v : ℕ) → Input net v → lut_value ranked luts lut-tables setting v ≡ setting v
  unfolding lut_value
  lut_value_inputs setting v i = settle_sets _ _ _ _ _ v (eq-false_of_not-eq-true (λ root. gate_no_input (cover.gates v root) i))

  module _ (feed : NodesFeed net) (x y : ℕ → Bool) (same : (v : ℕ) → Input net v → x v ≡ y v) where
    pub luts_agree : ObeysLuts luts lut-tables x → ObeysLuts luts lut-tables y → (r : ℕ) → luts.root r ≡ true → x r ≡ y r
    luts_agree = follows_agree luts.leaves lut-tables ranked.rank (λ r. luts.root r ≡ true) leaves_rank x y closed
      where
        closed : (r : ℕ) → luts.root r ≡ true → (u : ℕ) → Memᴰ u (luts.leaves r) → (luts.root u ≡ true) ⊎ (x u ≡ y u)
        closed r root u m = ⊎_elim (λ i. inr (same u i)) inl (leaf_placed feed cover root m)

    -- LUTs with their cones' tables compute what the gates compute: at the roots, and at the outputs.
    module _ (tables : ℕ → ℕ) (fit : TablesFit net tables luts lut-tables) (ox : Obeys net tables x) (oy : ObeysLuts luts lut-tables y) where
      pub luts_compute : (r : ℕ) → luts.root r ≡ true → x r ≡ y r
      luts_compute = luts_agree (gates_obey_luts net tables luts lut-tables fit x ox) oy

      pub luts_compute_outputs : (v : ℕ) → v < net.nodes → Memᴰ v outputs → x v ≡ y v
      luts_compute_outputs v node m = ⊎_elim (same v) (luts_compute v) (wanted_placed cover node (Wanted.output m))
