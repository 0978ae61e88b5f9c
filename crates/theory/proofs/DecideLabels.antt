-- A test for the lines of a net: inputs have 0, and each gate has a cut, evidence and a label that fit one another. It is true exactly where
-- they are right.
use Prim.Native.Nat.{ℕ, suc, ◌<◌}
use mathlib.Core.Bool.{Bool, not, ◌&&◌, ◌||◌}
use mathlib.Core.List.{List, map}
use lib.Dec.{leb, eqb}
use Rattle.theory.specs.paper.Net.{Net}
use Rattle.theory.specs.paper.Sound.{Bounded}
use Rattle.theory.specs.paper.Lists.{greatest}
use Rattle.theory.specs.paper.Evidence.{peak}
use Rattle.theory.specs.Lines.{Line, Lines}
use Rattle.theory.proofs.Tests.{Decides, decides_as, ◌and_then◌, decides_or, decides_if, decides_le, decides_equal, decides_below, every_below}
use Rattle.theory.proofs.DecideNet.{is_gate, decides_gate}
use Rattle.theory.proofs.DecideCut.{is_cut, decides_cut}
use Rattle.theory.proofs.DecideEvidence.{is_evidence, decides_evidence}

unfoldable pub is_line : Net → ℕ → (ℕ → ℕ) → ℕ → List ℕ → List (List ℕ) → Bool
unfolding is_cut is_evidence peak greatest
is_line net k lab t leaves paths = is_cut net k t leaves && eqb (lab t) (suc (greatest (map lab leaves))) &&
    (eqb (lab t) (peak net lab t) || eqb (lab t) (suc (peak net lab t))) &&
    (not (eqb (lab t) (suc (peak net lab t))) || (not (leb 1 (peak net lab t)) || is_evidence net k lab t paths))

unfoldable pub are_labels : Net → ℕ → (ℕ → ℕ) → (ℕ → List ℕ) → (ℕ → List (List ℕ)) → Bool
unfolding every_below is_gate is_line
are_labels net k lab leaves paths = every_below net.inputs (λ v. eqb (lab v) 0) &&
    every_below net.nodes (λ t. not (is_gate net t) || is_line net k lab t (leaves t) (paths t))

module _ {net : Net} {b : ℕ} (bounded : Bounded net b) (k : ℕ) (lab : ℕ → ℕ) where
  pub decides_line : {t : ℕ} → t < net.nodes → (leaves : List ℕ) (paths : List (List ℕ)) →
      Decides (is_line net k lab t leaves paths) (Line net k lab t leaves paths)
  unfolding is_line
  decides_line {t} node leaves paths = decides_as
      (λ h. record { cut = h.0.0.0; depth = h.0.0.1; near = h.0.1; shown = h.1 })
      (λ l. (((l.cut, l.depth), l.near), l.shown))
      (decides_cut bounded node k leaves
      and_then (λ _. decides_equal (lab t) (suc (greatest (map lab leaves))))
      and_then (λ _. decides_or (decides_equal (lab t) (peak net lab t)) (decides_equal (lab t) (suc (peak net lab t))))
      and_then (λ _. decides_if (decides_equal (lab t) (suc (peak net lab t)))
      (λ _. decides_if (decides_le 1 (peak net lab t)) (λ _. decides_evidence bounded lab node k paths))))

  pub decides_labels : (leaves : ℕ → List ℕ) (paths : ℕ → List (List ℕ)) → Decides (are_labels net k lab leaves paths) (Lines net k lab leaves paths)
  unfolding are_labels
  decides_labels leaves paths = decides_as
      (λ h. record { inputs = h.0; gates = λ t gate. h.1 t gate.below gate })
      (λ l. (l.inputs, λ t _ gate. l.gates t gate))
      (decides_below net.inputs _ (λ v _. decides_equal (lab v) 0)
      and_then (λ _. decides_below net.nodes _ (λ t node. decides_if (decides_gate net t) (λ _. decides_line node (leaves t) (paths t)))))
