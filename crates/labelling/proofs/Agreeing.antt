-- What is said of a gate's cut rests on the labels behind the gate, and on its own: later labels change nothing.
use Prim.Native.Nat.{ℕ, suc}
use native.Mathlib.Omega.{arith}
use mathlib.Core.Path.{◌≡◌, sym, ap, ◌∙◌}
use mathlib.Core.List.{List}
use Rattle.theory.specs.paper.Net.{Net}
use Rattle.theory.specs.paper.Walk.{Behind}
use Rattle.theory.specs.paper.Evidence.{Outside, LeastCut, MappersCut}
use Rattle.theory.specs.Lines.{NeverFalls}
use Rattle.theory.proofs.Walks.{Tight, behind_walked}
use Rattle.theory.proofs.Rules.{peak_agrees, d_agrees}

-- two labellings agree behind t
abbrev pub Agree : Net → ℕ → (ℕ → ℕ) → (ℕ → ℕ) → Type 0
Agree net t lab mab = (v : ℕ) → Behind net t v → lab v ≡ mab v

module _ {net : Net} {t : ℕ} {lab mab : ℕ → ℕ} (agree : Agree net t lab mab) where
  pub agree_back : Agree net t mab lab
  agree_back v b = sym (agree v b)

  pub outside_agrees : {leaves : List ℕ} → Outside net lab t leaves → Outside net mab t leaves
  outside_agrees outside v leaf member = outside v leaf (d_agrees agree_back member)

module _ {net : Net} {k t : ℕ} {lab mab : ℕ → ℕ} (agree : Agree net t lab mab) where
  pub least_cut_agrees : {leaves : List ℕ} → LeastCut net k lab t leaves → LeastCut net k mab t leaves
  least_cut_agrees least =
      record {
        cut = least.cut;
        outside = outside_agrees agree least.outside;
        fewest = λ other cut outside. least.fewest other cut (outside_agrees (agree_back agree) outside);
        largest = λ other cut outside. least.largest other cut (outside_agrees (agree_back agree) outside);
      }

  pub mappers_cut_agrees : {leaves : List ℕ} → lab t ≡ mab t → MappersCut net k lab t leaves → MappersCut net k mab t leaves
  mappers_cut_agrees e (MappersCut.at_peak at least) = MappersCut.at_peak (sym e ∙ at ∙ peak_agrees agree) (least_cut_agrees least)
  mappers_cut_agrees e (MappersCut.above_peak above fanins) = MappersCut.above_peak (sym e ∙ above ∙ ap suc (peak_agrees agree)) fanins

  pub tight_agrees : Tight net k lab t → Tight net k mab t
  tight_agrees tight leaves s outside = tight leaves s (outside_agrees (agree_back agree) outside)

pub never_falls_agrees : {net : Net} {t : ℕ} {lab mab : ℕ → ℕ} → Agree net t lab mab → NeverFalls net lab t → NeverFalls net mab t
never_falls_agrees agree never_falls g u b m =
    omega (arith, agree g b, agree u (record { reader = g; walked = behind_walked b; feeds = m }), never_falls g u b m)
