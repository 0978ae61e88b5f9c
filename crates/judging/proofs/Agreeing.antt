-- What rules 26 and 27 say of a gate rests on the labels behind it and on its own: labels that agree there give one answer.
use Prim.Native.Nat.{ℕ, suc}
use mathlib.Core.Path.{◌≡◌, sym, ap, ◌∙◌}
use mathlib.Core.Logic.{inl, inr, ⊎_elim}
use mathlib.Core.List.{List, map, Memᴰ}
use Rattle.theory.specs.paper.Net.{Net}
use Rattle.theory.specs.paper.Lists.{greatest}
use Rattle.theory.specs.paper.Walk.{Behind}
use Rattle.theory.specs.paper.Evidence.{peak}
use Rattle.theory.proofs.Picks.{map_agree}
use Rattle.theory.proofs.Rules.{peak_agrees, evidence_agrees, owes_agrees}
use Rattle.sheet.specs.paper.Rules.{LabelKept, PathsKept}
use Rattle.judging.specs.Gates.{LabelRight}

pub paths_agree : {net : Net} {lab mab : ℕ → ℕ} {t k : ℕ} {paths : List (List ℕ)} → ((v : ℕ) → Behind net t v → lab v ≡ mab v) → lab t ≡ mab t →
    PathsKept net k lab t paths → PathsKept net k mab t paths
paths_agree agree own kept =
    record {
      due = λ owes. evidence_agrees agree (kept.due (owes_agrees (λ v b. sym (agree v b)) (sym own) owes));
      not_due = λ none. kept.not_due (λ owes. none (owes_agrees agree own owes));
    }

-- rule 26, by p
module _ {net : Net} {lab mab : ℕ → ℕ} {t p : ℕ} {leaves : List ℕ} (agree : (v : ℕ) → Behind net t v → lab v ≡ mab v) (own : lab t ≡ mab t)
    (leaves-agree : (v : ℕ) → Memᴰ v leaves → lab v ≡ mab v) (peak_known : p ≡ peak net lab t) where
  shown_agrees : greatest (map lab leaves) ≡ greatest (map mab leaves)
  shown_agrees = ap greatest (map_agree lab mab leaves leaves-agree)

  peak_here : p ≡ peak net mab t
  peak_here = peak_known ∙ peak_agrees agree

  pub label_kept : LabelRight lab leaves p t → LabelKept net mab leaves t
  label_kept right =
      record {
        shown = sym own ∙ right.shown ∙ ap suc shown_agrees;
        near = ⊎_elim (λ (e : lab t ≡ p). inl (sym own ∙ e ∙ peak_here)) (λ (e : lab t ≡ suc p). inr (sym own ∙ e ∙ ap suc peak_here)) right.near;
      }

  pub label_right : LabelKept net mab leaves t → LabelRight lab leaves p t
  label_right kept =
      record {
        shown = own ∙ kept.shown ∙ ap suc (sym shown_agrees);
        near = ⊎_elim (λ (e : mab t ≡ peak net mab t). inl (own ∙ e ∙ sym peak_here)) (λ (e : mab t ≡ suc (peak net mab t)). inr (own ∙ e ∙ ap suc (sym peak_here))) kept.near;
      }
