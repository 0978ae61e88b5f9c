-- The rules bound a sheet's length: one that keeps them all, with a line for each gate and no more LUTs than gates, has a cut for each gate and
-- each LUT, and true evidence or no paths.
use Prim.Native.Nat.{ℕ, zero, suc, ◌+◌, ◌≤◌, ◌<◌}
use native.Mathlib.Omega.{arith}
use native.Mathlib.Decide.{ℕ_discrete, dec_le}
use mathlib.Core.Path.{◌≡◌, refl, sym, subst}
use mathlib.Core.List.{List, [], ◌∷◌, Memᴰ}
use lib.ListN.{length, get_or}
use Rattle.theory.specs.paper.Net.{Net, Gate}
use Rattle.theory.specs.paper.Walk.{Cut}
use Rattle.theory.specs.paper.Evidence.{peak, Owes}
use Rattle.sheet.specs.paper.Sheet.{Line, Lut, Sheet}
use Rattle.sheet.specs.paper.Rules.{Rule, Keeps, PathsKept, line_of_node, labels_of}
use Rattle.sheet.specs.Longest.{Backed, Kept, no_lut}
use Rattle.keeping.specs.paper.Right.{KeepsRules}
use Rattle.keeping.proofs.Listed.{label_at_input, line_at}
use Rattle.keeping.proofs.Kept.{gate_rule, lut_rule}

-- a LUT by its place in the list
pub lut_member : (luts : List Lut) (i : ℕ) → i < length luts → Memᴰ (get_or luts i no_lut) luts
lut_member [] i inside = absurd (omega arith)
lut_member (lut ∷ luts) zero inside = Memᴰ.head refl
lut_member (lut ∷ luts) (suc i) inside = Memᴰ.tail (lut_member luts i (omega arith))

-- rule 27 leaves paths only where evidence is due
backed : {net : Net} {k : ℕ} {lab : ℕ → ℕ} {t : ℕ} {paths : List (List ℕ)} → PathsKept net k lab t paths → Backed net k lab t paths
backed {net} {k} {lab} {t} {paths} kept = by (ℕ_discrete (lab t) (suc (peak net lab t))) (dec_le 1 (peak net lab t))
  where
    none : paths ≡ [] → Backed net k lab t paths
    none e = subst (Backed net k lab t) (sym e) Backed.bare

    by : Dec (lab t ≡ suc (peak net lab t)) → Dec (1 ≤ peak net lab t) → Backed net k lab t paths
    by (yes above) (yes some) = Backed.proven some (kept.due (record { above = above; some = some }))
    by (no other) _ = none (kept.not_due (λ (owes : Owes net lab t). other owes.above))
    by (yes above) (no less) = none (kept.not_due (λ (owes : Owes net lab t). less owes.some))

module _ (net : Net) (tables : ℕ → ℕ) (k : ℕ) (outputs : List ℕ) (sheet : Sheet) (gates : net.inputs + length sheet.lines ≡ net.nodes)
    (few : length sheet.luts ≤ length sheet.lines) (kept : KeepsRules net tables k outputs sheet) where
  lab : ℕ → ℕ
  lab = labels_of net.inputs sheet.lines

  gate_at_lem : (i : ℕ) → i < length sheet.lines → Gate net (net.inputs + i)
  gate_at_lem i inside = record { above = omega arith; below = omega (arith, gates) }

  gate_cut : {t : ℕ} → Gate net t → Cut net k t (line_of_node net.inputs sheet.lines t).leaves
  unfolding Keeps
  gate_cut {t} gate = kept (Rule.cut t _) (gate_rule net sheet gate (Memᴰ.head refl))

  gate_paths : {t : ℕ} → Gate net t → PathsKept net k lab t (line_of_node net.inputs sheet.lines t).paths
  unfolding Keeps lab
  gate_paths {t} gate = kept (Rule.paths t) (gate_rule net sheet gate (Memᴰ.tail (Memᴰ.tail (Memᴰ.head refl))))

  lut_cut_lem : (lut : Lut) → Memᴰ lut sheet.luts → Cut net k lut.root lut.leaves
  unfolding Keeps
  lut_cut_lem lut member = kept (Rule.cut lut.root lut.leaves) (lut_rule net sheet member (Memᴰ.head refl))

  pub rules_bound : Kept net k (labels_of net.inputs sheet.lines) sheet
  unfolding lab
  rules_bound =
      record {
        inputs = λ v input. label_at_input net.inputs sheet.lines v input;
        gates = gates;
        cuts = λ i inside.
            subst (λ (l : Line). Cut net k (net.inputs + i) l.leaves) (line_at net.inputs sheet.lines i) (gate_cut (gate_at_lem i inside));
        backed = λ i inside.
            subst (λ (l : Line). Backed net k lab (net.inputs + i) l.paths) (line_at net.inputs sheet.lines i) (backed (gate_paths (gate_at_lem i inside)));
        few = few;
        lut_cuts = λ i inside. lut_cut_lem (get_or sheet.luts i no_lut) (lut_member sheet.luts i inside);
      }
