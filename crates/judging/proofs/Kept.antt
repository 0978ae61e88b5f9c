-- Each of the three rules at a gate: what the functions that a test calls ask is there, and what they say is what the rule says.
use Prim.Native.Nat.{ℕ, zero, suc, ◌+◌, ◌≤◌, ◌<◌}
use native.Mathlib.Omega.{arith}
use mathlib.Core.Path.{◌≡◌, refl, sym, ap, ◌∙◌}
use mathlib.Core.Bool.{Bool, false, false≢true}
use mathlib.Core.List.{List, []}
use lib.ListN.{length}
use lib.Dec.{eqb}
use Rattle.storage.specs.Marks.{Tells}
use Rattle.storage.specs.Roles.{area_bit, area_in, ends_in}
use Rattle.storage.specs.Drawings.{net_in}
use Rattle.storage.proofs.Clears.{beyond_then}
use Rattle.storage.proofs.Views.{view_size}
use Rattle.storage.proofs.Drawings.{gate_below, fed_in}
use Rattle.storage.proofs.InMarks.{tells_no}
use Rattle.theory.specs.paper.Net.{Net}
use Rattle.theory.specs.paper.Evidence.{peak, Owes, joined}
use Rattle.theory.proofs.Tests.{Decides, decides_as, decides_equal}
use Rattle.drawing.specs.paper.Bytes.{number_at}
use Rattle.walking.specs.Promises.{WalkRoom, WalkMade}
use Rattle.area.specs.Area.{label_in, AreaAsked, AreaMarked}
use Rattle.sheet.specs.declared.Form.{Form}
use Rattle.sheet.specs.paper.Shape.{path_end, paths_at}
use Rattle.sheet.specs.paper.Rules.{PathsKept}
use Rattle.judging.specs.Paths.{are_paths, PathsAsked, PathsTold}
use Rattle.judging.specs.Gates.{AtGate, EvidenceAsked, TruePaths, Told, PathsRuleAsked, paths_place}
use Rattle.judging.proofs.True.{decides_evidence}
use Rattle.judging.proofs.Lines.{paths_stand}

-- a reply that is a test tells what the test decides
pub tells_decided : {test r : Bool} {P : Type 0} → Decides test P → r ≡ test → Tells P r
tells_decided decides e =
    record { yes = λ yes. decides.holds (sym e ∙ yes); no = λ no p. false≢true (sym no ∙ e ∙ decides.passes p) }

-- Rule 27: the paths

module _ {inputs nodes k : ℕ} {fanins order : List ℕ} {t : ℕ} {labels : List ℕ} {p : ℕ} {bytes : List ℕ} {at width q : ℕ} {roles : List ℕ}
    (asked : EvidenceAsked inputs nodes k fanins order t labels p bytes at width q roles) where
  abbrev here : AtGate inputs nodes k fanins order t labels p roles
  here = asked.at_gate

  pub walk_asked : WalkRoom inputs nodes k fanins order t roles
  walk_asked =
      record {
        drawing = here.drawing;
        node = gate_below inputs nodes fanins here.gate;
        roles_long = here.roles_long;
      }

  module _ {roles₁ : List ℕ} (walk : WalkMade (net_in inputs nodes fanins) [] t roles roles₁) where
    pub area_asked : AreaAsked inputs nodes fanins t labels p roles₁
    unfolding net_in
    area_asked =
        record {
          k = k;
          drawn = here.drawing.drawn;
          small = here.drawing.small;
          gate_stands = here.gate;
          peak_known = here.peak_known;
          behind_known = walk.met_marks;
          labels_long = here.labels_long;
          roles_long = omega (arith, walk.rest.size, here.roles_long);
        }

    module _ {roles₂ : List ℕ} (marked : AreaMarked (net_in inputs nodes fanins) (label_in labels) t roles₁ roles₂) where
      still_long : nodes ≤ length roles₂
      still_long = omega (arith, marked.rest.size, walk.rest.size, here.roles_long)

      pub paths_asked : PathsAsked fanins bytes at width q roles₂
      paths_asked =
          record {
            nodes = nodes;
            room = record {
              small = here.drawing.small;
              fed = λ v low. fed_in here.drawing.drawn v low nodes (omega arith);
              roles_long = still_long;
            };
            stand = asked.stand;
          }

      pub evidence_told : {r : Bool} {roles₃ : List ℕ} →
          PathsTold (are_paths fanins (ends_in roles₂) inputs (area_in roles₂) (paths_at bytes at width q)) (joined (paths_at bytes at width q)) roles₂ r roles₃ →
          Told nodes (TruePaths (net_in inputs nodes fanins) (label_in labels) t (paths_at bytes at width q)) roles r roles₃
      unfolding net_in
      evidence_told told =
          record {
            reply =
                tells_decided
                (decides_as
                (λ k. record { each = k.0; apart = k.1 })
                (λ true-paths. (true-paths.each, true-paths.apart))
                (decides_evidence inputs nodes fanins (label_in labels) t marked.ends_marked (omega (arith, still_long, view_size area_bit roles₂))
                marked.area_marked (paths_at bytes at width q) asked.stand.below))
                told.reply;
            rest = beyond_then walk.rest (beyond_then marked.rest (told.beyond nodes asked.stand.below));
          }

-- Rule 27: when they are due

length_paths : (s : List ℕ) (at width q : ℕ) → length (paths_at s at width q) ≡ q
unfolding paths_at
length_paths s at width zero = refl
length_paths s at width (suc q) = ap suc (length_paths s (path_end s at width) width q)

no_paths : (s : List ℕ) (at width q : ℕ) → q ≡ 0 → paths_at s at width q ≡ []
unfolding paths_at
no_paths s at width q e = rw e

module _ {net : Net} (k : ℕ) {lab : ℕ → ℕ} {t p : ℕ} (peak_known : p ≡ peak net lab t) (s : List ℕ) (at width q : ℕ) where
  due_owes : (lab t ≡ suc p) × (1 ≤ p) → Owes net lab t
  due_owes due = record { above = due.0 ∙ ap suc peak_known; some = omega (arith, due.1) }

  owes_due : Owes net lab t → (lab t ≡ suc p) × (1 ≤ p)
  owes_due owes = (owes.above ∙ ap suc (sym peak_known), omega (arith, owes.some))

  pub not_due_told : ((lab t ≡ suc p) × (1 ≤ p) → ⊥) → {r : Bool} → r ≡ eqb q 0 → Tells (PathsKept net k lab t (paths_at s at width q)) r
  not_due_told none e =
      tells_decided
      (decides_as
      (λ (same : q ≡ 0). record { due = λ owes. absurd (none (owes_due owes)); not_due = λ _. no_paths s at width q same })
      (λ kept. sym (length_paths s at width q) ∙ ap length (kept.not_due (λ owes. none (owes_due owes))))
      (decides_equal q 0))
      e

  module _ (due : (lab t ≡ suc p) × (1 ≤ p)) where
    pub miscounted : (q ≡ k + 1 → ⊥) → Tells (PathsKept net k lab t (paths_at s at width q)) false
    miscounted other = tells_no (λ kept. let e = kept.due (due_owes due) in other (omega (arith, e.count, length_paths s at width q)))

    pub due_told : q ≡ k + 1 → {r : Bool} → Tells (TruePaths net lab t (paths_at s at width q)) r →
        Tells (PathsKept net k lab t (paths_at s at width q)) r
    due_told counted told =
        record {
          yes = λ e.
              let paths = told.yes e in
              record {
                due = λ _. record { count = omega (arith, length_paths s at width q); each = paths.each; apart = paths.apart };
                not_due = λ none. absurd (none (due_owes due));
              };
          no = λ e kept. let evidence = kept.due (due_owes due) in told.no e (record { each = evidence.each; apart = evidence.apart });
        }

pub evidence_asked : {form : Form} {inputs nodes k : ℕ} {fanins order : List ℕ} {t : ℕ} {labels : List ℕ} {p : ℕ} {bytes : List ℕ} {at : ℕ} {roles : List ℕ} →
    PathsRuleAsked form inputs nodes k fanins order t labels p bytes at roles →
    EvidenceAsked inputs nodes k fanins order t labels p bytes (paths_place form bytes at + 1) form.width (number_at bytes (paths_place form bytes at) 1) roles
evidence_asked asked = record { at_gate = asked.at_gate; stand = paths_stand asked.line }

pub label_inside : {inputs nodes k : ℕ} {fanins order : List ℕ} {t : ℕ} {labels : List ℕ} {p : ℕ} {roles : List ℕ} →
    AtGate inputs nodes k fanins order t labels p roles → t < length labels
label_inside {inputs} {nodes} {fanins = fanins} at_gate = omega (arith, gate_below inputs nodes fanins at_gate.gate, at_gate.labels_long)

-- the q that is read
pub q_read : (s : List ℕ) {place found q : ℕ} → found ≡ place → q ≡ number_at s found 1 → q ≡ number_at s place 1
q_read s e read = read ∙ ap (λ (n : ℕ). number_at s n 1) e
