-- A gate of a drawing whose sheet's lines stand in arrays and bytes: what the three tests ask is there, and what they tell in terms of the
-- arrays is what the rules say of the lines.
use Rattle.std.specs.Prelude.{Ok, Err}
use Prim.Native.Nat.{ℕ, ◌+◌, ◌*◌, ◌≤◌, ◌<◌}
use native.Mathlib.Omega.{arith}
use mathlib.Core.Path.{◌≡◌, sym, ap, subst, ◌∙◌}
use mathlib.Core.Bool.{Bool, true, false}
use mathlib.Core.List.{List, [], ◌∷◌, Memᴰ}
use lib.ListN.{length, get_or}
use Rattle.storage.specs.declared.Node.{Node}
use Rattle.storage.specs.Entries.{Beyond}
use Rattle.storage.specs.Marks.{Tells}
use Rattle.storage.specs.Lists.{list_at}
use Rattle.storage.specs.Drawings.{net_in, Fed}
use Rattle.storage.proofs.Clears.{beyond_then}
use Rattle.storage.proofs.Drawings.{gate_below, gate_above, fed_in}
use Rattle.theory.specs.paper.Walk.{Behind, Cut}
use Rattle.theory.specs.paper.Evidence.{peak}
use Rattle.theory.proofs.Walks.{met_node}
use Rattle.walking.specs.Promises.{CutRuled}
use Rattle.area.specs.Area.{label_in, PeakIn}
use Rattle.sheet.specs.paper.Sheet.{Line}
use Rattle.sheet.specs.paper.Rules.{LabelKept, PathsKept, line_of_node, labels_of}
use Rattle.judging.specs.declared.Broken.TheVariants as broken
use Rattle.judging.specs.Gates.{line_paths_in, CutAsked, LabelAsked, LabelRight, PathsRuleAsked, Told, Lined, HoldsSheet, JudgeAsked, GateAsked, GatesTried}
use Rattle.judging.proofs.Lines.{line_sound}
use Rattle.judging.proofs.Agreeing.{label_kept, label_right, paths_agree}
use Rattle.judging.proofs.Firsts.{cut_broken, label_broken, paths_broken, gate_kept}
use Rattle.sheet.specs.Shape.{due_from}

module _ {k inputs nodes : ℕ} {fanins order : List ℕ} {l : Lined} {node : Node} {roles : List ℕ}
    (asked : GateAsked k inputs nodes fanins order l node.id roles) where
  abbrev all : JudgeAsked k inputs nodes fanins order l roles
  all = asked.asked

  here : node.id < nodes
  here = gate_below inputs nodes fanins asked.gate

  above : inputs ≤ node.id
  above = gate_above inputs nodes fanins asked.gate

  cuts_here : 7 * node.id + 7 ≤ length l.cuts
  cuts_here = omega (arith, here, all.holds.in_arrays.cuts_long)

  -- What the tests ask

  pub cut_asked : CutAsked inputs nodes k fanins order node.id l.cuts roles
  cut_asked =
      let six = all.holds.in_arrays.six node.id here in
      record {
        walk = record {
          drawing = all.drawing;
          node = here;
          roles_long = all.roles_long;
        };
        long = cuts_here;
        six = six;
      }

  pub peak_asked : Fed fanins node.id (length l.labels)
  peak_asked = fed_in all.drawing.drawn node.id here (length l.labels) all.holds.in_arrays.labels_long

  pub place_inside : node.id < length l.places
  place_inside = let low = here in omega (arith, all.holds.in_bytes.long)

  -- lines that the arrays and the bytes hold
  module _ {most : ℕ} {lines : List Line} (holds : HoldsSheet k inputs nodes l most lines) where
    cut_same : list_at l.cuts node.id ≡ (line_of_node inputs lines node.id).leaves
    cut_same = holds.in_arrays.cut node.id here

    paths_same : line_paths_in l.form l.bytes (get_or l.places node.id 0) ≡ (line_of_node inputs lines node.id).paths
    paths_same = ap (λ (line : Line). line.paths) (holds.in_bytes.line node.id above here)

    leaf_below : (v : ℕ) → Memᴰ v (list_at l.cuts node.id) → v < nodes
    leaf_below v m =
        let sound = line_sound (due_from l.form most k inputs nodes) l.bytes (get_or l.places node.id 0) (holds.in_bytes.sound node.id above here) in
        let e = cut_same ∙ sym (ap (λ (line : Line). line.leaves) (holds.in_bytes.line node.id above here)) in
        sound.leaves_below v (subst (Memᴰ v) e m)

    labels_agree : (v : ℕ) → v < nodes → label_in l.labels v ≡ labels_of inputs lines v
    labels_agree = holds.in_arrays.label

    behind_agree : (v : ℕ) → Behind (net_in inputs nodes fanins) node.id v → label_in l.labels v ≡ labels_of inputs lines v
    unfolding net_in
    behind_agree v b = labels_agree v (met_node all.drawing.drawn.bounded here b)

  pub label_asked : LabelAsked l.labels l.cuts node.id
  label_asked =
      let held = all.holds.in_arrays in let low = here in
      record {
        labelled = omega (arith, held.labels_long);
        long = cuts_here;
        six = held.six node.id here;
        leaves_labelled = λ v m. omega (arith, leaf_below all.holds v m, held.labels_long);
      }

  module _ {p : ℕ} (peak_known : PeakIn fanins node.id l.labels p) where
    peak_here : p ≡ peak (net_in inputs nodes fanins) (label_in l.labels) node.id
    peak_here = peak_known inputs nodes here

    pub paths_rule_asked : {roles' : List ℕ} → length roles' ≡ length roles →
        PathsRuleAsked l.form inputs nodes k fanins order node.id l.labels p l.bytes (get_or l.places node.id 0) roles'
    paths_rule_asked size =
        record {
          at_gate = record {
            drawing = all.drawing;
            gate = asked.gate;
            labels_long = all.holds.in_arrays.labels_long;
            peak_known = peak_here;
            roles_long = omega (arith, all.roles_long);
          };
          line = record { most = all.most; narrow = all.narrow; sound = all.holds.in_bytes.sound node.id above here };
        }

  -- What they tell

  module _ {roles₁ : List ℕ} {r₁ : Bool}
      (cut : CutRuled (net_in inputs nodes fanins) k (list_at l.cuts node.id) node.id roles r₁ roles₁) where
    walk_rest : Beyond nodes roles roles₁
    unfolding net_in
    walk_rest = cut.walk.rest

    pub tried_cut : r₁ ≡ false → GatesTried k inputs nodes fanins l (node.id ∷ []) roles (Err (broken.Cut node)) roles₁
    unfolding net_in
    tried_cut fails =
        record {
          reply = λ most lines holds. cut_broken (net_in inputs nodes fanins) k lines node (λ kept. cut.reply.no fails (rw (cut_same holds) kept));
          rest = walk_rest;
        }

    module _ (yes₁ : r₁ ≡ true) {p : ℕ} (peak_known : PeakIn fanins node.id l.labels p) {r₂ : Bool}
        (label : Tells (LabelRight (label_in l.labels) (list_at l.cuts node.id) p node.id) r₂) where
      module _ {most : ℕ} {lines : List Line} (holds : HoldsSheet k inputs nodes l most lines) where
        cut_here : Cut (net_in inputs nodes fanins) k node.id (line_of_node inputs lines node.id).leaves
        cut_here = rw (cut_same holds) at (cut.reply.yes yes₁)

        to_label : LabelRight (label_in l.labels) (list_at l.cuts node.id) p node.id →
            LabelKept (net_in inputs nodes fanins) (labels_of inputs lines) (line_of_node inputs lines node.id).leaves node.id
        to_label right =
            subst (λ (leaves : List ℕ). LabelKept (net_in inputs nodes fanins) (labels_of inputs lines) leaves node.id) (cut_same holds)
            (label_kept (behind_agree holds) (labels_agree holds node.id here) (λ v m. labels_agree holds v (leaf_below holds v m)) (peak_here peak_known) right)

        from_label : LabelKept (net_in inputs nodes fanins) (labels_of inputs lines) (line_of_node inputs lines node.id).leaves node.id →
            LabelRight (label_in l.labels) (list_at l.cuts node.id) p node.id
        from_label kept =
            label_right (behind_agree holds) (labels_agree holds node.id here) (λ v m. labels_agree holds v (leaf_below holds v m)) (peak_here peak_known)
            (subst (λ (leaves : List ℕ). LabelKept (net_in inputs nodes fanins) (labels_of inputs lines) leaves node.id) (sym (cut_same holds)) kept)

        to_paths : PathsKept (net_in inputs nodes fanins) k (label_in l.labels) node.id (line_paths_in l.form l.bytes (get_or l.places node.id 0)) →
            PathsKept (net_in inputs nodes fanins) k (labels_of inputs lines) node.id (line_of_node inputs lines node.id).paths
        to_paths kept =
            subst (PathsKept (net_in inputs nodes fanins) k (labels_of inputs lines) node.id) (paths_same holds)
            (paths_agree (behind_agree holds) (labels_agree holds node.id here) kept)

        from_paths : PathsKept (net_in inputs nodes fanins) k (labels_of inputs lines) node.id (line_of_node inputs lines node.id).paths →
            PathsKept (net_in inputs nodes fanins) k (label_in l.labels) node.id (line_paths_in l.form l.bytes (get_or l.places node.id 0))
        from_paths kept =
            paths_agree (λ v b. sym (behind_agree holds v b)) (sym (labels_agree holds node.id here))
            (subst (PathsKept (net_in inputs nodes fanins) k (labels_of inputs lines) node.id) (sym (paths_same holds)) kept)

      pub tried_label : r₂ ≡ false → GatesTried k inputs nodes fanins l (node.id ∷ []) roles (Err (broken.Label node)) roles₁
      unfolding net_in
      tried_label fails =
          record {
            reply = λ most lines holds.
                label_broken (net_in inputs nodes fanins) k lines node (cut_here holds) (λ kept. label.no fails (from_label holds kept));
            rest = walk_rest;
          }

      module _ (yes₂ : r₂ ≡ true) {r₃ : Bool} {roles₂ : List ℕ}
          (paths : Told nodes (PathsKept (net_in inputs nodes fanins) k (label_in l.labels) node.id (line_paths_in l.form l.bytes (get_or l.places node.id 0)))
          roles₁ r₃ roles₂) where
        pub tried_paths : r₃ ≡ false → GatesTried k inputs nodes fanins l (node.id ∷ []) roles (Err (broken.Paths node)) roles₂
        unfolding net_in
        tried_paths fails =
            record {
              reply = λ most lines holds.
                  paths_broken (net_in inputs nodes fanins) k lines node (cut_here holds) (to_label holds (label.yes yes₂)) (λ kept. paths.reply.no fails (from_paths holds kept));
              rest = beyond_then walk_rest paths.rest;
            }

        pub tried_all : r₃ ≡ true → GatesTried k inputs nodes fanins l (node.id ∷ []) roles (Ok tt) roles₂
        unfolding net_in
        tried_all yes₃ =
            record {
              reply = λ most lines holds.
                  gate_kept (net_in inputs nodes fanins) k lines node (cut_here holds) (to_label holds (label.yes yes₂)) (to_paths holds (paths.reply.yes yes₃));
              rest = beyond_then walk_rest paths.rest;
            }
