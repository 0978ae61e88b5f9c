-- A sheet that keeps every rule is right: its lines show the labels, its LUTs are a cover that computes what the gates compute, and no cover is
-- shallower.
use Prim.Native.Nat.{ℕ, ◌-◌, ◌≤◌, ◌<◌}
use native.Mathlib.Omega.{arith}
use mathlib.Core.Path.{◌≡◌, refl, sym, ◌∙◌, subst}
use mathlib.Core.Bool.{true}
use mathlib.Core.List.Memᴰ
use mathlib.Core.List.{List, [], ◌∷◌, ◌++◌, map, flat_map, Memᴰ}
use Rattle.theory.specs.paper.Net.{Net, Gate}
use Rattle.theory.specs.paper.Sound.{Bounded, Ranked}
use Rattle.theory.specs.paper.Walk.{Cut}
use Rattle.theory.specs.paper.Cover.{Luts, Cover, Label}
use Rattle.theory.specs.paper.Lookup.{ConeTable}
use Rattle.theory.specs.paper.Lists.{greatest}
use Rattle.theory.specs.Lines.{Lines, TablesFit}
use Rattle.theory.proofs.Rules.{lines_are_labels}
use Rattle.theory.proofs.MappersCovers.{no_cover_shallower}
use Rattle.theory.proofs.Computes.{lut_value, lut_value_obeys, lut_value_inputs, luts_compute_outputs}
use Rattle.theory.proofs.Valuations.{value_of, value_of_obeys}
use Rattle.sheet.specs.paper.Sheet.{Lut, Sheet, Roots}
use Rattle.sheet.specs.paper.Rules.{Rule, Keeps, LabelKept, PathsKept, CoverKept, DepthKept, gate_rules, lut_rules, gates, rules_of, line_of_node, labels_of, luts_of, leaves_listed, table_listed}
use Rattle.sheet.proofs.Firsts.{member_from}
use Rattle.keeping.specs.paper.Right.{KeepsRules, Computes, Right}
use Rattle.sheet.proofs.Listed.{ListedLut, listed_lut_lem, root_gate}
use Rattle.keeping.proofs.Listed.{label_at_input, member_flat, member_map}

-- The rules that are tried, by where they stand in the list

module _ (net : Net) (sheet : Sheet) where
  gate_listed : {t : ℕ} → Gate net t → Memᴰ t (gates net)
  gate_listed {t} gate = member_from net.inputs (net.nodes - net.inputs) t gate.above (omega (arith, gate.above, gate.below))

  by_gates : List Rule
  by_gates = flat_map (gate_rules net.inputs sheet.lines) (gates net)

  by_luts : List Rule
  by_luts = flat_map lut_rules sheet.luts

  by_cover : List Rule
  by_cover = map Rule.cover (gates net)

  pub gate_rule : {t : ℕ} → Gate net t → {r : Rule} → Memᴰ r (gate_rules net.inputs sheet.lines t) → Memᴰ r (rules_of net sheet)
  unfolding by_luts by_cover
  gate_rule gate m =
      Memᴰ.append_left (Rule.depth ∷ []) (Memᴰ.append_left by_cover (Memᴰ.append_left by_luts (member_flat (gate_rules net.inputs sheet.lines) (gate_listed gate) m)))

  pub lut_rule : {lut : Lut} → Memᴰ lut sheet.luts → {r : Rule} → Memᴰ r (lut_rules lut) → Memᴰ r (rules_of net sheet)
  unfolding by_gates by_cover
  lut_rule member m = Memᴰ.append_left (Rule.depth ∷ []) (Memᴰ.append_left by_cover (Memᴰ.append_right by_gates (member_flat lut_rules member m)))

  cover_rule : {t : ℕ} → Gate net t → Memᴰ (Rule.cover t) (rules_of net sheet)
  unfolding by_gates by_luts
  cover_rule gate = Memᴰ.append_left (Rule.depth ∷ []) (Memᴰ.append_right (by_gates ++ by_luts) (member_map Rule.cover (gate_listed gate)))

  depth_rule : Memᴰ Rule.depth (rules_of net sheet)
  unfolding by_gates by_luts by_cover
  depth_rule = Memᴰ.append_right (by_gates ++ by_luts ++ by_cover) (Memᴰ.head {xs = []} refl)

module _ (net : Net) (tables : ℕ → ℕ) (k : ℕ) (outputs : List ℕ) (sheet : Sheet) (bounded : Bounded net k) (ranked : Ranked net)
    (nodes : (v : ℕ) → Memᴰ v outputs → v < net.nodes) (roots : Roots net.nodes net.inputs sheet.luts)
    (kept : KeepsRules net tables k outputs sheet) where
  -- the lines
  lab : ℕ → ℕ
  lab = labels_of net.inputs sheet.lines

  lines : Lines net k lab (λ t. (line_of_node net.inputs sheet.lines t).leaves) (λ t. (line_of_node net.inputs sheet.lines t).paths)
  unfolding Keeps lab
  lines =
      record {
        inputs = λ v i. label_at_input net.inputs sheet.lines v i;
        gates = λ t gate.
            let cut : Cut net k t _ = kept (Rule.cut t _) (gate_rule net sheet gate (Memᴰ.head refl)) in
            let label : LabelKept net _ _ t = kept (Rule.label t) (gate_rule net sheet gate (Memᴰ.tail (Memᴰ.head refl))) in
            let paths : PathsKept net k _ t _ = kept (Rule.paths t) (gate_rule net sheet gate (Memᴰ.tail (Memᴰ.tail (Memᴰ.head refl)))) in
            record {
              cut = cut;
              depth = label.shown;
              near = label.near;
              shown = λ above some. paths.due (record { above = above; some = some });
            };
      }

  labels : (v : ℕ) → v < net.nodes → Label net k outputs v (lab v)
  labels = lines_are_labels bounded lines ranked outputs

  -- the LUTs
  luts : Luts
  luts = luts_of sheet.luts

  listed : {v : ℕ} → luts.root v ≡ true → ListedLut sheet.luts v
  unfolding luts
  listed {v} root = listed_lut_lem sheet.luts v root

  root_is_gate : {v : ℕ} → luts.root v ≡ true → Gate net v
  root_is_gate {v} root =
      let l = listed root in
      let (above, below) = root_gate roots l.lut l.member in
      record { above = omega (arith, l.root_is); below = omega (arith, l.root_is) }

  root_cut : {v : ℕ} → luts.root v ≡ true → Cut net k v (luts.leaves v)
  unfolding luts Keeps
  root_cut {v} root =
      let l = listed root in
      let cut : Cut net k l.lut.root l.lut.leaves = kept (Rule.cut l.lut.root l.lut.leaves) (lut_rule net sheet l.member (Memᴰ.head refl)) in
      subst (Cut net k v) (sym l.leaves_are) (subst (λ (r : ℕ). Cut net k r l.lut.leaves) l.root_is cut)

  root_table : TablesFit net tables luts (table_listed sheet.luts)
  unfolding luts Keeps
  root_table v root =
      let l = listed root in
      let fit : ConeTable net tables l.lut.leaves l.lut.root l.lut.table =
      kept (Rule.function l.lut) (lut_rule net sheet l.member (Memᴰ.tail (Memᴰ.head refl))) in
      subst (ConeTable net tables (leaves_listed sheet.luts v) v) (sym l.table_is)
      (subst (λ (leaves : List ℕ). ConeTable net tables leaves v l.lut.table) (sym l.leaves_are)
      (subst (λ (r : ℕ). ConeTable net tables l.lut.leaves r l.lut.table) l.root_is fit))

  cover_kept : {v : ℕ} → Gate net v → CoverKept outputs luts v
  unfolding luts Keeps
  cover_kept {v} gate = kept (Rule.cover v) (cover_rule net sheet gate)

  cover : Cover net k outputs luts
  cover =
      record {
        gates = λ r root. root_is_gate root;
        cuts = λ r root. root_cut root;
        closed = λ v gate wanted. (cover_kept gate).wanted wanted;
        needed = λ r root. (cover_kept (root_is_gate root)).root root;
      }

  depth_kept : DepthKept net lab outputs luts sheet.depth
  unfolding luts Keeps lab
  depth_kept = kept Rule.depth (depth_rule net sheet)

  computes : Computes net tables outputs luts (table_listed sheet.luts)
  computes =
      record {
        agree = λ setting x y values inputs obeys v m.
            sym (luts_compute_outputs net ranked k outputs luts cover (table_listed sheet.luts) bounded.nodes x y
            (λ u i. values.at_inputs u i ∙ sym (inputs u i)) tables root_table values.at_gates obeys v (nodes v m) m);
        gates_valued = λ setting. (value_of net tables ranked setting, value_of_obeys net tables ranked setting);
        luts_valued = λ setting. (
          lut_value ranked luts (table_listed sheet.luts) setting,
          (
            lut_value_inputs net ranked k outputs luts cover (table_listed sheet.luts) setting,
            lut_value_obeys net ranked k outputs luts cover (table_listed sheet.luts) setting,
          ),
        );
      }

  -- "if the inspector accepts, the sheet's LUTs compute every output as the gates do, and no K-LUT cover of that drawing has a smaller depth"
  pub kept_is_right : Right net tables k outputs sheet
  unfolding luts lab
  kept_is_right =
      record {
        labels = labels;
        cover = cover;
        computes = computes;
        depth = depth_kept.reached;
        least = λ other d other-cover depths.
            let low : greatest (map lab outputs) ≤ d = no_cover_shallower bounded ranked labels other-cover depths in
            omega (arith, depth_kept.labelled);
      }
