-- The mapper's sheet is in shape, and no longer than an acceptable sheet may be: its labels are at most a gate's rank, its roots rise, and its
-- tables fit their rows.
use Prim.Native.Nat.{ℕ, zero, suc, ◌+◌, ◌-◌, ◌^◌, ◌≤◌, ◌<◌}
use native.Mathlib.Omega.{arith}
use native.Mathlib.Nat.{lt_of_lt_of_le}
use mathlib.Core.Path.{subst}
use mathlib.Core.Logic.{⊎_elim}
use mathlib.Core.List.{List, map, Memᴰ}
use lib.ListN.{length, get_or}
use lib.Pow.{pow_mono}
use Rattle.theory.specs.paper.Net.{Net, Gate, Input}
use Rattle.theory.specs.paper.Sound.{Bounded, Ranked}
use Rattle.theory.specs.paper.Lists.{greatest}
use Rattle.theory.specs.paper.Evidence.{peak}
use Rattle.theory.proofs.Ranks.{by_rank}
use Rattle.theory.proofs.Members.{greatest_at_most, some_member}
use Rattle.theory.proofs.Walks.{input_or_gate}
use Rattle.theory.proofs.FlowMap.{Labels, label_peaked, label_positive, labels_at_inputs}
use Rattle.sheet.specs.declared.Form.{Form}
use Rattle.sheet.specs.paper.Sheet.{Line, Lut, Sheet, Roots}
use Rattle.sheet.specs.paper.Rules.{labels_of}
use Rattle.sheet.specs.Longest.{Drawing, Kept, no_lut}
use Rattle.sheet.specs.Shape.{Shaped}
use Rattle.sheet.proofs.Shapes.{due_for, Fitting, Numbered, sheet_shaped}
use Rattle.keeping.specs.paper.Mappers.{MappersSheet}
use Rattle.sheet.proofs.Listed.{root_gate}
use Rattle.keeping.proofs.Longest.{lut_member, rules_bound}
use Rattle.keeping.proofs.Mappers.{mappers_labels, lut_cut_lem, lut_function, mappers_sheet_keeps}
pub use Rattle.keeping.proofs.Listed.{line_at}

-- a label is at most the rank
module _ {net : Net} {k : ℕ} {outputs : List ℕ} {lab : ℕ → ℕ} (bounded : Bounded net k) (ranked : Ranked net) (labels : Labels net k outputs lab) where
  abbrev Low : ℕ → Type 0
  Low v = v < net.nodes → lab v ≤ ranked.rank v

  low_at_gate : (t : ℕ) → ((u : ℕ) → ranked.rank u < ranked.rank t → Low u) → Gate net t → lab t ≤ ranked.rank t
  unfolding peak
  low_at_gate t below gate =
      let each : greatest (map lab (net.fanins t)) ≤ ranked.rank t - 1 =
      greatest_at_most lab (net.fanins t) (ranked.rank t - 1) (λ u m.
      let rises = ranked.rises u t m in
      omega (arith, below u rises (bounded.nodes t gate u m))) in
      let some : (u : ℕ) × Memᴰ u (net.fanins t) = some_member (net.fanins t) (bounded.fed t gate) in
      let rises = ranked.rises some.0 t some.1 in
      ⊎_elim (λ e. omega arith) (λ e. omega arith) (label_peaked bounded ranked labels gate)

  pub label_at_most_rank : (v : ℕ) → v < net.nodes → lab v ≤ ranked.rank v
  label_at_most_rank =
      by_rank Low ranked.rank
      (λ t below node. ⊎_elim (λ (i : Input net t). omega (arith, labels_at_inputs bounded ranked labels t i)) (low_at_gate t below) (input_or_gate t node))

-- LUTs by their place in the list
roots_few : {nodes least : ℕ} {luts : List Lut} → Roots nodes least luts → least ≤ nodes → least + length luts ≤ nodes
roots_few Roots.none low = omega arith
roots_few (Roots.more above below rest) low = omega (arith, roots_few rest (omega arith))

first_root : {nodes least : ℕ} {luts : List Lut} → Roots nodes least luts → 1 ≤ length luts → least ≤ (get_or luts 0 no_lut).root
first_root Roots.none some = absurd (omega arith)
first_root (Roots.more above below rest) some = above

roots_rise : {nodes least : ℕ} {luts : List Lut} → Roots nodes least luts → (i : ℕ) → suc i < length luts →
    (get_or luts i no_lut).root < (get_or luts (suc i) no_lut).root
roots_rise Roots.none i inside = absurd (omega arith)
roots_rise (Roots.more above below rest) zero inside = first_root rest (omega arith)
roots_rise (Roots.more above below rest) (suc i) inside = roots_rise rest i (omega arith)

module _ (net : Net) (tables : ℕ → ℕ) (k : ℕ) (outputs : List ℕ) (sheet : Sheet) (drawing : Drawing net k) (ranked : Ranked net)
    (nodes : (v : ℕ) → Memᴰ v outputs → v < net.nodes) (mapper : MappersSheet net tables k outputs sheet) where
  lab : ℕ → ℕ
  lab = labels_of net.inputs sheet.lines

  labels : Labels net k outputs lab
  unfolding lab
  labels = mappers_labels net tables k outputs sheet drawing.bounded ranked nodes mapper

  gate_at_lem : (i : ℕ) → i < length sheet.lines → Gate net (net.inputs + i)
  gate_at_lem i inside = record { above = omega arith; below = omega (arith, mapper.gates) }

  -- what bounds the length of a sheet
  pub mappers_kept : Kept net k (labels_of net.inputs sheet.lines) sheet
  mappers_kept =
      rules_bound net tables k outputs sheet mapper.gates (omega (arith, roots_few mapper.roots drawing.bounded.span, mapper.gates))
      (mappers_sheet_keeps net tables k outputs sheet drawing.bounded ranked nodes mapper mapper.evidence)

  module _ (most : ℕ) (few : k ≤ 6) (small : (v : ℕ) → v < net.nodes → ranked.rank v ≤ most) where
    low : (v : ℕ) → v < net.nodes → lab v ≤ most
    low v node = omega (arith, label_at_most_rank drawing.bounded ranked labels v node, small v node)

    table_small : (lut : Lut) → Memᴰ lut sheet.luts → lut.table < 256 ^ 8
    table_small lut m =
        let cut = lut_cut_lem net tables k outputs sheet drawing.bounded ranked nodes mapper lut m in
        let rows : 2 ^ length lut.leaves ≤ 2 ^ 6 = pow_mono {i = length lut.leaves} {j = 6} (omega (arith, cut.few)) in
        lt_of_lt_of_le (lut_function net tables k outputs sheet drawing.bounded ranked nodes mapper lut m).rows
        (pow_mono {i = 2 ^ length lut.leaves} {j = 64} rows)

    numbered : Numbered net most sheet
    unfolding lab
    numbered =
        record {
          depth = omega (arith, mapper.depth, greatest_at_most lab outputs most (λ v m. low v (nodes v m)));
          least = λ i inside.
              let positive : 1 ≤ labels_of net.inputs sheet.lines (net.inputs + i) = label_positive drawing.bounded ranked labels (gate_at_lem i inside) in
              subst (λ (l : Line). 1 ≤ l.label) (line_at net.inputs sheet.lines i) positive;
          greatest = λ i inside.
              let high : labels_of net.inputs sheet.lines (net.inputs + i) ≤ most = low (net.inputs + i) (gate_at_lem i inside).below in
              subst (λ (l : Line). l.label ≤ most) (line_at net.inputs sheet.lines i) high;
          roots = λ i inside.
              let (above, below) = root_gate mapper.roots (get_or sheet.luts i no_lut) (lut_member sheet.luts i inside) in
              record { above = above; below = below };
          rise = roots_rise mapper.roots;
          tables = λ i inside. table_small (get_or sheet.luts i no_lut) (lut_member sheet.luts i inside);
        }

    pub mappers_sheet_shaped : {form : Form} → Fitting form most k net.nodes → Shaped (due_for form most k net) sheet
    mappers_sheet_shaped fitting = sheet_shaped drawing fitting mappers_kept numbered
