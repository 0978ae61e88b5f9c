-- What stage one leaves in the arrays, with the lines that are written, is the mapper's sheet.
use Prim.Native.Nat.{ℕ, zero, suc, ◌+◌, ◌-◌, ◌≤◌, ◌<◌}
use native.Mathlib.Decide.{dec_lt}
use native.Mathlib.Omega.{arith}
use mathlib.Core.Path.{◌≡◌, refl, ap, sym, subst, ◌∙◌}
use mathlib.Core.Bool.{Bool, true, false, cond, ◌||◌}
use mathlib.Core.Logic.{◌⊎◌, inl, inr}
use mathlib.Core.List.Memᴰ
use mathlib.Core.List.{List, [], ◌∷◌, map, Memᴰ}
use lib.ListN.{length, get_or, length-map}
use lib.Dec.{eqb}
use lib.Seq.{get_or-take}
use borrow.Author.Tests.{eqb-true, eq-eqb, lt-ltb, le-ltb}
use Rattle.storage.specs.Drawings.{net_in, tables_in}
use Rattle.storage.specs.Marks.{Marks}
use Rattle.storage.proofs.Drawings.{fanins_in, gate_of_lem, gate_above, gate_below}
use Rattle.storage.specs.Lists.{list_at}
use Rattle.theory.specs.paper.Net.{Net, Gate, Input}
use Rattle.theory.specs.paper.Lists.{Rising, greatest}
use Rattle.theory.specs.paper.Sound.{Bounded}
use Rattle.theory.specs.paper.Cover.{Label}
use Rattle.theory.specs.paper.Values.{bit}
use Rattle.theory.specs.paper.Evidence.{MappersCut}
use Rattle.theory.specs.paper.Lookup.{ConeTable}
use Rattle.theory.proofs.Walks.{met_node}
use Rattle.theory.proofs.Members.{rising_tail, rising_above}
use Rattle.theory.proofs.Picks.{map_agree}
use Rattle.theory.proofs.Rules.{evidence_agrees, owes_agrees}
use Rattle.area.specs.Area.{label_in}
use Rattle.flow.specs.Numbers.{those}
use Rattle.flow.proofs.Sums.{those_hold, those_all, those_rising}
use Rattle.flow.proofs.Listing.{those_count}
use Rattle.labelling.proofs.Agreeing.{Agree, agree_back, mappers_cut_agrees}
use Rattle.covering.specs.paper.Needed.{Needed}
use Rattle.covering.specs.Covers.{CoverMade, is_root, lut_count}
use Rattle.covering.proofs.Orders.{needed_gate}
use Rattle.sheet.specs.paper.Sheet.{Line, Roots, no_line}
use Rattle.sheet.specs.paper.Rules.{line_of_node, labels_of, is_listed, leaves_listed, table_listed, PathsKept}
use Rattle.keeping.specs.paper.Mappers.{SheetWith, MappersSheet}
use Rattle.packing.specs.Tables.{TableIs, Labelled}
use Rattle.settling.specs.Arrays.{is_marked, lut_in, luts_below}

-- Evidence and what is due rest on the labels behind the gate, and on its own

paths_agree : {net : Net} {t : ℕ} {lab mab : ℕ → ℕ} → Agree net t lab mab → lab t ≡ mab t → {k : ℕ} {paths : List (List ℕ)} →
    PathsKept net k lab t paths → PathsKept net k mab t paths
paths_agree agree same kept =
    record {
      due = λ owes. evidence_agrees agree (kept.due (owes_agrees (agree_back agree) (sym same) owes));
      not_due = λ none. kept.not_due (λ owes. none (owes_agrees agree same owes));
    }

-- The LUTs of a list of ids

module _ (cuts tables : List ℕ) where
  or_true : (a : Bool) {b : Bool} → (a || b) ≡ true → (a ≡ true) ⊎ (b ≡ true)
  or_true true e = inl refl
  or_true false e = inr e

  listed_member : (ids : List ℕ) (v : ℕ) → is_listed (map (lut_in cuts tables) ids) v ≡ true → Memᴰ v ids
  unfolding is_listed
  listed_member [] v e = absurd (mathlib.Core.Bool.false≢true e)
  listed_member (u ∷ ids) v e = by (or_true (eqb u v) e) (listed_member ids v)
    where
      by : (eqb u v ≡ true) ⊎ (is_listed (map (lut_in cuts tables) ids) v ≡ true) →
          (is_listed (map (lut_in cuts tables) ids) v ≡ true → Memᴰ v ids) → Memᴰ v (u ∷ ids)
      by (inl here) later = Memᴰ.head (sym (eqb-true u v here))
      by (inr there) later = Memᴰ.tail (later there)

  member_listed : (ids : List ℕ) (v : ℕ) → Memᴰ v ids → is_listed (map (lut_in cuts tables) ids) v ≡ true
  unfolding is_listed
  member_listed [] v m = absurd (Memᴰ.not-nil m)
  member_listed (u ∷ ids) v m = by (eqb u v) refl (Memᴰ.cases_cons m) (member_listed ids v)
    where
      by : (b : Bool) → eqb u v ≡ b → (v ≡ u) ⊎ Memᴰ v ids → (Memᴰ v ids → is_listed (map (lut_in cuts tables) ids) v ≡ true) →
          (b || is_listed (map (lut_in cuts tables) ids) v) ≡ true
      by true e place later = refl
      by false e (inl same) later = absurd (mathlib.Core.Bool.false≢true (sym e ∙ eq-eqb u v (sym same)))
      by false e (inr there) later = later there

  leaves_listed_lem : (ids : List ℕ) (v : ℕ) → Memᴰ v ids →
      (leaves_listed (map (lut_in cuts tables) ids) v ≡ list_at cuts v) × (table_listed (map (lut_in cuts tables) ids) v ≡ get_or tables v 0)
  unfolding leaves_listed table_listed
  leaves_listed_lem [] v m = absurd (Memᴰ.not-nil m)
  leaves_listed_lem (u ∷ ids) v m = by (eqb u v) refl (Memᴰ.cases_cons m) (leaves_listed_lem ids v)
    where
      by : (b : Bool) → eqb u v ≡ b → (v ≡ u) ⊎ Memᴰ v ids →
          (Memᴰ v ids →
          (leaves_listed (map (lut_in cuts tables) ids) v ≡ list_at cuts v) × (table_listed (map (lut_in cuts tables) ids) v ≡ get_or tables v 0)) →
          (cond b (list_at cuts u) (leaves_listed (map (lut_in cuts tables) ids) v) ≡ list_at cuts v)
          × (cond b (get_or tables u 0) (table_listed (map (lut_in cuts tables) ids) v) ≡ get_or tables v 0)
      by true e place later = (ap (list_at cuts) (eqb-true u v e), ap (λ (w : ℕ). get_or tables w 0) (eqb-true u v e))
      by false e (inl same) later = absurd (mathlib.Core.Bool.false≢true (sym e ∙ eq-eqb u v (sym same)))
      by false e (inr there) later = later there

  roots_rise : (nodes least : ℕ) (ids : List ℕ) → Rising ids → ((v : ℕ) → Memᴰ v ids → (least ≤ v) × (v < nodes)) → Roots nodes least (map (lut_in cuts tables) ids)
  roots_rise nodes least [] rising inside = Roots.none
  roots_rise nodes least (v ∷ ids) rising inside =
      let here = inside v (Memᴰ.head refl) in
      Roots.more here.0 here.1
      (roots_rise nodes (suc v) ids (rising_tail rising) (λ u m. (rising_above rising u m, (inside u (Memᴰ.tail m)).1)))

-- How many LUTs there are

module _ (luts : List ℕ) where
  bit_cond : (b : Bool) → bit b ≡ cond b 1 0
  bit_cond true = refl
  bit_cond false = refl

  counted : (nodes n : ℕ) → n ≤ nodes → lut_count (is_root nodes luts) n ≡ length (those (is_marked luts) n)
  unfolding lut_count those is_root
  counted nodes zero few = refl
  counted nodes (suc n) few =
      omega (
        arith,
        counted nodes n (omega arith),
        ap (λ (x : ℕ). bit (eqb x 1)) (get_or-take nodes luts n 0 few),
        bit_cond (is_marked luts n),
        those_count (is_marked luts) n,
      )

  few_marked : (inputs : ℕ) (n : ℕ) → ((v : ℕ) → v < n → get_or luts v 0 ≡ 1 → inputs ≤ v) → length (those (is_marked luts) n) ≤ n - inputs
  unfolding those
  few_marked inputs zero gates = omega arith
  few_marked inputs (suc n) gates =
      by (is_marked luts n) refl (few_marked inputs n (λ v low one. gates v (omega arith) one))
    where
      by : (b : Bool) → is_marked luts n ≡ b → length (those (is_marked luts) n) ≤ n - inputs → length (those (is_marked luts) (suc n)) ≤ suc n - inputs
      by true e few =
          let high = gates n (omega arith) (eqb-true (get_or luts n 0) 1 e) in
          omega (arith, those_count (is_marked luts) n, ap (λ (b : Bool). cond {A = ℕ} b 1 0) e)
      by false e few = omega (arith, those_count (is_marked luts) n, ap (λ (b : Bool). cond {A = ℕ} b 1 0) e)

-- Gates needed, where the leaves are the same

needed_moves : {a b : Net} {outputs : List ℕ} → ((v : ℕ) → Gate a v → Gate b v) →
    ((r u : ℕ) → Gate a r → Memᴰ u (a.fanins r) → Memᴰ u (b.fanins r)) → {v : ℕ} → Needed a outputs v → Needed b outputs v
needed_moves gates leaves (Needed.output m gate) = Needed.output m (gates _ gate)
needed_moves gates leaves (Needed.leaf {r = r} {v = v} n m gate) =
    Needed.leaf (needed_moves gates leaves n) (leaves r v (needed_gate n) m) (gates v gate)

-- A gate's line has its label and its cut.
pub record LineSays (labels cuts : List ℕ) (t : ℕ) (line : Line) : Type 0 where
  pub label : line.label ≡ label_in labels t
  pub cut : line.leaves ≡ list_at cuts t

-- What stands in the arrays.
pub record Standing (inputs nodes k : ℕ) (fanins rows labels cuts luts tables outputs : List ℕ) (lines : List Line) : Type 0 where
  pub bounded : Bounded (net_in inputs nodes fanins) k
  pub zeros : (v : ℕ) → Input (net_in inputs nodes fanins) v → label_in labels v ≡ 0
  pub labelled : Labelled inputs nodes k fanins labels cuts
  pub marks : Marks nodes (Needed (net_in inputs nodes cuts) outputs) luts
  pub tables_known : (v : ℕ) → v < nodes → TableIs (net_in inputs nodes fanins) (tables_in rows) cuts luts v (get_or tables v 0)
  pub outputs_low : (v : ℕ) → Memᴰ v outputs → v < nodes
  pub gates : inputs + length lines ≡ nodes
  pub each : (i : ℕ) → i < length lines → LineSays labels cuts (inputs + i) (get_or lines i no_line)

module _ {inputs nodes k : ℕ} {fanins rows labels cuts luts tables outputs : List ℕ} {lines : List Line}
    (st : Standing inputs nodes k fanins rows labels cuts luts tables outputs lines) where
  gate_span : {v : ℕ} (a : List ℕ) → Gate (net_in inputs nodes a) v → (inputs ≤ v) × (v < nodes)
  gate_span a gate = (gate_above inputs nodes a gate, gate_below inputs nodes a gate)

  -- what holds of each line, of a gate's
  line_at : (P : ℕ → Line → Type 0) → ((i : ℕ) → i < length lines → P (inputs + i) (get_or lines i no_line)) → (v : ℕ) → inputs ≤ v → v < nodes →
      P v (line_of_node inputs lines v)
  unfolding line_of_node
  line_at P each v above below =
      let place : inputs + (v - inputs) ≡ v = omega arith in
      subst (λ (b : Bool). P v (cond b no_line (get_or lines (v - inputs) no_line))) (sym (le-ltb v inputs above))
      (subst (λ (u : ℕ). P u (get_or lines (v - inputs) no_line)) place (each (v - inputs) (omega (arith, st.gates))))

  line_is : (v : ℕ) → inputs ≤ v → v < nodes → LineSays labels cuts v (line_of_node inputs lines v)
  line_is = line_at (LineSays labels cuts) st.each

  input_label : (v : ℕ) → v < inputs → labels_of inputs lines v ≡ 0
  unfolding line_of_node
  input_label v low = ap (λ (b : Bool). (cond b no_line (get_or lines (v - inputs) no_line)).label) (lt-ltb v inputs low)

  pub label_same : (v : ℕ) → v < nodes → label_in labels v ≡ labels_of inputs lines v
  unfolding net_in
  label_same v low = by (dec_lt v inputs)
    where
      by : Dec (v < inputs) → label_in labels v ≡ labels_of inputs lines v
      by (yes input) = st.zeros v input ∙ sym (input_label v input)
      by (no gate) = sym (line_is v (omega arith) low).label

  agree : (t : ℕ) → Gate (net_in inputs nodes fanins) t → Agree (net_in inputs nodes fanins) t (label_in labels) (labels_of inputs lines)
  unfolding net_in
  agree t gate v behind = label_same v (met_node st.bounded gate.below behind)

  fanins_cut : (v : ℕ) → v < nodes → (net_in inputs nodes cuts).fanins v ≡ list_at cuts v
  fanins_cut v low = fanins_in inputs nodes cuts v low

  chosen : Net
  chosen = record { inputs = inputs; nodes = nodes; fanins = λ v. (line_of_node inputs lines v).leaves }

  to_chosen : {v : ℕ} → Needed (net_in inputs nodes cuts) outputs v → Needed chosen outputs v
  unfolding chosen
  to_chosen =
      needed_moves (λ v gate. let (above, below) = gate_span cuts gate in record { above = above; below = below })
      (λ r u gate m.
      let (above, below) = gate_span cuts gate in
      subst (Memᴰ u) (fanins_cut r below ∙ sym (line_is r above below).cut) m)

  from_chosen : {v : ℕ} → Needed chosen outputs v → Needed (net_in inputs nodes cuts) outputs v
  unfolding chosen
  from_chosen =
      needed_moves (λ v gate. gate_of_lem inputs nodes cuts gate.above gate.below)
      (λ r u gate m. subst (Memᴰ u) ((line_is r gate.above gate.below).cut ∙ sym (fanins_cut r gate.below)) m)

  ids : List ℕ
  ids = those (is_marked luts) nodes

  id_marked : {v : ℕ} → Memᴰ v ids → (v < nodes) × (get_or luts v 0 ≡ 1)
  unfolding ids
  id_marked {v} m = let (low, marked) = those_hold (is_marked luts) nodes m in (low, eqb-true (get_or luts v 0) 1 marked)

  id_gate : {v : ℕ} → Memᴰ v ids → (inputs ≤ v) × (v < nodes)
  id_gate {v} m = let (low, one) = id_marked m in gate_span cuts (needed_gate (st.marks.holds v low one))

  marked_id : {v : ℕ} → v < nodes → get_or luts v 0 ≡ 1 → Memᴰ v ids
  unfolding ids
  marked_id {v} low one = those_all (is_marked luts) v nodes low (eq-eqb (get_or luts v 0) 1 one)

  needed_low : {v : ℕ} → Needed chosen outputs v → v < nodes
  unfolding chosen
  needed_low n = (needed_gate n).below

  -- the mapper's sheet, whatever is asked of the paths
  pub sheet_with : {Asked : (ℕ → ℕ) → ℕ → List (List ℕ) → Type 0} →
      ((t : ℕ) → Gate (net_in inputs nodes fanins) t → Asked (labels_of inputs lines) t (line_of_node inputs lines t).paths) →
      (depth : ℕ) → depth ≡ greatest (map (label_in labels) outputs) →
      SheetWith Asked (net_in inputs nodes fanins) (tables_in rows) k outputs (record { depth = depth; lines = lines; luts = luts_below cuts luts tables nodes })
  unfolding net_in luts_below ids chosen
  sheet_with kept depth deep =
      record {
        gates = st.gates;
        labels = λ t gate any.
            subst (Label (net_in inputs nodes fanins) k any t) (label_same t gate.below) (st.labelled.label t gate.below any);
        cuts = λ t gate.
            subst (MappersCut (net_in inputs nodes fanins) k (labels_of inputs lines) t) (sym (line_is t gate.above gate.below).cut)
            (mappers_cut_agrees (agree t gate) (label_same t gate.below) (st.labelled.cut t gate));
        evidence = kept;
        roots = roots_rise cuts tables nodes inputs ids (those_rising (is_marked luts) nodes) (λ v m. id_gate m);
        needed = λ v e.
            let (low, one) = id_marked (listed_member cuts tables ids v e) in
            to_chosen (st.marks.holds v low one);
        all = λ v n.
            member_listed cuts tables ids v (marked_id (needed_low n) (st.marks.marked v (needed_low n) (from_chosen n)));
        leaves = λ v e.
            let m = listed_member cuts tables ids v e in
            let (above, below) = id_gate m in
            (leaves_listed_lem cuts tables ids v m).0 ∙ sym (line_is v above below).cut;
        functions = λ v e.
            let m = listed_member cuts tables ids v e in
            let (low, one) = id_marked m in
            let is = leaves_listed_lem cuts tables ids v m in
            subst (λ (l : List ℕ). ConeTable (net_in inputs nodes fanins) (tables_in rows) l v (table_listed (map (lut_in cuts tables) ids) v)) (sym is.0)
            (subst (ConeTable (net_in inputs nodes fanins) (tables_in rows) (list_at cuts v) v) (sym is.1) ((st.tables_known v low).root one));
        depth = deep ∙ ap greatest (map_agree (label_in labels) (labels_of inputs lines) outputs (λ v m. label_same v (st.outputs_low v m)));
      }

  pub mappers_sheet : ((i : ℕ) → i < length lines → PathsKept (net_in inputs nodes fanins) k (label_in labels) (inputs + i) (get_or lines i no_line).paths) →
      (depth : ℕ) → depth ≡ greatest (map (label_in labels) outputs) →
      MappersSheet (net_in inputs nodes fanins) (tables_in rows) k outputs (record { depth = depth; lines = lines; luts = luts_below cuts luts tables nodes })
  mappers_sheet kept =
      sheet_with (λ t gate.
      let (above, below) = gate_span fanins gate in
      paths_agree (agree t gate) (label_same t below)
      (line_at (λ (v : ℕ) (line : Line). PathsKept (net_in inputs nodes fanins) k (label_in labels) v line.paths) kept t above below))

-- the LUTs' number and how few they are, from what `cover` marks
module _ {inputs nodes : ℕ} {cuts outputs before : List ℕ} {many : ℕ} {luts : List ℕ}
    (cover : CoverMade inputs nodes cuts outputs before many luts) (tables : List ℕ) where
  pub luts_counted : many ≡ length (luts_below cuts luts tables nodes)
  unfolding luts_below
  luts_counted =
      cover.count ∙ counted luts nodes nodes (omega arith) ∙ sym (length-map (those (is_marked luts) nodes) (lut_in cuts tables))

  pub luts_few : length (luts_below cuts luts tables nodes) ≤ nodes - inputs
  unfolding luts_below net_in
  luts_few =
      let few = few_marked luts inputs nodes (λ v low one. (needed_gate (cover.marks.holds v low one)).above) in
      omega (arith, length-map (those (is_marked luts) nodes) (lut_in cuts tables))
