-- A test that a sheet is the mapper's, `is_mappers`, and `mapper`, which carries it to the definitions. The test is of the rules at each gate and
-- LUT: that labels are true follows from these by the theorems, and the gates needed are the roots of the cover, by induction from the outputs down
-- the ranks.
use Prim.Native.Nat.{ℕ, ◌+◌, ◌-◌, ◌<◌}
use native.Mathlib.Omega.{arith}
use mathlib.Core.Path.{◌≡◌, refl, sym, ap, ◌∙◌, subst}
use mathlib.Core.Bool.{Bool, true, not, ◌&&◌, ◌||◌}
use mathlib.Core.List.{List, [], ◌∷◌, map, Memᴰ}
use borrow.Author.Tests.{eqb-true, eq-eqb}
use lib.ListN.{length}
use lib.Dec.{ltb, eqb}
use Rattle.theory.specs.paper.Net.{Net, Gate}
use Rattle.theory.specs.paper.Values.{row_of, result_at}
use Rattle.theory.specs.paper.Lists.{greatest}
use Rattle.theory.specs.Members.{is_member}
use Rattle.theory.specs.paper.Sound.{Bounded, Ranked}
use Rattle.theory.specs.paper.Cover.{Wanted, Cover}
use Rattle.theory.specs.Members as theory
use Rattle.theory.specs.paper.Evidence.{MappersCut}
use Rattle.theory.specs.Lines.{Lines}
use Rattle.theory.specs.paper.Lookup.{ConeTable}
use Rattle.theory.proofs.Tests.{passed, decides_itself, ◌and_then◌, decides_if, decides_lt, decides_equal, decides_every, decides_below, every, every_below}
use Rattle.theory.proofs.Ranks.{by_rank, common_bound}
use Rattle.theory.proofs.Picks.{setting_of}
use Rattle.theory.proofs.Rows.{bits_of, table_of}
use Rattle.theory.proofs.Valuations.{value_within, settle}
use Rattle.theory.proofs.Walks.{met_rank}
use Rattle.theory.proofs.Cones.{cone_value, row_value, cone_table_along, cone_table_lem}
use Rattle.theory.proofs.Rules.{lines_are_labels}
use Rattle.theory.proofs.MappersCovers.{same_test}
use Rattle.theory.proofs.DecideNet.{is_gate, decides_gate, is_bounded, decides_bounded, is_ranked_by, decides_ranked_by, NothingBeyond, ranked_by}
use Rattle.theory.proofs.DecideLabels.{are_labels, decides_labels}
use Rattle.theory.proofs.DecideMapper.{is_mappers_cut, decides_mappers_cut}
use Rattle.theory.proofs.DecideCover.{is_cover, decides_cover}
use Rattle.covering.specs.paper.Needed.{Needed}
use Rattle.sheet.specs.paper.Sheet.{Line, Lut, Sheet, Roots}
use Rattle.sheet.specs.paper.Rules.{line_of_node, labels_of, is_listed, leaves_listed, table_listed}
use Rattle.sheet.proofs.Listed.{ListedLut, listed_lut_lem, member_listed}
use Rattle.keeping.specs.paper.Mappers.{chosen_by, MappersSheet}
use Rattle.cases.proofs.Tests.{both, is_same_numbers, same_numbers, are_roots, roots_rise, is_fair, fair, Fair}

abbrev lines_of : Net → Sheet → ℕ → Line
lines_of net sheet = line_of_node net.inputs sheet.lines

abbrev roots_of : Sheet → List ℕ
roots_of sheet = map (λ lut. lut.root) sheet.luts

-- has a LUT its root's leaves, and its cone's table? Fanins stand before their gates in these drawings, so ids serve as ranks.
unfoldable fits : Net → (tables : ℕ → ℕ) → (ℕ → Line) → Lut → Bool
unfolding is_same_numbers cone_table_along row_value cone_value settle value_within table_of setting_of bits_of is_member row_of result_at
fits net tables line lut =
    is_same_numbers lut.leaves (line lut.root).leaves && eqb (cone_table_along net tables (λ v. v) (line lut.root).leaves lut.root) lut.table

unfoldable pub is_mappers : Net → (tables : ℕ → ℕ) → (k : ℕ) → (outputs : List ℕ) → Sheet → Bool
unfolding is_bounded is_ranked_by are_labels every every_below is_gate is_mappers_cut is_cover fits greatest is_member are_roots is_fair line_of_node
is_mappers net tables k outputs sheet =
    is_bounded net k && is_ranked_by (λ v. v) net && every (λ v. ltb v net.nodes) outputs &&
    are_labels net k (λ v. (lines_of net sheet v).label) (λ v. (lines_of net sheet v).leaves) (λ v. (lines_of net sheet v).paths) &&
    every_below net.nodes (λ t. not (is_gate net t) || is_mappers_cut net k (λ v. (lines_of net sheet v).label) t (lines_of net sheet t).leaves) &&
    is_cover net k outputs (roots_of sheet) (λ v. (lines_of net sheet v).leaves) &&
    every (fits net tables (lines_of net sheet)) sheet.luts &&
    eqb sheet.depth (greatest (map (λ v. (lines_of net sheet v).label) outputs)) &&
    eqb (net.inputs + length sheet.lines) net.nodes &&
    are_roots net.nodes net.inputs sheet.luts &&
    is_fair net (λ v. (lines_of net sheet v).label) (λ v. (lines_of net sheet v).paths)

-- the LUTs listed, by the list of their roots
turned : (a b : ℕ) → eqb a b ≡ eqb b a
turned a b = same_test (eqb a b) (eqb b a) (λ e. eq-eqb b a (sym (eqb-true a b e))) (λ e. eq-eqb a b (sym (eqb-true b a e)))

roots_listed : (luts : List Lut) (v : ℕ) → is_listed luts v ≡ is_member v (map (λ lut. lut.root) luts)
unfolding is_listed is_member
roots_listed [] v = refl
roots_listed (lut ∷ luts) v = λ i. turned lut.root v i || roots_listed luts v i

-- What the tests of a sheet show, and that it is the mapper's
module _ (net : Net) (tables : ℕ → ℕ) (k : ℕ) (outputs : List ℕ) (sheet : Sheet) where
  abbrev lab : ℕ → ℕ
  lab = labels_of net.inputs sheet.lines

  abbrev leaves : ℕ → List ℕ
  leaves v = (lines_of net sheet v).leaves

  abbrev paths : ℕ → List (List ℕ)
  paths v = (lines_of net sheet v).paths

  record Tested : Type 0 where
    pub bounded : Bounded net k
    pub ranked : Ranked net
    pub lines : Lines net k lab leaves paths
    pub cuts : (t : ℕ) → Gate net t → MappersCut net k lab t (leaves t)
    pub cover : Cover net k outputs (theory.luts_of (roots_of sheet) leaves)
    pub fit : (lut : Lut) → Memᴰ lut sheet.luts → (lut.leaves ≡ leaves lut.root) × ConeTable net tables (leaves lut.root) lut.root lut.table
    pub depth : sheet.depth ≡ greatest (map lab outputs)
    pub as_many : net.inputs + length sheet.lines ≡ net.nodes
    pub roots : Roots net.nodes net.inputs sheet.luts
    pub fair : Fair net lab paths

  module _ (tested : Tested) where
    abbrev is_root : ℕ → Bool
    is_root v = is_member v (roots_of sheet)

    abbrev chosen : Net
    chosen = chosen_by net sheet.lines

    chosen_gate : {v : ℕ} → Gate net v → Gate chosen v
    chosen_gate gate = record { above = gate.above; below = gate.below }

    -- the gates needed are the roots
    abbrev IsNeeded : ℕ → Type 0
    IsNeeded r = is_root r ≡ true → Needed chosen outputs r

    needed_after : (r : ℕ) → ((s : ℕ) → is_root s ≡ true → tested.ranked.rank r < tested.ranked.rank s → Needed chosen outputs s) → IsNeeded r
    needed_after r higher at = by (tested.cover.needed r at)
      where
        by : Wanted outputs (theory.luts_of (roots_of sheet) leaves) r → Needed chosen outputs r
        by (Wanted.output m) = Needed.output m (chosen_gate (tested.cover.gates r at))
        by (Wanted.leaf s up m) =
            let less = met_rank tested.ranked ((tested.cover.cuts s up).met r m) in
            Needed.leaf (higher s up less) m (chosen_gate (tested.cover.gates r at))

    root_needed : (r : ℕ) → IsNeeded r
    root_needed =
        let (b, above) = common_bound tested.ranked.rank net.nodes in
        by_rank IsNeeded (λ r. b - tested.ranked.rank r) (λ r higher.
        needed_after r (λ s up less. higher s (let low = above s (tested.cover.gates s up).below in omega arith) up))

    needed_root : {v : ℕ} → Needed chosen outputs v → is_root v ≡ true
    needed_root {v} (Needed.output m gate) = tested.cover.closed v (record { above = gate.above; below = gate.below }) (Wanted.output m)
    needed_root {v} (Needed.leaf {r = r} needs m gate) =
        tested.cover.closed v (record { above = gate.above; below = gate.below }) (Wanted.leaf r (needed_root needs) m)

    leaves_listed_lem : (v : ℕ) → is_listed sheet.luts v ≡ true → leaves_listed sheet.luts v ≡ leaves v
    leaves_listed_lem v listed =
        let l : ListedLut sheet.luts v = listed_lut_lem sheet.luts v listed in
        l.leaves_are ∙ (tested.fit l.lut l.member).0 ∙ ap leaves l.root_is

    functions_listed : (v : ℕ) → is_listed sheet.luts v ≡ true → ConeTable net tables (leaves_listed sheet.luts v) v (table_listed sheet.luts v)
    functions_listed v listed =
        let l : ListedLut sheet.luts v = listed_lut_lem sheet.luts v listed in
        subst (λ (ls : List ℕ). ConeTable net tables ls v (table_listed sheet.luts v)) (sym (leaves_listed_lem v listed))
        (subst (ConeTable net tables (leaves v) v) (sym l.table_is)
        (subst (λ (r : ℕ). ConeTable net tables (leaves r) r l.lut.table) l.root_is (tested.fit l.lut l.member).1))

    mappers_sheet : MappersSheet net tables k outputs sheet
    mappers_sheet =
        record {
          gates = tested.as_many;
          labels = λ t gate any. lines_are_labels tested.bounded tested.lines tested.ranked any t gate.below;
          cuts = tested.cuts;
          evidence = λ t gate.
              record { due = λ owes. (tested.lines.gates t gate).shown owes.above owes.some; not_due = tested.fair t gate };
          roots = tested.roots;
          needed = λ v listed. root_needed v (sym (roots_listed sheet.luts v) ∙ listed);
          all = λ v needed. roots_listed sheet.luts v ∙ needed_root needed;
          leaves = leaves_listed_lem;
          functions = functions_listed;
          depth = tested.depth;
        }

  -- What the test shows
  pub record Mapper : Type 0 where
    pub bounded : Bounded net k
    pub ranked : Ranked net
    pub nodes : (v : ℕ) → Memᴰ v outputs → v < net.nodes
    pub mappers : MappersSheet net tables k outputs sheet

  pub mapper : NothingBeyond net → is_mappers net tables k outputs sheet ≡ true → Mapper
  unfolding is_mappers fits ranked_by
  mapper nothing =
      passed
      (decides_bounded net k
      and_then (λ _. decides_ranked_by (λ v. v) net)
      and_then (λ _. decides_every _ (λ v. decides_lt v net.nodes) outputs)
      and_then (λ h. decides_labels h.0.0 k lab leaves paths)
      and_then (λ h. decides_below net.nodes _ (λ t node. decides_if (decides_gate net t) (λ _. decides_mappers_cut h.0.0.0 k lab node (leaves t))))
      and_then (λ h. decides_cover h.0.0.0.0 k outputs (roots_of sheet) leaves)
      and_then (λ _. decides_every _ (λ lut. decides_itself (fits net tables (lines_of net sheet) lut)) sheet.luts)
      and_then (λ _. decides_equal sheet.depth (greatest (map lab outputs)))
      and_then (λ _. decides_equal (net.inputs + length sheet.lines) net.nodes)
      and_then (λ _. decides_itself (are_roots net.nodes net.inputs sheet.luts))
      and_then (λ _. decides_itself (is_fair net lab paths)))
      (λ ((((((((((bounded, rises), nodes), lines), cuts), cover), fit), depth), as_many), roots-test), fair-test).
      let ranked : Ranked net = ranked_by nothing rises in
      let roots : Roots net.nodes net.inputs sheet.luts = roots_rise net.nodes net.inputs sheet.luts roots-test in
      let root : (lut : Lut) → Memᴰ lut sheet.luts → is_member lut.root (roots_of sheet) ≡ true =
      λ lut m. sym (roots_listed sheet.luts lut.root) ∙ (member_listed roots lut m).listed in
      record {
        bounded = bounded;
        ranked = ranked;
        nodes = nodes;
        mappers =
            mappers_sheet
            (record {
              bounded = bounded;
              ranked = ranked;
              lines = lines;
              cuts = λ t gate. cuts t gate.below gate;
              cover = cover;
              fit = λ lut m.
                  let (same, table) = both {a = is_same_numbers lut.leaves (leaves lut.root)} (fit lut m) in
                  let at = root lut m in (
                    same_numbers lut.leaves (leaves lut.root) same,
                    subst (ConeTable net tables (leaves lut.root) lut.root) (eqb-true _ _ table)
                        (cone_table_lem net tables ranked k lut.root (leaves lut.root) (cover.cuts lut.root at) bounded.nodes (cover.gates lut.root at)),
                  );
              depth = depth;
              as_many = as_many;
              roots = roots;
              fair = fair net lab paths fair-test;
            });
      })
