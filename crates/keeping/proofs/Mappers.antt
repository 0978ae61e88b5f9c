-- The mapper's sheet keeps every rule. Its cuts are cuts and show the labels; the LUTs needed are a cover with these cuts, so each root's depth
-- is its label, and the cover's the greatest of the outputs.
use Prim.Native.Nat.{ℕ, suc, ◌-◌, ◌<◌}
use native.Mathlib.Omega.{arith}
use mathlib.Core.Path.{◌≡◌, sym, ap, ◌∙◌, subst}
use mathlib.Core.Logic.{⊎_elim}
use mathlib.Core.Bool.{true}
use mathlib.Core.List.Memᴰ
use mathlib.Core.List.{List, [], ◌∷◌, ◌++◌, map, flat_map, Memᴰ}
use Rattle.theory.specs.paper.Net.{Net, Gate, Input}
use Rattle.theory.specs.paper.Sound.{Bounded, Ranked}
use Rattle.theory.specs.paper.Walk.{Cut}
use Rattle.theory.specs.paper.Lists.{greatest}
use Rattle.theory.specs.paper.Cover.{Luts, Wanted, Cover, Depth, Depths, Label}
use Rattle.theory.specs.paper.Lookup.{ConeTable}
use Rattle.theory.proofs.Walks.{input_or_gate}
use Rattle.theory.proofs.FlowMap.{Labels, label_peaked}
use Rattle.theory.proofs.MappersCuts.{mappers_cut_is_cut, mappers_cut_shows_label}
use Rattle.theory.proofs.Depths.{Placed}
use Rattle.theory.proofs.MappersCovers.{depth_is_label, cover_depth_is_label}
use Rattle.covering.specs.paper.Needed.{Needed}
use Rattle.sheet.specs.paper.Sheet.{Lut, Sheet}
use Rattle.sheet.specs.paper.Rules.{Rule, Keeps, LabelKept, PathsKept, CoverKept, DepthKept, gate_rules, lut_rules, gates, line_of_node, labels_of, luts_of, table_listed}
use Rattle.sheet.proofs.Firsts.{from_member}
use Rattle.keeping.specs.paper.Right.{KeepsRules}
use Rattle.keeping.specs.paper.Mappers.{chosen_by, SheetWith}
use Rattle.sheet.proofs.Listed.{ListedLut, listed_lut_lem, root_gate, member_listed}
use Rattle.keeping.proofs.Listed.{label_at_input, flat_member, map_member}

module _ {Asked : (ℕ → ℕ) → ℕ → List (List ℕ) → Type 0} (net : Net) (tables : ℕ → ℕ) (k : ℕ) (outputs : List ℕ) (sheet : Sheet) (bounded : Bounded net k)
    (ranked : Ranked net) (nodes : (v : ℕ) → Memᴰ v outputs → v < net.nodes) (mapper : SheetWith Asked net tables k outputs sheet) where
  lab : ℕ → ℕ
  lab = labels_of net.inputs sheet.lines

  leaves : ℕ → List ℕ
  leaves v = (line_of_node net.inputs sheet.lines v).leaves

  luts : Luts
  luts = luts_of sheet.luts

  pub mappers_labels : Labels net k outputs (labels_of net.inputs sheet.lines)
  mappers_labels v node =
      ⊎_elim (λ (i : Input net v). subst (Label net k outputs v) (sym (label_at_input net.inputs sheet.lines v i)) (Label.input i)) (λ (gate : Gate net v). mapper.labels v gate outputs)
      (input_or_gate v node)

  mappers_cut : {t : ℕ} → Gate net t → Cut net k t (line_of_node net.inputs sheet.lines t).leaves
  mappers_cut {t} gate = mappers_cut_is_cut bounded ranked gate (mapper.cuts t gate)

  shows : {t : ℕ} → Gate net t → lab t ≡ suc (greatest (map lab (leaves t)))
  unfolding lab leaves
  shows {t} gate = mappers_cut_shows_label bounded ranked mappers_labels gate (mapper.cuts t gate)

  label_kept : {t : ℕ} → Gate net t → LabelKept net lab (leaves t) t
  unfolding lab
  label_kept {t} gate = record { shown = shows gate; near = label_peaked bounded ranked mappers_labels gate }

  -- the LUTs
  root_is_gate : {v : ℕ} → luts.root v ≡ true → Gate net v
  unfolding luts
  root_is_gate {v} root =
      let l : ListedLut sheet.luts v = listed_lut_lem sheet.luts v root in
      let (above, below) = root_gate mapper.roots l.lut l.member in
      record { above = omega (arith, l.root_is); below = omega (arith, l.root_is) }

  leaves_same : (v : ℕ) → luts.root v ≡ true → luts.leaves v ≡ leaves v
  unfolding luts leaves
  leaves_same v root = mapper.leaves v root

  needed_of : {v : ℕ} → Gate net v → Wanted outputs luts v → Needed (chosen_by net sheet.lines) outputs v
  unfolding luts leaves
  needed_of gate (Wanted.output m) = Needed.output m (record { above = gate.above; below = gate.below })
  needed_of {v} gate (Wanted.leaf r root m) =
      Needed.leaf (mapper.needed r root) (subst (Memᴰ v) (leaves_same r root) m) (record { above = gate.above; below = gate.below })

  wanted_of : {v : ℕ} → Needed (chosen_by net sheet.lines) outputs v → Wanted outputs luts v
  unfolding luts leaves
  wanted_of (Needed.output m gate) = Wanted.output m
  wanted_of {v} (Needed.leaf {r = r} needs m gate) =
      let root = mapper.all r needs in
      Wanted.leaf r root (subst (Memᴰ v) (sym (leaves_same r root)) m)

  cover_kept : {v : ℕ} → Gate net v → CoverKept outputs luts v
  unfolding luts
  cover_kept {v} gate = record { wanted = λ w. mapper.all v (needed_of gate w); root = λ root. wanted_of (mapper.needed v root) }

  root_cut : {v : ℕ} → luts.root v ≡ true → Cut net k v (luts.leaves v)
  unfolding leaves
  root_cut {v} root = subst (Cut net k v) (sym (leaves_same v root)) (mappers_cut (root_is_gate root))

  pub mappers_cover : Cover net k outputs (luts_of sheet.luts)
  unfolding luts
  mappers_cover =
      record {
        gates = λ r root. root_is_gate root;
        cuts = λ r root. root_cut root;
        closed = λ v gate wanted. (cover_kept gate).wanted wanted;
        needed = λ r root. (cover_kept (root_is_gate root)).root root;
      }

  root_shows : (r : ℕ) → luts.root r ≡ true → lab r ≡ suc (greatest (map lab (luts.leaves r)))
  root_shows r root = shows (root_is_gate root) ∙ ap (λ (l : List ℕ). suc (greatest (map lab l))) (sym (leaves_same r root))

  pub depth_kept : DepthKept net (labels_of net.inputs sheet.lines) outputs (luts_of sheet.luts) sheet.depth
  unfolding luts lab
  depth_kept =
      record {
        reached = subst (Depths net luts outputs) (sym mapper.depth) (cover_depth_is_label bounded ranked mappers_labels mappers_cover root_shows nodes);
        labelled = sym mapper.depth;
      }

  -- "depths are LUT depths": a root's is its label, and so is an input's
  pub lut_depth_is_label : {v : ℕ} → Placed net (luts_of sheet.luts) v → Depth net (luts_of sheet.luts) v (labels_of net.inputs sheet.lines v)
  unfolding luts lab
  lut_depth_is_label placed = depth_is_label bounded ranked mappers_labels mappers_cover root_shows placed

  -- a LUT of the list
  pub lut_cut_lem : (lut : Lut) → Memᴰ lut sheet.luts → Cut net k lut.root lut.leaves
  unfolding luts
  lut_cut_lem lut m =
      let stands = member_listed mapper.roots lut m in
      subst (Cut net k lut.root) stands.leaves_are (root_cut stands.listed)

  pub lut_function : (lut : Lut) → Memᴰ lut sheet.luts → ConeTable net tables lut.leaves lut.root lut.table
  lut_function lut m =
      let stands = member_listed mapper.roots lut m in
      subst (ConeTable net tables lut.leaves lut.root) stands.table_is
      (subst (λ (l : List ℕ). ConeTable net tables l lut.root (table_listed sheet.luts lut.root)) stands.leaves_are
      (mapper.functions lut.root stands.listed))

  -- every rule
  gate_of_lem : {t : ℕ} → Memᴰ t (gates net) → Gate net t
  gate_of_lem {t} m =
      let (low, high) = from_member net.inputs (net.nodes - net.inputs) t m in
      record { above = low; below = omega (arith, bounded.span) }

  Kept : Rule → Type 0
  Kept = Keeps net tables k outputs sheet

  abbrev Evident : Type 0
  Evident = (t : ℕ) → Gate net t → PathsKept net k (labels_of net.inputs sheet.lines) t (line_of_node net.inputs sheet.lines t).paths

  by_gate : Evident → {t : ℕ} → Gate net t → (r : Rule) → Memᴰ r (gate_rules net.inputs sheet.lines t) → Kept r
  unfolding Kept Keeps lab leaves
  by_gate evident {t} gate r m =
      ⊎_elim (λ (e : r ≡ _). subst (Keeps net tables k outputs sheet) (sym e) (mappers_cut gate))
      (λ (m : Memᴰ r _).
      ⊎_elim (λ (e : r ≡ _). subst (Keeps net tables k outputs sheet) (sym e) (label_kept gate))
      (λ (m : Memᴰ r _). subst (Keeps net tables k outputs sheet) (sym (Memᴰ.eq_of_singleton m)) (evident t gate)) (Memᴰ.cases_cons m))
      (Memᴰ.cases_cons m)

  by_lut : (lut : Lut) → Memᴰ lut sheet.luts → (r : Rule) → Memᴰ r (lut_rules lut) → Kept r
  unfolding Kept Keeps
  by_lut lut member r m =
      ⊎_elim (λ (e : r ≡ _). subst (Keeps net tables k outputs sheet) (sym e) (lut_cut_lem lut member))
      (λ (m : Memᴰ r _). subst (Keeps net tables k outputs sheet) (sym (Memᴰ.eq_of_singleton m)) (lut_function lut member))
      (Memᴰ.cases_cons m)

  by_cover : (r : Rule) → Memᴰ r (map Rule.cover (gates net)) → Kept r
  unfolding Kept Keeps luts
  by_cover r m =
      let (t, (member, e)) = map_member Rule.cover (gates net) m in
      subst (Keeps net tables k outputs sheet) (sym e) (cover_kept (gate_of_lem member))

  abbrev All : List Rule → Type 0
  All l = (r : Rule) → Memᴰ r l → Kept r

  both : (l m : List Rule) → All l → All m → All (l ++ m)
  both l m here there r member = ⊎_elim (here r) (there r) (Memᴰ.append_cases l member)

  by_depth : (r : Rule) → Memᴰ r (Rule.depth ∷ []) → Kept r
  unfolding Kept Keeps luts lab
  by_depth r m = subst (Keeps net tables k outputs sheet) (sym (Memᴰ.eq_of_singleton m)) depth_kept

  pub mappers_sheet_keeps : Evident → KeepsRules net tables k outputs sheet
  unfolding Kept
  mappers_sheet_keeps evident =
      let by_gates : All (flat_map (gate_rules net.inputs sheet.lines) (gates net)) =
      λ r m. let (t, (member, on)) = flat_member (gate_rules net.inputs sheet.lines) (gates net) m in by_gate evident (gate_of_lem member) r on in
      let by_luts : All (flat_map lut_rules sheet.luts) = λ r m. let (lut, (member, on)) = flat_member lut_rules sheet.luts m in by_lut lut member r on in
      let first = flat_map (gate_rules net.inputs sheet.lines) (gates net) in
      let second = flat_map lut_rules sheet.luts in
      let third = map Rule.cover (gates net) in
      both (first ++ second ++ third) (Rule.depth ∷ []) (both (first ++ second) third (both first second by_gates by_luts) by_cover) by_depth
