-- Every place that a reply names fits 32 bits: the places in a table's bytes and a sheet's are small, a gate is one of 192 nodes, a sheet of the
-- mapper's has at most 43,554 bytes, and a depth is at most 191; a text in the grammar has at most 8,192 bytes, and its table at most 4,096.
use Rattle.std.specs.Prelude.{Result, Ok}
use Prim.Native.Nat.{ℕ, ◌-◌, ◌≤◌, ◌<◌}
use native.Mathlib.Omega.{arith}
use mathlib.Core.Path.{◌≡◌, refl, ap, sym, subst}
use mathlib.Core.Logic.{⊎_elim}
use mathlib.Core.List.{List, [], ◌∷◌, ◌++◌, map, flat_map, Memᴰ}
use lib.ListN.{length, get_or}
use Rattle.theory.specs.paper.Net.{Net}
use Rattle.drawing.specs.paper.Fields.{head_k}
use Rattle.drawing.specs.paper.Table.{net_of, tables_of}
use Rattle.drawing.specs.paper.Reading.{found, table_of, nodes_of}
use Rattle.drawing.proofs.SoundTables.{table_sound}
use Rattle.drawing.proofs.Places.{refused_place}
use Rattle.taking.specs.paper.Taken.{IsTaken}
use Rattle.sheet.specs.paper.Sheet.{Lut, Sheet}
use Rattle.sheet.specs.paper.Encoding.{narrow, encode}
use Rattle.sheet.specs.paper.Shape.{reading}
use Rattle.sheet.specs.paper.Rules.{Rule, Found, FirstBroken, gate_rules, lut_rules, gates, rules_of}
use Rattle.sheet.proofs.Longest.{no_longer_than}
use Rattle.sheet.proofs.Firsts.{from_member}
use Rattle.sheet.proofs.Listed.{root_gate}
use Rattle.keeping.proofs.Listed.{flat_member, map_member}
use Rattle.keeping.proofs.Shaped.{mappers_kept}
use Rattle.keeping.proofs.Tables.{bounded, outputs_are_nodes, nodes_few, nodes_are, k_few, drawing, table_ranked}
use Rattle.mapping.specs.declared.MapError.{MapError}
use Rattle.mapping.specs.paper.Maps as mapper
use Rattle.mapping.specs.paper.Maps.{Maps, MapsTo}
use Rattle.inspecting.specs.paper.Inspecting as inspector
use Rattle.inspecting.specs.paper.Inspecting.{Inspection, Inspects, due_in, sheet_in, reply_of}
use Rattle.inspecting.proofs.Places.{fault_place, depth_most}
use Rattle.inspecting.proofs.Sound.{roots_rise}
use Rattle.grammar.specs.paper.Grammar.{System}
use Rattle.grammar.specs.paper.Names.{Misnamed}
use Rattle.grammar.specs.paper.Gates.{table_for}
use Rattle.grammar.proofs.Places.{use_placed, definition_placed, placed_inside}
use Rattle.compiling.specs.declared.CompileError.{CompileError}
use Rattle.compiling.specs.paper.Compiles as compiler
use Rattle.compiling.specs.paper.Compiles.{Typed, Drawable, Compiles}
use Rattle.compiling.proofs.Drawables.{table_within, table_fits}
use Rattle.plover.specs.paper.Words.{half}

sheet_length : (s : List ℕ) (sheet : Sheet) → IsTaken s → MapsTo s sheet → length (encode narrow sheet) ≤ 43554
sheet_length s sheet taken to =
    let whole = taken.whole in
    let free = taken.no_loop in
    no_longer_than (drawing s whole free)
    (mappers_kept (net_of (table_of s)) (tables_of (table_of s)) (head_k s) (found s).outputs sheet (drawing s whole free) (table_ranked s whole free)
    (outputs_are_nodes s whole) to)
    (k_few s whole) (nodes_few s whole)

pub map_place : (s before : List ℕ) (r : Result ℕ MapError) (after : List ℕ) → Maps s before r after → mapper.place r < half
map_place s before r after (Maps.refused e is same) = omega (arith, refused_place s e, ap mapper.place is)
map_place s before r after (Maps.loop e l is same) = omega (arith, l.gate.below, nodes_few s e, ap mapper.place is)
map_place s before r after (Maps.room taken short is same) = omega (arith, ap mapper.place is)
map_place s before r after (Maps.mapped sheet taken long to is same) = omega (arith, sheet_length s sheet taken to, ap mapper.place is)

-- the first rule that is broken is one of the list
broken_member : {Kept : Rule → Type 0} {rules : List Rule} {r : Rule} → FirstBroken Kept rules (Found.broken r) → Memᴰ r rules
broken_member (FirstBroken.here none) = mathlib.Core.List.Memᴰ.head refl
broken_member (FirstBroken.later kept rest) = mathlib.Core.List.Memᴰ.tail (broken_member rest)

-- the place that names a rule
abbrev rule_place : Rule → ℕ
rule_place r = inspector.place (reply_of 0 (Found.broken r))

-- the rules of a sheet are tried at nodes
module _ (net : Net) (sheet : Sheet) (span : net.inputs ≤ net.nodes) (roots : (lut : Lut) → Memᴰ lut sheet.luts → lut.root < net.nodes) where
  abbrev Low : Rule → Type 0
  Low r = rule_place r ≤ net.nodes

  abbrev AllLow : List Rule → Type 0
  AllLow rules = (r : Rule) → Memᴰ r rules → Low r

  gate_low : {t : ℕ} → Memᴰ t (gates net) → t ≤ net.nodes
  gate_low {t} m = let (low, high) = from_member net.inputs (net.nodes - net.inputs) t m in omega (arith, high, span)

  by_gate : {t : ℕ} → t ≤ net.nodes → AllLow (gate_rules net.inputs sheet.lines t)
  by_gate low r m =
      ⊎_elim (λ (e : r ≡ _). subst Low (sym e) low)
      (λ (m : Memᴰ r _).
      ⊎_elim (λ (e : r ≡ _). subst Low (sym e) low) (λ (m : Memᴰ r _). subst Low (sym (mathlib.Core.List.Memᴰ.eq_of_singleton m)) low) (mathlib.Core.List.Memᴰ.cases_cons m))
      (mathlib.Core.List.Memᴰ.cases_cons m)

  by_lut : (lut : Lut) → lut.root ≤ net.nodes → AllLow (lut_rules lut)
  by_lut lut low r m =
      ⊎_elim (λ (e : r ≡ _). subst Low (sym e) low) (λ (m : Memᴰ r _). subst Low (sym (mathlib.Core.List.Memᴰ.eq_of_singleton m)) low) (mathlib.Core.List.Memᴰ.cases_cons m)

  both : (l m : List Rule) → AllLow l → AllLow m → AllLow (l ++ m)
  both l m here there r member = ⊎_elim (here r) (there r) (mathlib.Core.List.Memᴰ.append_cases l member)

  rules_low : AllLow (rules_of net sheet)
  rules_low =
      let first = flat_map (gate_rules net.inputs sheet.lines) (gates net) in
      let second = flat_map lut_rules sheet.luts in
      let third = map Rule.cover (gates net) in
      let by_gates : AllLow first =
      λ r m. let (t, (member, on)) = flat_member (gate_rules net.inputs sheet.lines) (gates net) m in by_gate (gate_low member) r on in
      let by_luts : AllLow second = λ r m. let (lut, (member, on)) = flat_member lut_rules sheet.luts m in by_lut lut (omega (arith, roots lut member)) r on in
      let by_cover : AllLow third = λ r m. let (t, (member, e)) = map_member Rule.cover (gates net) m in subst Low (sym e) (gate_low member) in
      let by_depth : AllLow (Rule.depth ∷ []) = λ r m. subst Low (sym (mathlib.Core.List.Memᴰ.eq_of_singleton m)) (omega arith) in
      both (first ++ second ++ third) (Rule.depth ∷ []) (both (first ++ second) third (both first second by_gates by_luts) by_cover) by_depth

reply_place : (depth : ℕ) (x : Found) → depth ≤ 191 → ((r : Rule) → x ≡ Found.broken r → rule_place r ≤ 192) → inspector.place (reply_of depth x) < half
reply_place depth Found.none low broken = omega (arith, low)
reply_place depth (Found.broken (Rule.cut gate leaves)) low broken = omega (arith, broken _ refl)
reply_place depth (Found.broken (Rule.label gate)) low broken = omega (arith, broken _ refl)
reply_place depth (Found.broken (Rule.paths gate)) low broken = omega (arith, broken _ refl)
reply_place depth (Found.broken (Rule.function lut)) low broken = omega (arith, broken _ refl)
reply_place depth (Found.broken (Rule.cover gate)) low broken = omega (arith, broken _ refl)
reply_place depth (Found.broken Rule.depth) low broken = omega arith

module _ (s t : List ℕ) (bytes : (i : ℕ) → get_or t i 0 < 256) where
  few : (found s).verdict ≡ Ok tt → nodes_of s ≤ 192
  few whole = (table_sound s whole).head.nodes_most

  broken_low : IsTaken s → (reading (due_in s) t).ruling ≡ Ok tt → {Kept : Rule → Type 0} (x : Found) →
      FirstBroken Kept (rules_of (net_of (table_of s)) (sheet_in s t)) x → (r : Rule) → x ≡ Found.broken r → rule_place r ≤ 192
  broken_low d sound {Kept} x first r e =
      let net = net_of (table_of s) in
      let roots : (lut : Lut) → Memᴰ lut (sheet_in s t).luts → lut.root < net.nodes =
      λ lut m. omega (arith, (root_gate (roots_rise (due_in s) t sound) lut m).1, nodes_are s d.whole) in
      let member : Memᴰ r (rules_of net (sheet_in s t)) = broken_member (subst (FirstBroken Kept (rules_of net (sheet_in s t))) e first) in
      omega (arith, rules_low net (sheet_in s t) (bounded s d.whole).span roots r member, nodes_few s d.whole)

  pub inspect_place : (r : Inspection) → Inspects s t r → inspector.place r < half
  inspect_place r (Inspects.refused e) = omega (arith, refused_place s e)
  inspect_place r (Inspects.loop e l) = omega (arith, l.gate.below, nodes_few s e)
  inspect_place r (Inspects.faulty d e) = omega (arith, fault_place (due_in s) t bytes (omega (arith, few d.whole)) e)
  inspect_place r (Inspects.ruled {x = x} d sound first) = reply_place (sheet_in s t).depth x (depth_most (due_in s) t sound) (broken_low d sound x first)

-- The replies to a text of equations: a name stands inside the text, and a gate is a node of its table

misnamed_inside : {s : List ℕ} {sys : System} {p : ℕ} → Typed s sys → Misnamed s sys p → p ≤ 8192
misnamed_inside typed (Misnamed.undefined used none) = omega (arith, placed_inside (use_placed typed.well_formed used), typed.short)
misnamed_inside typed (Misnamed.again d defined earlier less same) = omega (arith, placed_inside (definition_placed typed.well_formed defined), typed.short)

table_nodes : {s : List ℕ} {k : ℕ} {sys : System} → Drawable s k sys → (net_of (table_for s k sys)).nodes ≤ 192
unfolding net_of
table_nodes drawable = (table_within drawable.typed drawable.numbers).nodes_most

pub equations_place : {s : List ℕ} {k : ℕ} {before : List ℕ} (r : Result ℕ CompileError) {after : List ℕ} → Compiles s k before r after → compiler.place r < half
equations_place r (Compiles.long over is same) = omega (arith, ap compiler.place is)
equations_place r (Compiles.ungrammatical short none longest is same) = omega (arith, ap compiler.place is, longest.shared.within)
equations_place r (Compiles.misnamed typed first is same) = omega (arith, ap compiler.place is, misnamed_inside typed first.misnamed)
equations_place r (Compiles.outside typed named out is same) = omega (arith, ap compiler.place is)
equations_place r (Compiles.loop drawable lowest is same) = omega (arith, ap compiler.place is, lowest.gate.below, table_nodes drawable)
equations_place r (Compiles.room drawable none short is same) = omega (arith, ap compiler.place is)
equations_place r (Compiles.compiled drawable none long is same) =
    omega (arith, ap compiler.place is, table_fits drawable.typed drawable.numbers)
