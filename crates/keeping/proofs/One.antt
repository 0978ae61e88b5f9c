-- Two mapper's sheets of one drawing differ in their evidence at most: labels are one, the mapper's cuts are one, so the same gates are needed,
-- and a list of LUTs whose roots rise is settled by what it lists.
use Prim.Native.Nat.{ℕ, suc, ◌+◌, ◌-◌, ◌≤◌, ◌<◌}
use native.Mathlib.Omega.{arith}
use native.Mathlib.Decide.{ℕ_discrete, dec_lt}
use mathlib.Core.Path.{◌≡◌, refl, sym, ap, ◌∙◌, subst}
use mathlib.Core.Logic.{◌⊎◌, inl, inr, ⊎_elim}
use mathlib.Core.Bool.{Bool, true, false, cond, ◌||◌, false≢true}
use mathlib.Mathlib.Data.Bool.Basic.{eq-false_of_not-eq-true}
use mathlib.Core.List.Memᴰ
use mathlib.Core.List.{List, [], ◌∷◌, map, Memᴰ}
use borrow.Author.Tests.{lt-ltb, le-ltb, ne_eqb}
use lib.ListN.{length, get_or, get_or-eq_default}
use lib.Dec.{eqb}
use Rattle.theory.specs.paper.Net.{Net, Gate}
use Rattle.theory.specs.paper.Sound.{Bounded, Ranked}
use Rattle.theory.specs.paper.Lists.{greatest}
use Rattle.theory.specs.paper.Evidence.{MappersCut}
use Rattle.theory.specs.paper.Lookup.{ConeTable}
use Rattle.theory.proofs.Labels.{label_is_one}
use Rattle.theory.proofs.MappersCuts.{mappers_cut_is_one}
use Rattle.theory.proofs.MappersCovers.{same_test}
use Rattle.theory.proofs.Cones.{cone_table_only}
use Rattle.covering.specs.paper.Needed.{Needed}
use Rattle.sheet.specs.paper.Sheet.{Line, Lut, Sheet, Roots, no_line}
use Rattle.sheet.specs.paper.Rules.{line_of_node, labels_of, is_listed, leaves_listed, table_listed}
use Rattle.drawing.specs.paper.Table.{Table}
use Rattle.keeping.specs.paper.Mappers.{chosen_by, SheetWith}
use Rattle.keeping.specs.paper.Same.{SameButEvidence}
use Rattle.keeping.specs.paper.Printed.{listed_lut, listed_output, mapping_of}
use Rattle.sheet.proofs.Listed.{ListedLut, listed_lut_lem, root_gate, Listed, member_listed}
use Rattle.keeping.proofs.Mappers.{mappers_cover}

-- Lists of LUTs

-- a root below all others is not listed
below_roots : {nodes least : ℕ} {luts : List Lut} → Roots nodes least luts → {v : ℕ} → v < least → is_listed luts v ≡ false
below_roots {luts = luts} roots {v} low =
    eq-false_of_not-eq-true (λ listed.
    let l = listed_lut_lem luts v listed in
    let (above, below) = root_gate roots l.lut l.member in
    let e = l.root_is in
    omega arith)

pub record SameListed (l m : List Lut) : Type 0 where
  pub roots_same : (v : ℕ) → is_listed l v ≡ is_listed m v
  pub leaves_same : (v : ℕ) → is_listed l v ≡ true → leaves_listed l v ≡ leaves_listed m v
  pub tables_same : (v : ℕ) → is_listed l v ≡ true → table_listed l v ≡ table_listed m v

-- the first root is the least
first_below : {nodes least : ℕ} {a : Lut} {l : List Lut} → Roots nodes least (a ∷ l) → (lut : Lut) → Memᴰ lut (a ∷ l) → a.root ≤ lut.root
first_below {a = a} {l = l} (Roots.more low high rest) lut m = ⊎_elim (λ (e : lut ≡ a). let f = ap (λ (x : Lut). x.root) e in omega arith) later (Memᴰ.cases_cons m)
  where
    later : Memᴰ lut l → a.root ≤ lut.root
    later t = let (above, below) = root_gate rest lut t in omega arith

-- the first roots are the same, so the LUTs are
module _ {nodes least : ℕ} {a b : Lut} {l m : List Lut} (roots : Roots nodes least (a ∷ l)) (others : Roots nodes least (b ∷ m)) (same : SameListed (a ∷ l) (b ∷ m)) where
  head_stands : Listed (a ∷ l) a
  head_stands = member_listed roots a (Memᴰ.head refl)

  other_stands : Listed (b ∷ m) b
  other_stands = member_listed others b (Memᴰ.head refl)

  heads_root : a.root ≡ b.root
  heads_root =
      let there : ListedLut (b ∷ m) a.root = listed_lut_lem (b ∷ m) a.root (sym (same.roots_same a.root) ∙ head_stands.listed) in
      let back : ListedLut (a ∷ l) b.root = listed_lut_lem (a ∷ l) b.root (same.roots_same b.root ∙ other_stands.listed) in
      let e = there.root_is in
      let f = back.root_is in
      omega (arith, first_below others there.lut there.member, first_below roots back.lut back.member)

  heads_same : a ≡ b
  heads_same =
      let e : a.root ≡ b.root = heads_root in
      let leaves : a.leaves ≡ b.leaves =
      sym head_stands.leaves_are ∙ same.leaves_same a.root head_stands.listed ∙ ap (leaves_listed (b ∷ m)) e ∙ other_stands.leaves_are in
      let table : a.table ≡ b.table =
      sym head_stands.table_is ∙ same.tables_same a.root head_stands.listed ∙ ap (table_listed (b ∷ m)) e ∙ other_stands.table_is in
      λ i. record { root = e i; leaves = leaves i; table = table i }

-- what the rest lists, where the first LUTs are one
rest_same : {nodes least : ℕ} {a : Lut} {l m : List Lut} → Roots nodes least (a ∷ l) → Roots nodes least (a ∷ m) → SameListed (a ∷ l) (a ∷ m) → SameListed l m
unfolding is_listed leaves_listed table_listed
rest_same {a = a} {l = l} {m = m} (Roots.more low high rest) (Roots.more low' high' rest') same =
    record { roots_same = λ v. at_root v (ℕ_discrete a.root v); leaves_same = leaves; tables_same = tables }
  where
    at_root : (v : ℕ) → Dec (a.root ≡ v) → is_listed l v ≡ is_listed m v
    at_root v (yes e) = below_roots rest (omega arith) ∙ sym (below_roots rest' (omega arith))
    at_root v (no other) =
        let off = ne_eqb a.root v other in
        sym (ap (λ (b : Bool). b || is_listed l v) off) ∙ same.roots_same v ∙ ap (λ (b : Bool). b || is_listed m v) off

    apart : (v : ℕ) → is_listed l v ≡ true → a.root ≡ v → ⊥
    apart v listed e = false≢true (sym (below_roots rest (omega arith)) ∙ listed)

    still : (v : ℕ) → eqb a.root v ≡ false → is_listed l v ≡ true → is_listed (a ∷ l) v ≡ true
    still v off listed = ap (λ (b : Bool). b || is_listed l v) off ∙ listed

    leaves : (v : ℕ) → is_listed l v ≡ true → leaves_listed l v ≡ leaves_listed m v
    leaves v listed =
        let off = ne_eqb a.root v (apart v listed) in
        sym (ap (λ (b : Bool). cond b a.leaves (leaves_listed l v)) off) ∙ same.leaves_same v (still v off listed)
        ∙ ap (λ (b : Bool). cond b a.leaves (leaves_listed m v)) off

    tables : (v : ℕ) → is_listed l v ≡ true → table_listed l v ≡ table_listed m v
    tables v listed =
        let off = ne_eqb a.root v (apart v listed) in
        sym (ap (λ (b : Bool). cond b a.table (table_listed l v)) off) ∙ same.tables_same v (still v off listed)
        ∙ ap (λ (b : Bool). cond b a.table (table_listed m v)) off

roots_later : {nodes least : ℕ} {a : Lut} {l : List Lut} → Roots nodes least (a ∷ l) → Roots nodes (suc a.root) l
roots_later (Roots.more low high rest) = rest

pub luts_one : {nodes least : ℕ} (l m : List Lut) → Roots nodes least l → Roots nodes least m → SameListed l m → l ≡ m
unfolding is_listed
luts_one [] [] roots others same = refl
luts_one [] (b ∷ m) roots others same = absurd (false≢true (same.roots_same b.root ∙ (member_listed others b (Memᴰ.head refl)).listed))
luts_one (a ∷ l) [] roots others same = absurd (false≢true (sym (same.roots_same a.root) ∙ (member_listed roots a (Memᴰ.head refl)).listed))
luts_one {nodes} {least} (a ∷ l) (b ∷ m) roots others same =
    let e : b ≡ a = sym (heads_same roots others same) in
    let others' : Roots nodes least (a ∷ m) = subst (λ (x : Lut). Roots nodes least (x ∷ m)) e others in
    let same' : SameListed (a ∷ l) (a ∷ m) = subst (λ (x : Lut). SameListed (a ∷ l) (x ∷ m)) e same in
    let rest : l ≡ m = luts_one l m (roots_later roots) (roots_later others') (rest_same roots others' same') in
    λ i. sym e i ∷ rest i

-- Sheets

-- a node that is no gate has no line
no_line_lem : (inputs : ℕ) (lines : List Line) (v : ℕ) → (v < inputs) ⊎ (inputs + length lines ≤ v) → line_of_node inputs lines v ≡ no_line
unfolding line_of_node
no_line_lem inputs lines v (inl low) = ap (λ (b : Bool). cond b no_line (get_or lines (v - inputs) no_line)) (lt-ltb v inputs low)
no_line_lem inputs lines v (inr high) =
    ap (λ (b : Bool). cond b no_line (get_or lines (v - inputs) no_line)) (le-ltb v inputs (omega arith)) ∙ get_or-eq_default lines no_line (omega arith)

module _ {Asked Other : (ℕ → ℕ) → ℕ → List (List ℕ) → Type 0} (net : Net) (tables : ℕ → ℕ) (k : ℕ) (outputs : List ℕ) (a b : Sheet) (bounded : Bounded net k)
    (ranked : Ranked net) (nodes : (v : ℕ) → Memᴰ v outputs → v < net.nodes) (mapper : SheetWith Asked net tables k outputs a)
    (other : SheetWith Other net tables k outputs b) where
  -- of every node, from what holds of gates
  data Kind (v : ℕ) : Type 0 where
    gate : Gate net v → Kind v
    none : (v < net.inputs) ⊎ (net.nodes ≤ v) → Kind v

  kind : (v : ℕ) → Kind v
  kind v = by (dec_lt v net.inputs) (dec_lt v net.nodes)
    where
      by : Dec (v < net.inputs) → Dec (v < net.nodes) → Kind v
      by (yes low) _ = Kind.none (inl low)
      by (no high) (yes low) = Kind.gate (record { above = omega (arith, high); below = low })
      by (no _) (no high) = Kind.none (inr (omega (arith, high)))

  both_none : {v : ℕ} → (v < net.inputs) ⊎ (net.nodes ≤ v) → line_of_node net.inputs a.lines v ≡ line_of_node net.inputs b.lines v
  both_none {v} out =
      no_line_lem net.inputs a.lines v (⊎_elim inl (λ high. inr (omega (arith, mapper.gates))) out)
      ∙ sym (no_line_lem net.inputs b.lines v (⊎_elim inl (λ high. inr (omega (arith, other.gates))) out))

  label_one : (v : ℕ) → labels_of net.inputs a.lines v ≡ labels_of net.inputs b.lines v
  label_one v = by (kind v)
    where
      by : Kind v → labels_of net.inputs a.lines v ≡ labels_of net.inputs b.lines v
      by (Kind.gate g) = label_is_one (mapper.labels v g outputs) (other.labels v g outputs)
      by (Kind.none out) = ap (λ (l : Line). l.label) (both_none out)

  labels_one : labels_of net.inputs a.lines ≡ labels_of net.inputs b.lines
  labels_one i v = label_one v i

  leaves_one : (v : ℕ) → (line_of_node net.inputs a.lines v).leaves ≡ (line_of_node net.inputs b.lines v).leaves
  leaves_one v = by (kind v)
    where
      by : Kind v → (line_of_node net.inputs a.lines v).leaves ≡ (line_of_node net.inputs b.lines v).leaves
      by (Kind.gate g) =
          mappers_cut_is_one bounded ranked g
          (subst (λ (lab : ℕ → ℕ). MappersCut net k lab v (line_of_node net.inputs a.lines v).leaves) labels_one (mapper.cuts v g)) (other.cuts v g)
      by (Kind.none out) = ap (λ (l : Line). l.leaves) (both_none out)

  chosen_one : chosen_by net a.lines ≡ chosen_by net b.lines
  chosen_one i = record { inputs = net.inputs; nodes = net.nodes; fanins = λ v. leaves_one v i }

  roots_one : (v : ℕ) → is_listed a.luts v ≡ is_listed b.luts v
  roots_one v =
      same_test (is_listed a.luts v) (is_listed b.luts v)
      (λ listed. other.all v (subst (λ (c : Net). Needed c outputs v) chosen_one (mapper.needed v listed)))
      (λ listed. mapper.all v (subst (λ (c : Net). Needed c outputs v) (sym chosen_one) (other.needed v listed)))

  listed_leaves_one : (v : ℕ) → is_listed a.luts v ≡ true → leaves_listed a.luts v ≡ leaves_listed b.luts v
  listed_leaves_one v listed = mapper.leaves v listed ∙ leaves_one v ∙ sym (other.leaves v (sym (roots_one v) ∙ listed))

  tables_one : (v : ℕ) → is_listed a.luts v ≡ true → table_listed a.luts v ≡ table_listed b.luts v
  tables_one v listed =
      cone_table_only net tables ranked k v (leaves_listed a.luts v) ((mappers_cover net tables k outputs a bounded ranked nodes mapper).cuts v listed)
      (table_listed a.luts v) (table_listed b.luts v) (mapper.functions v listed)
      (subst (λ (l : List ℕ). ConeTable net tables l v (table_listed b.luts v)) (sym (listed_leaves_one v listed)) (other.functions v (sym (roots_one v) ∙ listed)))

  pub mappers_sheet_is_one : SameButEvidence net.inputs a b
  mappers_sheet_is_one =
      record {
        depth_same = mapper.depth ∙ ap (λ (lab : ℕ → ℕ). greatest (map lab outputs)) labels_one ∙ sym other.depth;
        count_same = omega (arith, mapper.gates, other.gates);
        lines_same = λ v. record { label_same = label_one v; leaves_same = leaves_one v };
        luts_same =
            luts_one a.luts b.luts mapper.roots other.roots
            (record { roots_same = roots_one; leaves_same = listed_leaves_one; tables_same = tables_one });
      }

-- two sheets that differ in their evidence at most are listed alike
pub mapping_one : (table : Table) (a b : Sheet) → SameButEvidence table.inputs a b → mapping_of table a ≡ mapping_of table b
mapping_one table a b same =
    let labels : labels_of table.inputs a.lines ≡ labels_of table.inputs b.lines = λ i v. (same.lines_same v).label_same i in
    λ i. record {
      k = table.k;
      inputs = table.inputs;
      gates = length table.gates;
      luts = map (listed_lut (labels i)) (same.luts_same i);
      depth = same.depth_same i;
      outputs = map (listed_output (labels i)) table.outputs;
    }
