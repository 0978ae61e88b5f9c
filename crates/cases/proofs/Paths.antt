-- Evidence where every gate behind is in D: each path is one input, since a second node would be a gate outside D. So every mapper's sheet of such a
-- drawing has as many paths as any other, and as many bytes.
use Prim.Native.Nat.{ℕ, suc, ◌+◌, ◌<◌}
use native.Mathlib.Omega.{arith}
use mathlib.Core.Path.{◌≡◌, refl, sym, ap, ◌∙◌, subst}
use mathlib.Core.List.{List, [], ◌∷◌, flat_map, Memᴰ}
use lib.ListN.{length, get_or, length-append}
use Rattle.theory.specs.paper.Net.{Net, Gate}
use Rattle.theory.specs.paper.Sound.{Bounded, Ranked}
use Rattle.theory.specs.paper.Evidence.{InD, Run, TruePath, Owes, joined}
use Rattle.theory.proofs.Tests.{decided}
use Rattle.theory.proofs.Walks.{met_node, reader_is_gate}
use Rattle.sheet.specs.paper.Sheet.{Line, Lut, Sheet, no_line}
use Rattle.sheet.specs.paper.Encoding.{narrow, encode, head_field, line_field, lut_field}
use Rattle.sheet.specs.paper.Rules.{line_of_node, labels_of, PathsKept}
use Rattle.sheet.proofs.Lengths.{length_three, length_head, length_line}
use Rattle.keeping.specs.paper.Mappers.{MappersSheet}
use Rattle.keeping.specs.paper.Same.{SameButEvidence}
use Rattle.keeping.proofs.One.{mappers_sheet_is_one}
use Rattle.keeping.proofs.Shaped.{line_at}
use Rattle.cases.specs.paper.Cases.{OneInput, SingleInputs}
use Rattle.cases.proofs.Tests.{decides_owing, Deep}

-- a path's second node has a fanin
second_fed : {net : Net} {lab : ℕ → ℕ} {t u v : ℕ} {vs : List ℕ} → Run net lab t (u ∷ v ∷ vs) → Memᴰ u (net.fanins v)
second_fed (Run.more m run) = m

module _ {net : Net} {k : ℕ} {lab : ℕ → ℕ} {t : ℕ} (bounded : Bounded net k) (deep : Deep net lab) (gate : Gate net t) (owes : Owes net lab t) where
  true_path_single : {path : List ℕ} → TruePath net lab t path → OneInput net.inputs path
  true_path_single {path} proven = by proven.rest proven.whole (subst (Run net lab t) proven.whole proven.runs)
    where
      by : (rest : List ℕ) → path ≡ proven.first ∷ rest → Run net lab t (proven.first ∷ rest) → OneInput net.inputs path
      by [] whole run = (proven.first, proven.starts, whole)
      by (v ∷ vs) whole run =
          let on : Memᴰ v path = subst (Memᴰ v) (sym whole) (mathlib.Core.List.Memᴰ.tail (mathlib.Core.List.Memᴰ.head refl)) in
          let behind = proven.behind v on in
          let second : Gate net v = reader_is_gate bounded (met_node bounded gate.below behind) (second_fed run) in
          absurd (proven.outside v on (InD.behind second behind (deep t gate owes v second behind)))

singles_joined : {inputs : ℕ} (paths : List (List ℕ)) → ((path : List ℕ) → Memᴰ path paths → OneInput inputs path) → length (joined paths) ≡ length paths
unfolding joined
singles_joined [] single = refl
singles_joined (path ∷ paths) single =
    let (v, _, e) = single path (mathlib.Core.List.Memᴰ.head refl) in
    omega (arith, length-append path (joined paths), ap (λ (l : List ℕ). length l) e, singles_joined paths (λ other m. single other (mathlib.Core.List.Memᴰ.tail m)))

flat_as_long : {A : Type 0} (f : A → List ℕ) (d : A) (xs ys : List A) → length xs ≡ length ys →
    ((i : ℕ) → i < length xs → length (f (get_or xs i d)) ≡ length (f (get_or ys i d))) → length (flat_map f xs) ≡ length (flat_map f ys)
unfolding flat_map
flat_as_long f d [] [] size each = refl
flat_as_long f d [] (y ∷ ys) size each = absurd (omega arith)
flat_as_long f d (x ∷ xs) [] size each = absurd (omega arith)
flat_as_long f d (x ∷ xs) (y ∷ ys) size each =
    omega (
      arith,
      length-append (f x) (flat_map f xs),
      length-append (f y) (flat_map f ys),
      each 0 (omega arith),
      flat_as_long f d xs ys (omega arith) (λ i h. each (suc i) (omega arith)),
    )

module _ (net : Net) (tables : ℕ → ℕ) (k : ℕ) (outputs : List ℕ) (bounded : Bounded net k) (ranked : Ranked net)
    (nodes : (v : ℕ) → Memᴰ v outputs → v < net.nodes) where
  module _ (a b : Sheet) (mapper : MappersSheet net tables k outputs a) (other : MappersSheet net tables k outputs b)
      (deep : Deep net (labels_of net.inputs a.lines)) where
    same : SameButEvidence net.inputs a b
    same = mappers_sheet_is_one net tables k outputs a b bounded ranked nodes mapper other

    abbrev lab : ℕ → ℕ
    lab = labels_of net.inputs a.lines

    abbrev paths : Sheet → ℕ → List (List ℕ)
    paths sheet v = (line_of_node net.inputs sheet.lines v).paths

    labels_one : lab ≡ labels_of net.inputs b.lines
    labels_one i v = (same.lines_same v).label_same i

    pub single_inputs : (v : ℕ) → Gate net v → SingleInputs net.inputs (line_of_node net.inputs a.lines v).paths (line_of_node net.inputs b.lines v).paths
    single_inputs v gate = by (decided (decides_owing net lab v))
      where
        kept : PathsKept net k lab v (paths b v)
        kept = subst (λ (l : ℕ → ℕ). PathsKept net k l v (paths b v)) (sym labels_one) (other.evidence v gate)

        by : Dec (Owes net lab v) → SingleInputs net.inputs (paths a v) (paths b v)
        by (yes owes) =
            record {
              as_many = ((mapper.evidence v gate).due owes).count ∙ sym (kept.due owes).count;
              single = λ path m. true_path_single bounded deep gate owes ((kept.due owes).each path m);
            }
        by (no not-owed) =
            let none : paths b v ≡ [] = kept.not_due not-owed in
            record {
              as_many = ap length ((mapper.evidence v gate).not_due not-owed ∙ sym none);
              single = λ path m. absurd (mathlib.Core.List.Memᴰ.not-nil (subst (Memᴰ path) none m));
            }

  module _ (a b : Sheet) (mapper : MappersSheet net tables k outputs a) (other : MappersSheet net tables k outputs b)
      (deep : Deep net (labels_of net.inputs a.lines)) where
    line_as_long : (v : ℕ) → Gate net v →
        length (line_field narrow (line_of_node net.inputs a.lines v)) ≡ length (line_field narrow (line_of_node net.inputs b.lines v))
    line_as_long v gate =
        let line = line_of_node net.inputs a.lines v in
        let line' = line_of_node net.inputs b.lines v in
        let own = single_inputs a a mapper mapper deep v gate in
        let its = single_inputs a b mapper other deep v gate in
        omega (
          arith,
          length_line narrow line,
          length_line narrow line',
          ap (λ (l : List ℕ). length l) ((mappers_sheet_is_one net tables k outputs a b bounded ranked nodes mapper other).lines_same v).leaves_same,
          its.as_many,
          singles_joined line.paths own.single,
          singles_joined line'.paths its.single,
        )

    pub sheets_as_long : length (encode narrow a) ≡ length (encode narrow b)
    unfolding encode
    sheets_as_long =
        let same = mappers_sheet_is_one net tables k outputs a b bounded ranked nodes mapper other in
        let lines : length (flat_map (line_field narrow) a.lines) ≡ length (flat_map (line_field narrow) b.lines) =
        flat_as_long (line_field narrow) no_line a.lines b.lines same.count_same (λ i inside.
        subst (λ (l : Line). length (line_field narrow l) ≡ length (line_field narrow (get_or b.lines i no_line))) (line_at net.inputs a.lines i)
        (subst (λ (l : Line). length (line_field narrow (line_of_node net.inputs a.lines (net.inputs + i))) ≡ length (line_field narrow l))
        (line_at net.inputs b.lines i)
        (line_as_long (net.inputs + i) (record { above = omega arith; below = omega (arith, mapper.gates) })))) in
        omega (
          arith,
          length_three (head_field narrow a.depth (length a.luts)) (flat_map (line_field narrow) a.lines) (flat_map (lut_field narrow) a.luts),
          length_three (head_field narrow b.depth (length b.luts)) (flat_map (line_field narrow) b.lines) (flat_map (lut_field narrow) b.luts),
          length_head narrow a.depth (length a.luts),
          length_head narrow b.depth (length b.luts),
          lines,
          ap (λ (l : List Lut). length (flat_map (lut_field narrow) l)) same.luts_same,
        )
