-- A loaded sheet is held as the later passes ask, and there is one way to load it.
use Rattle.std.specs.Prelude.{Ok}
use Prim.Native.Nat.{ℕ, zero, suc, ◌+◌, ◌*◌, ◌-◌, ◌/◌, ◌%◌, ◌<◌, ◌≤◌}
use native.Mathlib.Decide.{dec_lt}
use native.Mathlib.Omega.{arith}
use mathlib.Core.Path.{◌≡◌, ap, sym, ◌∙◌}
use mathlib.Core.Bool.{Bool, true, false, not, ◌||◌, cond}
use mathlib.Core.List.{List}
use borrow.Author.Tests.{ltb-false}
use lib.ListN.{length, get_or}
use lib.Seq.{ext_get_or}
use lib.Dec.{ltb, leb, eqb}
use Rattle.theory.specs.paper.Evidence.{joined}
use Rattle.storage.specs.Lists.{size_at, list_at}
use Rattle.storage.proofs.InLists.{list_size, list_entry}
use Rattle.drawing.specs.paper.Bytes.{some_from}
use Rattle.sheet.specs.paper.Sheet.{Line, Lut, Sheet}
use Rattle.sheet.specs.paper.Shape.{Due, end_at, rising, some_empty, leaves_range, line_range, lut_range, line_at, lut_at, line_ruling, lut_ruling, count_at, luts_from, reading}
use Rattle.sheet.specs.paper.Rules.{line_of_node, leaves_listed}
use Rattle.sheet.specs.Arrays.{HoldsLines, HoldsPlaces, HoldsLuts}
use Rattle.shaping.specs.Loading.{Filled, counted, sevens, start_of, LineArrays, line_arrays, LineRoom, LutArrays, lut_arrays, LutRoom, Loadable, Loaded}
use Rattle.shaping.proofs.Values.{or_none}
use Rattle.shaping.proofs.FieldRuns.{line_kept, lut_kept}
use Rattle.shaping.proofs.Filling.{filled_one}
use Rattle.shaping.proofs.Found.{first_sound, rest_sound, all_read, the_lines, Whole, whole, input_line, gate_place, GateFound, gate_found}

-- the seven places of a node hold its list
seven_at : {before a : List ℕ} {nodes : ℕ} (g : ℕ → List ℕ) → Filled before 0 (7 * nodes) (sevens g) a → (v i : ℕ) → v < nodes → i < 7 →
    get_or a (7 * v + i) 0 ≡ get_or (counted (g v)) i 0
seven_at g filled v i node place =
    let same : (7 * v + i) / 7 ≡ v = omega (arith, place) in
    let rest : (7 * v + i) % 7 ≡ i = omega (arith, place) in
    filled.filled (7 * v + i) (omega arith) (omega (arith, node, place)) ∙ (λ j. get_or (counted (g (same j))) (rest j) 0)

module _ {before a : List ℕ} {nodes : ℕ} (g : ℕ → List ℕ) (filled : Filled before 0 (7 * nodes) (sevens g) a) (long : 7 * nodes ≤ length a)
    (v : ℕ) (node : v < nodes) (few : length (g v) ≤ 6) where
  size_held : size_at a v ≡ length (g v)
  size_held = ap (λ (i : ℕ). get_or a i 0) (omega arith) ∙ seven_at g filled v 0 node (omega arith)

  list_held : list_at a v ≡ g v
  list_held =
      let six : size_at a v ≤ 6 = omega (arith, size_held) in
      let size : length (list_at a v) ≡ length (g v) = list_size a v (omega arith) six ∙ size_held in
      ext_get_or 0 (list_at a v) (g v) size
      (λ i less.
      let low : i < size_at a v = omega (arith, size, size_held) in
      list_entry a v (omega arith) six i low
      ∙ ap (λ (j : ℕ). get_or a j 0) (omega arith)
      ∙ seven_at g filled v (suc i) node (omega arith))

leaves_few : (due : Due) (vs : List ℕ) → leaves_range due vs ≡ false → length vs ≤ due.k
leaves_few due vs ranged =
    let more = or_none (ltb (length vs) 1) (ltb due.k (length vs) || (not (rising vs) || some_from due.nodes vs)) ranged in
    ltb-false due.k (length vs) (or_none (ltb due.k (length vs)) (not (rising vs) || some_from due.nodes vs) more.1).0

line_few : (due : Due) (line : Line) → line_range due line ≡ false → length line.leaves ≤ due.k
line_few due line ranged =
    let paths = line.paths in
    let rest = not (eqb (length paths) 0 || eqb (length paths) (due.k + 1)) || (some_empty paths || some_from due.nodes (joined paths)) in
    let more = or_none (ltb line.label 1) (ltb due.most line.label || (leaves_range due line.leaves || rest)) ranged in
    let most = or_none (ltb due.most line.label) (leaves_range due line.leaves || rest) more.1 in
    leaves_few due line.leaves (or_none (leaves_range due line.leaves) rest most.1).0

lut_few : (due : Due) (least : ℕ) (lut : Lut) → lut_range due least lut ≡ false → length lut.leaves ≤ due.k
lut_few due least lut ranged =
    let rest = leaves_range due lut.leaves in
    let more = or_none (ltb lut.root least) (leb due.nodes lut.root || rest) ranged in
    leaves_few due lut.leaves (or_none (leb due.nodes lut.root) rest more.1).1

one_of : (b : Bool) (xs ys : List ℕ) (m : ℕ) → length xs ≤ m → length ys ≤ m → length (cond b xs ys) ≤ m
one_of true xs ys m x y = x
one_of false xs ys m x y = y

module _ (due : Due) (s : List ℕ) where
  listed_few : (left least at v : ℕ) → (luts_from due s left least at).ruling ≡ Ok tt → length (leaves_listed (luts_from due s left least at).read v) ≤ due.k
  unfolding luts_from leaves_listed
  listed_few zero least at v sound = omega arith
  listed_few (suc left) least at v sound =
      let lut = lut_at due s at in
      let rest = luts_from due s left (lut.root + 1) (end_at s at) in
      let ruled = first_sound (lut_ruling due s least at) lut at rest sound in
      let later = listed_few left (lut.root + 1) (end_at s at) v (rest_sound (lut_ruling due s least at) lut at rest sound) in
      omega (
        arith,
        ap (λ (l : List Lut). length (leaves_listed l v)) (all_read (lut_ruling due s least at) lut at rest sound),
        one_of (eqb lut.root v) lut.leaves (leaves_listed rest.read v) due.k (lut_few due least lut (lut_kept due s least at ruled).ranged) later,
      )

  node_few : Whole due s → (v : ℕ) → v < due.nodes → length (line_of_node due.inputs (reading due s).sheet.lines v).leaves ≤ due.k
  node_few all v node = by (dec_lt v due.inputs)
    where
      by : Dec (v < due.inputs) → length (line_of_node due.inputs (reading due s).sheet.lines v).leaves ≤ due.k
      by (yes less) = omega (arith, ap (λ (l : Line). length l.leaves) (input_line due s (reading due s).sheet.lines v less))
      by (no more) =
          let found : GateFound due s v (start_of s (end_at s 0) (v - due.inputs)) = gate_found due s all v (omega (arith, more)) node in
          let at = start_of s (end_at s 0) (v - due.inputs) in
          omega (arith, ap (λ (l : Line). length l.leaves) found.line, line_few due (line_at due s at) (line_kept due s at found.ruled).ranged)

module _ {due : Due} {s : List ℕ} {a a' : LineArrays} {b b' : LutArrays} {r : ℕ} (loadable : Loadable due s) (loaded : Loaded due s a b r a' b') where
  everything : Whole due s
  everything = whole due s loadable.sound

  pub holds_lines : LineRoom due.nodes a → HoldsLines due.inputs due.nodes (reading due s).sheet.lines a'.labels a'.cuts
  holds_lines room =
      let lines = (reading due s).sheet.lines in
      let filled = loaded.lines in
      let leaves : ℕ → List ℕ = λ v. (line_of_node due.inputs lines v).leaves in
      let few : (v : ℕ) → v < due.nodes → length (leaves v) ≤ 6 = λ v node. omega (arith, node_few due s everything v node, loadable.few) in
      let long : 7 * due.nodes ≤ length a'.cuts = omega (arith, room.cuts, filled.cuts.as_long) in
      record {
        labels_long = omega (arith, room.labels, filled.labels.as_long);
        cuts_long = long;
        label = λ v node. filled.labels.filled v (omega arith) node;
        cut = λ v node. list_held leaves filled.cuts long v node (few v node);
        six = λ v node. omega (arith, size_held leaves filled.cuts long v node (few v node), few v node);
      }

  pub holds_places : LineRoom due.nodes a → HoldsPlaces due s (reading due s).sheet.lines a'.places
  holds_places room =
      let places = loaded.lines.places in
      let there : (v : ℕ) → due.inputs ≤ v → v < due.nodes → start_of s (end_at s 0) (v - due.inputs) ≡ get_or a'.places v 0 =
      λ v more node. gate_place due s v more ∙ sym (places.filled v (omega arith) node) in
      record {
        long = omega (arith, room.places, places.as_long);
        line = λ v more node. ap (line_at due s) (sym (there v more node)) ∙ (gate_found due s everything v more node).line;
        sound = λ v more node. ap (line_ruling due s) (sym (there v more node)) ∙ (gate_found due s everything v more node).ruled;
      }

  pub holds_luts : LutRoom due.nodes b → HoldsLuts due.nodes (reading due s).sheet.luts b'.luts b'.cuts b'.tables
  holds_luts room =
      let luts = (reading due s).sheet.luts in
      let filled = loaded.luts in
      let few : (v : ℕ) → length (leaves_listed luts v) ≤ 6 =
      λ v. omega (
        arith,
        ap (λ (sheet : Sheet). length (leaves_listed sheet.luts v)) everything.sheet,
        listed_few due s (count_at due s) due.inputs (the_lines due s).next v everything.luts,
        loadable.few,
      ) in
      let long : 7 * due.nodes ≤ length b'.cuts = omega (arith, room.cuts, filled.cuts.as_long) in
      record {
        roots_long = omega (arith, room.luts, filled.luts.as_long);
        cuts_long = long;
        tables_long = omega (arith, room.tables, filled.tables.as_long);
        root = λ v node. filled.luts.filled v (omega arith) node;
        cut = λ v node. list_held (leaves_listed luts) filled.cuts long v node (few v);
        six = λ v node. omega (arith, size_held (leaves_listed luts) filled.cuts long v node (few v), few v);
        table = λ v node. filled.tables.filled v (omega arith) node;
      }

-- two ways to load a sheet are one
pub record Same (a a' : LineArrays) (b b' : LutArrays) (r r' : ℕ) : Type 0 where
  pub lines : a ≡ a'
  pub luts : b ≡ b'
  pub depth : r ≡ r'

pub loaded_one : {due : Due} {s : List ℕ} {a a' a'' : LineArrays} {b b' b'' : LutArrays} {r q : ℕ} → Loaded due s a b r a' b' → Loaded due s a b q a'' b'' →
    Same a' a'' b' b'' r q
loaded_one one two =
    let l = one.lines in
    let m = two.lines in
    let u = one.luts in
    let w = two.luts in
    record {
      lines =
          λ i. line_arrays (filled_one l.labels m.labels i) (filled_one l.cuts m.cuts i) (filled_one l.places m.places i);
      luts =
          λ i. lut_arrays (filled_one u.luts w.luts i) (filled_one u.cuts w.cuts i) (filled_one u.tables w.tables i);
      depth = one.depth ∙ sym two.depth;
    }
