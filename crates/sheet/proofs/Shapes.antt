-- A sheet whose lines and LUTs are a drawing's is in shape, so that it reads back: cuts, evidence and labels are within the range rules, and
-- all numbers fit their bytes.
use Prim.Native.Nat.{ℕ, suc, ◌+◌, ◌-◌, ◌^◌, ◌<◌, ◌≤◌}
use native.Mathlib.Nat.{mul-le-mul}
use native.Mathlib.Omega.{arith}
use mathlib.Core.Path.{◌≡◌, refl, ap}
use mathlib.Core.Bool.{true, false, ◌||◌, or-true}
use mathlib.Core.List.Memᴰ
use mathlib.Core.List.{List, [], ◌∷◌, Memᴰ}
use borrow.Author.Tests.{lt-ltb, le-ltb, lt-leb, eq-eqb, ne_eqb}
use lib.ListN.{length, get_or, length-append}
use lib.Dec.{eqb}
use Rattle.theory.specs.paper.Net.{Net, Gate, Input}
use Rattle.theory.specs.paper.Lists.{Rising}
use Rattle.theory.specs.paper.Walk.{Cut}
use Rattle.theory.specs.paper.Evidence.{TruePath, joined}
use Rattle.theory.proofs.Walks.{met_node}
use Rattle.drawing.specs.paper.Bytes.{some_from}
use Rattle.sheet.specs.declared.Form.{Form}
use Rattle.sheet.specs.paper.Sheet.{Line, Lut, Sheet, no_line}
use Rattle.sheet.specs.paper.Encoding.{narrow, line_value}
use Rattle.sheet.specs.Longest.{Backed, Drawing, Kept, line_most, no_lut}
use Rattle.sheet.specs.paper.Shape.{Due, rising, some_empty, leaves_range}
use Rattle.sheet.specs.Shape.{Below, LineShaped, LutShaped, LinesShaped, LutsShaped, Shaped, due_from}
use Rattle.sheet.proofs.Lengths.{length_field}
use Rattle.sheet.proofs.Longest.{ids_few, line_short, on_a_path}

abbrev pub due_for : Form → (most k : ℕ) → Net → Due
due_for form most k net = due_from form most k net.inputs net.nodes

-- the numbers of such a drawing's sheets fit their bytes
pub record Fitting (form : Form) (most k nodes : ℕ) : Type 0 where
  pub nodes_fit : nodes ≤ 256 ^ form.width
  pub most_fits : most < 256 ^ form.width
  pub few : k + 1 < 256
  pub narrow : form.width ≤ 8
  pub short : line_most form.width k nodes < 256 ^ 2

-- each test, from what it tests
rises : {vs : List ℕ} → Rising vs → rising vs ≡ true
unfolding rising
rises Rising.none = refl
rises Rising.one = refl
rises (Rising.more {u = u} {v = v} less later) = rw (lt-ltb u v less) (rises later)

pub none_from : (n : ℕ) (vs : List ℕ) → Below n vs → some_from n vs ≡ false
unfolding some_from
none_from n [] below = refl
none_from n (v ∷ vs) below = rw (lt-leb n v (below v (Memᴰ.head refl))) (none_from n vs (λ u m. below u (Memᴰ.tail m)))

none_empty : (paths : List (List ℕ)) → ((path : List ℕ) → Memᴰ path paths → 1 ≤ length path) → some_empty paths ≡ false
unfolding some_empty
none_empty [] each = refl
none_empty (path ∷ paths) each =
    rw (ne_eqb (length path) 0 (λ e. omega (arith, each path (Memᴰ.head refl)))) (none_empty paths (λ p m. each p (Memᴰ.tail m)))

-- a path is no longer than all together, and its ids are among theirs
path_among : (paths : List (List ℕ)) (path : List ℕ) → Memᴰ path paths → length path ≤ length (joined paths)
unfolding joined
path_among [] path m = absurd (Memᴰ.not-nil m)
path_among (p ∷ paths) path (Memᴰ.head e) = omega (arith, length-append p (joined paths), ap length e)
path_among (p ∷ paths) path (Memᴰ.tail m) = omega (arith, length-append p (joined paths), path_among paths path m)

module _ {net : Net} {k : ℕ} (drawing : Drawing net k) {form : Form} {most : ℕ} (fitting : Fitting form most k net.nodes) where
  cut_nodes : {t : ℕ} {leaves : List ℕ} → t < net.nodes → Cut net k t leaves → Below net.nodes leaves
  cut_nodes node cut v m = met_node drawing.bounded node (cut.met v m)

  leaves_range_lem : {t : ℕ} {leaves : List ℕ} → t < net.nodes → Cut net k t leaves → leaves_range (due_for form most k net) leaves ≡ false
  leaves_range_lem {leaves = leaves} node cut =
      rw (
        le-ltb (length leaves) 1 cut.some,
        le-ltb k (length leaves) cut.few,
        rises cut.rising,
        none_from net.nodes leaves (cut_nodes node cut),
      )

  -- what the range rules ask of paths
  record PathsIn (paths : List (List ℕ)) : Type 0 where
    counted : (eqb (length paths) 0 || eqb (length paths) (k + 1)) ≡ true
    few : length paths ≤ k + 1
    filled : (path : List ℕ) → Memᴰ path paths → 1 ≤ length path
    nodes : (path : List ℕ) → Memᴰ path paths → Below net.nodes path
    short : length (joined paths) < net.nodes

  module _ {lab : ℕ → ℕ} (inputs_zero : (v : ℕ) → Input net v → lab v ≡ 0) {t : ℕ} (gate : Gate net t) where
    paths_in_lem : {paths : List (List ℕ)} → Backed net k lab t paths → PathsIn paths
    unfolding joined
    paths_in_lem Backed.bare =
        record {
          counted = refl;
          few = omega arith;
          filled = λ path m. absurd (Memᴰ.not-nil m);
          nodes = λ path m. absurd (Memᴰ.not-nil m);
          short = omega (arith, gate.below);
        }
    paths_in_lem (Backed.proven {paths = paths} due evidence) =
        record {
          counted = rw (eq-eqb (length paths) (k + 1) (omega (arith, evidence.count))) (or-true (eqb (length paths) 0));
          few = omega (arith, evidence.count);
          filled = λ path m. let p : TruePath net lab t path = evidence.each path m in omega (arith, ap length p.whole);
          nodes = λ path m v on. met_node drawing.bounded gate.below ((evidence.each path m).behind v on);
          short = omega (arith, ids_few drawing inputs_zero gate due evidence);
        }

    pub line_shaped : (line : Line) → 1 ≤ line.label → line.label ≤ most → Cut net k t line.leaves → Backed net k lab t line.paths →
        LineShaped (due_for form most k net) line
    line_shaped line least greatest cut backed =
        let paths : PathsIn line.paths = paths_in_lem backed in
        let all : Below net.nodes (joined line.paths) =
        λ v m. let (path, among, on) = on_a_path line.paths v m in paths.nodes path among v on in
        record {
          in_range =
              rw (
                le-ltb line.label 1 least,
                le-ltb most line.label greatest,
                leaves_range_lem gate.below cut,
                paths.counted,
                none_empty line.paths paths.filled,
                none_from net.nodes (joined line.paths) all,
              );
          label = omega (arith, fitting.most_fits);
          few = omega (arith, cut.few, fitting.few);
          leaves = λ v m. omega (arith, cut_nodes gate.below cut v m, fitting.nodes_fit);
          some = omega (arith, paths.few, fitting.few);
          lengths = λ path m. omega (arith, path_among line.paths path m, paths.short, fitting.nodes_fit);
          ids = λ path m v on. omega (arith, paths.nodes path m v on, fitting.nodes_fit);
          whole = omega (arith, line_short drawing inputs_zero gate form line cut backed, length_field form.line (line_value form line), fitting.short);
        }

  pub lut_shaped : (least : ℕ) (lut : Lut) → least ≤ lut.root → lut.root < net.nodes → Cut net k lut.root lut.leaves → lut.table < 256 ^ 8 →
      LutShaped (due_for form most k net) least lut
  lut_shaped least lut above below cut rows =
      record {
        in_range = rw (le-ltb lut.root least above, lt-leb net.nodes lut.root below, leaves_range_lem below cut);
        root = omega (arith, fitting.nodes_fit);
        few = omega (arith, cut.few, fitting.few);
        leaves = λ v m. omega (arith, cut_nodes below cut v m, fitting.nodes_fit);
        table = rows;
        whole = omega (arith, mul-le-mul {n₁ = length lut.leaves} {n₂ = 254} (omega (arith, cut.few, fitting.few)) fitting.narrow, fitting.narrow);
      }

all_lines : {due : Due} (lines : List Line) → ((i : ℕ) → i < length lines → LineShaped due (get_or lines i no_line)) → LinesShaped due lines
all_lines [] each = LinesShaped.none
all_lines (line ∷ lines) each = LinesShaped.more (each 0 (omega arith)) (all_lines lines (λ i inside. each (suc i) (omega arith)))

all_luts : {due : Due} (luts : List Lut) (least : ℕ) → (1 ≤ length luts → least ≤ (get_or luts 0 no_lut).root) →
    ((i : ℕ) → suc i < length luts → (get_or luts i no_lut).root < (get_or luts (suc i) no_lut).root) →
    ((i low : ℕ) → i < length luts → low ≤ (get_or luts i no_lut).root → LutShaped due low (get_or luts i no_lut)) → LutsShaped due least luts
all_luts [] least low rise each = LutsShaped.none
all_luts (lut ∷ luts) least low rise each =
    LutsShaped.more (each 0 least (omega arith) (low (omega arith)))
    (all_luts luts (lut.root + 1) (λ some. omega (arith, rise 0 (omega arith))) (λ i inside. rise (suc i) (omega arith)) (λ i bound inside above. each (suc i) bound (omega arith) above))

-- What the range rules ask besides: labels and the depth up to the greatest, roots that are gates and rise, tables of eight bytes.
pub record Numbered (net : Net) (most : ℕ) (sheet : Sheet) : Type 0 where
  pub depth : sheet.depth ≤ most
  pub least : (i : ℕ) → i < length sheet.lines → 1 ≤ (get_or sheet.lines i no_line).label
  pub greatest : (i : ℕ) → i < length sheet.lines → (get_or sheet.lines i no_line).label ≤ most
  pub roots : (i : ℕ) → i < length sheet.luts → Gate net (get_or sheet.luts i no_lut).root
  pub rise : (i : ℕ) → suc i < length sheet.luts → (get_or sheet.luts i no_lut).root < (get_or sheet.luts (suc i) no_lut).root
  pub tables : (i : ℕ) → i < length sheet.luts → (get_or sheet.luts i no_lut).table < 256 ^ 8

pub sheet_shaped : {net : Net} {k : ℕ} → Drawing net k → {form : Form} {most : ℕ} → Fitting form most k net.nodes →
    {lab : ℕ → ℕ} {sheet : Sheet} → Kept net k lab sheet → Numbered net most sheet → Shaped (due_for form most k net) sheet
sheet_shaped {net} {k} drawing {form} {most} fitting {lab} {sheet} kept numbered =
    let gates : length sheet.lines ≡ net.nodes - net.inputs = omega (arith, kept.gates) in
    record {
      gates = gates;
      in_range =
          rw
          (le-ltb most sheet.depth numbered.depth, le-ltb (net.nodes - net.inputs) (length sheet.luts) (omega (arith, kept.few, gates)));
      depth = omega (arith, numbered.depth, fitting.most_fits);
      count = omega (arith, kept.few, gates, drawing.some, fitting.nodes_fit, some_nodes);
      narrow = omega (arith, fitting.narrow);
      lines =
          all_lines sheet.lines (λ i inside.
          line_shaped drawing fitting kept.inputs
          (record { above = omega arith; below = omega (arith, kept.gates) }) (get_or sheet.lines i no_line)
          (numbered.least i inside) (numbered.greatest i inside) (kept.cuts i inside) (kept.backed i inside));
      luts =
          all_luts sheet.luts net.inputs (λ some. (numbered.roots 0 some).above) numbered.rise (λ i low inside above.
          lut_shaped drawing fitting low (get_or sheet.luts i no_lut) above (numbered.roots i inside).below (kept.lut_cuts i inside) (numbered.tables i inside));
    }
  where
    some_nodes : 1 ≤ net.nodes
    some_nodes = omega (arith, kept.gates, drawing.some)

-- a narrow sheet of a drawing that document 01 takes
pub narrow_fits : {k n : ℕ} → k ≤ 6 → n ≤ 192 → Fitting narrow 191 k n
narrow_fits {k} {n} few nodes =
    record { nodes_fit = omega arith; most_fits = omega arith; few = omega arith; narrow = omega arith; short = omega arith }
