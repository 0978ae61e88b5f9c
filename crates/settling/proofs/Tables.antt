-- What arrays ask and give for a table that was taken: the net, the tables and the outputs are those of the bytes.
use Prim.Native.Nat.{ℕ}
use mathlib.Core.Path.{◌≡◌, sym, subst}
use mathlib.Core.List.{List, Memᴰ}
use lib.ListN.{length, take}
use Rattle.storage.specs.declared.Numbers.{Numbers}
use Rattle.storage.specs.Drawings.{net_in, tables_in}
use Rattle.theory.specs.paper.Net.{Net, Gate}
use Rattle.theory.proofs.Cones.{cone_table_same}
use Rattle.drawing.specs.paper.Table.{net_of, tables_of}
use Rattle.drawing.specs.paper.Fields.{head_k, head_i}
use Rattle.drawing.specs.paper.Reading.{found, table_of, numbers_of, nodes_of}
use Rattle.drawing.proofs.SoundTables.{table_sound}
use Rattle.taking.specs.Judged.{Ready}
use Rattle.sheet.specs.paper.Sheet.{Sheet}
use Rattle.keeping.specs.paper.Mappers.{SheetWith}
use Rattle.settling.specs.Arrays.{TakenAsked}

mappers_same : {Asked : (ℕ → ℕ) → ℕ → List (List ℕ) → Type 0} {net : Net} {tables others : ℕ → ℕ} {k : ℕ} {outputs : List ℕ} {sheet : Sheet} →
    ((v : ℕ) → Gate net v → tables v ≡ others v) → SheetWith Asked net tables k outputs sheet → SheetWith Asked net others k outputs sheet
mappers_same same m =
    record {
      gates = m.gates;
      labels = m.labels;
      cuts = m.cuts;
      evidence = m.evidence;
      roots = m.roots;
      needed = m.needed;
      all = m.all;
      leaves = m.leaves;
      functions = λ v e. cone_table_same same (m.functions v e);
      depth = m.depth;
    }

module _ {s fanins rows outputs order : List ℕ} (ready : Ready s fanins rows outputs order) where
  pub taken_asked : {n : Numbers} → n ≡ numbers_of s → TakenAsked n fanins rows order outputs
  taken_asked {n} is =
      let table = table_sound s ready.taken.whole in
      subst (λ (m : Numbers). TakenAsked m fanins rows order outputs) (sym is)
      (record {
        drawing = ready.drawing;
        some = table.head.inputs_least;
        nodes_most = table.head.nodes_most;
        rows_long = ready.rows_long;
        outputs_long = ready.outputs_long;
        output_nodes = λ v m. table.nodes_only v (subst (Memᴰ v) ready.outputs_held m);
      })

  -- the sheet of the arrays' drawing is the table's, whatever is asked of the paths
  pub sheet_of_table : (Asked : Net → (ℕ → ℕ) → ℕ → List (List ℕ) → Type 0) {sheet : Sheet} →
      SheetWith (Asked (net_in (head_i s) (nodes_of s) fanins)) (net_in (head_i s) (nodes_of s) fanins) (tables_in rows) (head_k s)
      (take (length (found s).outputs) outputs) sheet →
      SheetWith (Asked (net_of (table_of s))) (net_of (table_of s)) (tables_of (table_of s)) (head_k s) (found s).outputs sheet
  sheet_of_table Asked {sheet} m =
      mappers_same ready.tables
      (subst (λ (net : Net). SheetWith (Asked net) net (tables_in rows) (head_k s) (found s).outputs sheet) ready.net
      (subst
      (λ (o : List ℕ). SheetWith (Asked (net_in (head_i s) (nodes_of s) fanins)) (net_in (head_i s) (nodes_of s) fanins) (tables_in rows) (head_k s) o sheet)
      ready.outputs_held m))
